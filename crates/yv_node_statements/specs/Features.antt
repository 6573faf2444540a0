-- The texts of `if-feature` statements (RFC 7950, section 7.20.2), to be shown to a reader.
use Rattle.std.specs.Prelude.{ℕ, ◌==◌, Bool, false, not, ◌&&◌, ◌||◌, List, [], ◌∷◌, ◌++◌, map, if◌then◌else◌, encode_utf8_all}
use Rattle.std.specs.List.{filter, join_with_byte}
use Rattle.std.specs.Str.{chars}
use Rattle.yv_text_statement.specs.Tree.{Tree, trees}
use Rattle.yv_text_if_feature.specs.Tokens.{is_empty}
use Rattle.yv_text_statement.specs.declared.keyword.Keyword.TheVariants as word
use Rattle.yv_link_scopes.specs.Files.{Files}
use Rattle.yv_node_properties.specs.Statements.{arguments_among, statement_at}

-- a space, a tab, a CR or an LF
abbrev pub is_blank : ℕ → Bool
is_blank c = c == 32 || c == 9 || c == 13 || c == 10

-- the first of these characters is a blank
abbrev pub begins_blank : List ℕ → Bool
begins_blank [] = false
begins_blank (c ∷ cs) = is_blank c

-- a space for a blank; other characters stand as they are
abbrev pub space_for_blank : ℕ → ℕ
space_for_blank c = if is_blank c then 32 else c

-- these characters with each run of blanks as one space: a blank before another one is left out
abbrev pub single_spaced : List ℕ → List ℕ
single_spaced [] = []
single_spaced (c ∷ cs) =
    if is_blank c && begins_blank cs then single_spaced cs else space_for_blank c ∷ single_spaced cs

-- a text with each run of blanks as one space
abbrev pub with_single_spaces : List ℕ → List ℕ
with_single_spaces text = encode_utf8_all (single_spaced (chars text))

-- those of these texts that aren't empty, in order, with a comma between each two
abbrev pub join_with_commas : List (List ℕ) → List ℕ
join_with_commas texts = join_with_byte 44 (filter (λ t. not (is_empty t)) texts)

-- the expressions of the `if-feature` statements among these, in order
abbrev pub expressions : List Tree → List (List ℕ)
expressions ts = arguments_among word.IfFeature ts

-- those of the blocks of these numbered statements, in order
abbrev pub all_expressions : Files → List ℕ → List (List ℕ)
all_expressions files [] = []
all_expressions files (refine ∷ refines) =
    expressions (trees (statement_at files refine).children) ++ all_expressions files refines

-- conditions as they are shown: expressions, separated by commas
abbrev pub if_features : List (List ℕ) → List ℕ
if_features es = join_with_commas (map with_single_spaces es)

-- conditions as they are shown, and after them these expressions
abbrev pub with_expressions : List ℕ → List (List ℕ) → List ℕ
with_expressions text es = join_with_commas (text ∷ map with_single_spaces es)
