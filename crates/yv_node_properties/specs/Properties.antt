-- The properties of a node that refines may change (RFC 7950, section 7.13.2), by the statements
-- that say them.
use Rattle.std.specs.Prelude.{ℕ, ◌^◌, nat_lt, Bool, false, ℤ, pos, List, [], ◌∷◌, Option, Some, None, is_some, codes, filter, map, if◌then◌else◌}
use Rattle.std.specs.Option.{option_map, option_or, unwrap_or}
use Rattle.std.specs.Str.{bytes_eq}
use Rattle.yv_text_statement.specs.Tree.{Tree, name_of, trees}
use Rattle.yv_text_statement.specs.declared.keyword.Keyword.{Keyword}
use Rattle.yv_text_statement.specs.declared.keyword.Keyword.TheVariants as word
use Rattle.yv_link_scopes.specs.Files.{Files}
use Rattle.yv_expand_statements.specs.declared.origin.Origin.{Origin}
use Rattle.yv_expand_statements.specs.declared.origin.Origin.TheVariants as origin
use Rattle.yv_base_numbers.specs.Numbers.{integer_of}
use Rattle.yv_text_statement.specs.TextInFile.{TextInFile, or_list}
use Rattle.yv_node_properties.specs.Statements.{file_at, first_of, is_of, statement_at}

-- what is said by a substatement of each keyword, if it is
abbrev pub Substatements : Type 0
Substatements = Keyword → Option TextInFile

-- the argument of a statement of a file
abbrev pub written_in : (file : ℕ) → Tree → TextInFile
written_in file t = record { text = name_of t.head; file = file }

-- what a statement of a file says: of each keyword, its first substatement does
abbrev pub substatements_of : (file : ℕ) → Tree → Substatements
substatements_of file t keyword = option_map (written_in file) (first_of keyword t.children)

-- what a numbered statement says
abbrev pub said_at : Files → ℕ → Substatements
said_at files number = substatements_of (file_at files number) (statement_at files number)

-- what the last of these numbered statements says that says something of this kind
abbrev pub last_said : Files → List ℕ → Substatements
last_said files [] keyword = None
last_said files (n ∷ ns) keyword = option_or (last_said files ns keyword) (said_at files n keyword)

-- the defaults that a statement of a file gives: those of all its `default` statements, in order
abbrev pub defaults_of : (file : ℕ) → Tree → List TextInFile
defaults_of file t = map (written_in file) (filter (is_of word.Default) (trees t.children))

-- those that a numbered statement gives
abbrev pub defaults_at : Files → ℕ → List TextInFile
defaults_at files number = defaults_of (file_at files number) (statement_at files number)

-- the defaults that the last of these numbered statements gives that gives some: they replace all
-- earlier ones
abbrev pub last_defaults : Files → List ℕ → List TextInFile
last_defaults files [] = []
last_defaults files (n ∷ ns) = or_list (last_defaults files ns) (defaults_at files n)

-- the statements that say what a node of this origin is
abbrev pub statements_of_origin : Origin → List ℕ
statements_of_origin (origin.Statement number) = number ∷ []
statements_of_origin (origin.Input number) = []
statements_of_origin (origin.Output number) = []

-- a text is `true`
abbrev pub is_true : TextInFile → Bool
is_true w = bytes_eq w.text (codes "true")

-- a number of 32 bits; no file that conforms has a greater one, and `unbounded` is none
abbrev pub elements : Option ℤ → Option ℕ
elements (Some (pos n)) = if nat_lt n (2 ^ 32) then Some n else None
elements _ = None

-- a number of list entries
abbrev pub elements_of : TextInFile → Option ℕ
elements_of w = elements (integer_of w.text)

-- the least number of list entries
abbrev pub least_of : TextInFile → ℕ
least_of w = unwrap_or (elements_of w) 0

-- what is said of each property but defaults; a `max` of none is `unbounded`
pub record Properties : Type 0 where
  pub config : Option Bool
  pub mandatory : Option Bool
  pub presence : Bool
  pub min : Option ℕ
  pub max : Option (Option ℕ)

-- sections 7.21.1, 7.6.5, 7.5.5, 7.7.5 and 7.7.6
abbrev pub properties_of : Substatements → Properties
properties_of said = record {
  config = option_map is_true (said word.Config);
  mandatory = option_map is_true (said word.Mandatory);
  presence = is_some (said word.Presence);
  min = option_map least_of (said word.MinElements);
  max = option_map elements_of (said word.MaxElements);
}
