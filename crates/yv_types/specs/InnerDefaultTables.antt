-- Inner definitions, which only private clauses and the tables cite: what typedefs say, by number.
use Rattle.std.specs.Prelude.{◌≡◌, ℕ, List, Option, None, if◌then◌else◌, map, slice_get}
use Rattle.std.specs.Option.{option_and_then, option_map}
use Rattle.yv_text_statement.specs.Tree.{Tree}
use Rattle.yv_link_scopes.specs.Files.{Files, brief_of}
use Rattle.yv_link_scopes.specs.Rows.{Row}
use Rattle.yv_link_scopes.specs.RowList.{rows_of, statements_of}
use Rattle.yv_link_scopes.specs.declared.kind.NameKind.TheVariants.{Typedef}
use Rattle.yv_link_definitions.specs.Duplicates.{is_of}
use Rattle.yv_base_tables.specs.Slots.{at}
use Rattle.yv_type_chains.specs.Types.{Follows}
use Rattle.yv_text_statement.specs.TextInFile.{TextInFile, written_of}
use Rattle.yv_text_statement.specs.declared.written_text.WrittenText.{WrittenText}
use Rattle.yv_types.specs.Defaults.{HasDefault, Means, default_at, default_in}

-- what a typedef says; nothing where the statement is none
abbrev pub default_of_typedef : Row → Tree → Option TextInFile
default_of_typedef r t = if is_of Typedef r then default_in r.file t else None

abbrev pub said_at : Files → ℕ → Option TextInFile
said_at files k = option_and_then
    (λ (r : Row). option_and_then (default_of_typedef r) (slice_get (statements_of files) k))
    (slice_get (rows_of files) k)

-- the text at a place, if there is one
abbrev pub text_at : List (Option WrittenText) → ℕ → Option TextInFile
text_at texts k = option_and_then (option_map written_of) (slice_get texts k)

-- the table has what the typedefs say that types name
abbrev pub AreSaid : Files → List (Option WrittenText) → Type 0
AreSaid files said = (k d : ℕ) → Means files k d → text_at said d ≡ default_at files d

-- the text at the place that is found
abbrev pub text_from : List (Option WrittenText) → Option ℕ → Option TextInFile
text_from said found = option_and_then (text_at said) found

-- what type k follows
abbrev pub IsFollowed : Files → ℕ → ℕ → Type 0
IsFollowed files k j = Follows (map brief_of files) (rows_of files) k j

-- the table has the typedefs whose defaults those have
abbrev pub AreFound : Files → List (Option WrittenText) → (ℕ → Type 0) → List (Option ℕ) → Type 0
AreFound files said Those found =
    (k : ℕ) → Those k → HasDefault files k (text_from said (at found k))
