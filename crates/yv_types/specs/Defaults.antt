-- The default that a type has by its typedefs (RFC 7950, sections 7.3.4 and 7.6.1).
use Rattle.std.specs.Prelude.{◌≡◌, ℕ, Bool, map, Option, Some, None, codes, slice_get}
use Rattle.std.specs.List.{find}
use Rattle.std.specs.Option.{option_and_then, option_map}
use Rattle.yv_text_statement.specs.Tree.{Tree, trees, name_of}
use Rattle.yv_link_scopes.specs.Files.{Files, brief_of, has_word}
use Rattle.yv_link_scopes.specs.Rows.{Row}
use Rattle.yv_link_scopes.specs.RowList.{rows_of, statements_of}
use Rattle.yv_link_scopes.specs.declared.kind.NameKind.TheVariants.{Typedef}
use Rattle.yv_link_definitions.specs.Refers.{Refers}
use Rattle.yv_type_chains.specs.Types.{type_of}
use Rattle.yv_text_statement.specs.TextInFile.{TextInFile}

-- a statement is a `default`
abbrev pub is_default : Tree → Bool
is_default t = has_word (codes "default") t.head

-- the argument of a statement of a file
abbrev pub written_in : ℕ → Tree → TextInFile
written_in file t = record { text = name_of t.head; file = file }

-- what the first `default` in the block of a statement says
abbrev pub default_in : ℕ → Tree → Option TextInFile
default_in file t = option_map (written_in file) (find is_default (trees t.children))

-- what it says in the block of the numbered statement, with the file in which it is written:
-- prefixes in it are those of this file
abbrev pub default_at : Files → ℕ → Option TextInFile
default_at files k =
    option_and_then (λ (r : Row). option_and_then (default_in r.file)
    (slice_get (statements_of files) k)) (slice_get (rows_of files) k)

-- type k names typedef d
abbrev pub Means : Files → ℕ → ℕ → Type 0
Means files k d = Refers (map brief_of files) (rows_of files) Typedef k d

-- The default that type k has by its typedefs: that of the nearest that says one, from the typedef
-- that k names on, along the typedefs' own types. A typedef without a type, which no file that
-- conforms has, ends the way.
pub data HasDefault (files : Files) : ℕ → Option TextInFile → Type 0 where
  no_typedef : {k : ℕ} → ((d : ℕ) → Means files k d → ⊥) → HasDefault files k None
  nearest : {k d : ℕ} {w : TextInFile} → Means files k d → default_at files d ≡ Some w
      → HasDefault files k (Some w)
  further : {k d j : ℕ} {found : Option TextInFile} → Means files k d → default_at files d ≡ None
      → type_of (rows_of files) d ≡ Some j
      → HasDefault files j found → HasDefault files k found
  no_type : {k d : ℕ} → Means files k d → default_at files d ≡ None
      → type_of (rows_of files) d ≡ None → HasDefault files k None

-- this is the default of the type of this number by its typedefs; none, where there is no type
abbrev pub IsDefault : Files → Option ℕ → Option TextInFile → Type 0
IsDefault files None default = default ≡ None
IsDefault files (Some k) default = HasDefault files k default
