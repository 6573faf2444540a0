-- References to definitions, and to the statements that name them.
use Rattle.std.specs.Prelude.{◌≡◌, ℕ, ◌==◌, ◌&&◌, Bool, List, map, Option, Some, slice_get}
use Rattle.yv_link_scopes.specs.Names.{first_where}
use Rattle.yv_link_scopes.specs.Files.{Files, brief_of, has_word}
use Rattle.yv_link_scopes.specs.Rows.{Row}
use Rattle.yv_link_scopes.specs.RowList.{rows_of}
use Rattle.yv_link_definitions.specs.Refers.{RefersTo}
use Rattle.yv_link_definitions.specs.declared.references.DefRef.{DefRef}

-- a statement's file and offset
abbrev pub ref_of : Row → DefRef
ref_of r = record { file = r.file; offset = r.head.offset }

-- a statement with this keyword has this place
abbrev pub is_at : List ℕ → ℕ → ℕ → Row → Bool
is_at word file offset r = has_word word r.head && ((r.file == file) && (r.head.offset == offset))

-- the number of the statement of a keyword at an offset of a file: the first
abbrev pub number_at : List Row → List ℕ → ℕ → ℕ → Option ℕ
number_at rows word file offset = first_where (is_at word file offset) rows

-- the statement of the keyword there refers to the definition at the place of the reference
pub record RefersAt (files : Files) (word : List ℕ) (file offset : ℕ) (ref : DefRef) : Type 0 where
  pub number : ℕ
  pub stands : number_at (rows_of files) word file offset ≡ Some number
  pub meant : ℕ
  pub refers : RefersTo (map brief_of files) (rows_of files) number meant
  pub definition : Row
  pub at : slice_get (rows_of files) meant ≡ Some definition
  pub is : ref ≡ ref_of definition
