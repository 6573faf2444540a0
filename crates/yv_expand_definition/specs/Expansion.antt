-- What the files of implemented modules expand to (RFC 7950, sections 7.12 to 7.17).
use Rattle.std.specs.Prelude.{◌≡◌, ℕ, Bool, true, false, List, [], ◌∷◌, map, Some, slice_get, slice_index_or}
use Rattle.std.specs.List.{Contains}
use Rattle.yv_link_scopes.specs.Files.{Briefs, Files, brief_of, module_file_at}
use Rattle.yv_link_scopes.specs.RowList.{rows_of}
use Rattle.yv_link_scopes.specs.Rows.{Row}
use Rattle.yv_link_definitions.specs.Refers.{RefersTo, is_uses}
use Rattle.yv_expand_statements.specs.StatementBlocks.{top_of, augments_of}
use Rattle.yv_expand_definition.specs.Gives.{Gives, Product, both, nothing}
use Rattle.yv_expand_definition.specs.Rounds.{Rounds}

-- what the tops of files give, in this order
pub data Tops (files : Files) : (order : List ℕ) → Product → Type 0 where
  no_files : Tops files [] nothing
  one_more : {file : ℕ} {others : List ℕ} {m behind : Product}
      → Gives files (module_file_at (map brief_of files) file) []
      (top_of (map brief_of files) (rows_of files) file) m → Tops files others behind
      → Tops files (file ∷ others) (both m behind)

-- What files expand to, and what is refused of their refines and augments: the files of the modules
-- that are implemented, module by module in this order, and the augments of those that are marked.
pub record Expand (files : Files) (marks : List Bool) (order : List ℕ) (m : Product) : Type 0 where
  pub own : Product
  pub tops : Tops files order own
  pub rounds : Rounds files (augments_of (map brief_of files) (rows_of files) marks) own m

-- each uses refers to a grouping (section 7.13)
abbrev pub AllRefer : Briefs → List Row → Type 0
AllRefer files rows = (k : ℕ) (r : Row) → slice_get rows k ≡ Some r → is_uses r ≡ true
    → (d : ℕ) × RefersTo files rows k d

-- the files of this order are marked
abbrev pub AreMarked : (marks : List Bool) → (order : List ℕ) → Type 0
AreMarked marks order = (file : ℕ) → Contains order file → slice_index_or marks file false ≡ true
