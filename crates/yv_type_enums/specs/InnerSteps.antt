-- Only private clauses cite this: one type, and the types so far.
use Rattle.std.specs.Prelude.{◌≡◌, ◌↔◌, ℕ, List, Option, Some, map, slice_get}
use Rattle.std.specs.List.{Contains}
use Rattle.yv_base_tables.specs.declared.table.Table.{Table}
use Rattle.yv_text_statement.specs.Order.{IsLeast}
use Rattle.yv_text_statement.specs.Tree.{Tree}
use Rattle.yv_text_statement.specs.declared.refusal.Refusal.{Refusal}
use Rattle.yv_link_scopes.specs.Files.{Files, brief_of}
use Rattle.yv_link_scopes.specs.Rows.{Row}
use Rattle.yv_link_scopes.specs.RowList.{rows_of}
use Rattle.yv_type_chains.specs.Types.{Follows}
use Rattle.yv_type_enums.specs.Types.{Truth, NamesView, Start, HasNames, IsFaultBy, names_of_start}
use Rattle.yv_type_enums.specs.Refusals.{BadType}
use Rattle.yv_type_enums.specs.TypeNames.{told_at}
use Rattle.yv_type_enums.specs.declared.table.TypeNames.{TypeNames}

-- what is known of a type statement, and the refusal of its first wrong entry
pub record IsRead (truth : Truth) (file : ℕ) (t : Tree) (s : Start) (told : Option NamesView)
    (fault : Option Refusal) : Type 0 where
  pub tells : told ≡ Some (names_of_start truth file t s)
  pub first : IsFaultBy file t s fault

-- what is wrong with the entries of the numbered statement
abbrev pub BadAt : Files → Truth → ℕ → Refusal → Type 0
BadAt files truth k f =
    (r : Row) × (slice_get (rows_of files) k ≡ Some r) × BadType files truth k r f

-- this is what is known of the numbered statement, and the least that is wrong with its entries
pub record IsStep (files : Files) (truth : Truth) (k : ℕ) (told : Option NamesView)
    (fault : Option Refusal) : Type 0 where
  pub exact : (x : NamesView) → (told ≡ Some x) ↔ HasNames files truth k x
  pub least : IsLeast (BadAt files truth k) fault

-- the table tells of those
abbrev pub AreKnown : Files → Truth → (ℕ → Type 0) → Table TypeNames → Type 0
AreKnown files truth Those types =
    (k : ℕ) → Those k → (x : NamesView) → (told_at types k ≡ Some x) ↔ HasNames files truth k x

-- what type k follows
abbrev pub IsFollowed : Files → ℕ → ℕ → Type 0
IsFollowed files k j = Follows (map brief_of files) (rows_of files) k j

-- what is wrong with the entries of one of those
abbrev pub BadAmong : Files → Truth → List ℕ → Refusal → Type 0
BadAmong files truth ks f = (k : ℕ) × Contains ks k × BadAt files truth k f

-- the table tells of these numbers, and of no others
abbrev pub AreTold : Files → Truth → List ℕ → Table TypeNames → Type 0
AreTold files truth ks types = (k : ℕ) (x : NamesView) → (told_at types k ≡ Some x)
    ↔ (Contains ks k × HasNames files truth k x)
