-- The rows of a schema tree, and what the leafrefs among them say (RFC 7950, section 9.9).
use Rattle.std.specs.Prelude.{◌≡◌, ℕ, List, Bool, Option, None, slice_get}
use Rattle.std.specs.List.{slice_index_or}
use Rattle.std.specs.Option.{option_and_then}
use Rattle.yv_node_content.specs.Steps.{Step}
use Rattle.yv_nodes.specs.Rows.{Row}

-- what the type of a leafref says: the number of `../` at the front of its path, none where that is
-- absolute, the names after, of which one is None where its prefix refers to no module, and what
-- `require-instance` says
pub record Referral : Type 0 where
  pub climbs : Option ℕ
  pub steps : List (Option Step)
  pub is_required : Bool

-- numbered rows, and what the row of a number says as a leafref, if it is one
pub record Schema : Type 0 where
  pub rows : List Row
  pub says : ℕ → Option Referral

-- what is said where copies of a node share it: for each row its number among these, if the row is
-- a leafref
abbrev pub leafref_of_row : (of : List (Option ℕ)) → (leafrefs : List Referral) → ℕ
    → Option Referral
leafref_of_row of leafrefs n = option_and_then (slice_get leafrefs) (slice_index_or of n None)

-- two schemas with the same rows, which say the same
pub record AreAlike (s t : Schema) : Type 0 where
  pub rows : s.rows ≡ t.rows
  pub says : (n : ℕ) → s.says n ≡ t.says n
