use Rattle.std.proofs.Common.{◌≡◌, ◌↔◌, ℕ, length, take, None, Some}
use Rattle.std.specs.List.{Contains}
use Rattle.yv_link_scopes.specs.Views.{files_in, rows_in}
use Rattle.yv_type_chains.specs.Types.{HasBase, IsOrderOfTypes}
use Rattle.yv_base_tables.specs.Slots.{at}
use Rattle.yv_type_chains.specs.InnerTables.{AreFollowed}
use Rattle.yv_type_chains.proofs.draft.Draft.bases.Given as goal

abbrev pub invariant-loop-number : goal.invariant-loop-number
invariant-loop-number l = record {
  each : length l.bases.items ≡ length (rows_in l.self.rows.now);
  empty : (k : ℕ) → (Contains l.order k → ⊥) → at l.bases.items k ≡ None;
  told : AreFollowed (files_in l.self.rows.now) (rows_in l.self.rows.now) l.self.follows.items
      → IsOrderOfTypes (files_in l.self.rows.now) (rows_in l.self.rows.now) l.order
      → (k : ℕ) → Contains (take l.number-index l.order) k → (b : ℕ) → (at l.bases.items k ≡ Some b) ↔ HasBase (files_in l.self.rows.now) (rows_in l.self.rows.now) k b;
}
