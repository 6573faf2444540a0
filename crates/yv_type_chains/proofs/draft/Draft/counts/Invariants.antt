use Rattle.std.proofs.Common.{◌≡◌, ℕ, length, take, None}
use Rattle.std.specs.List.{Contains}
use Rattle.yv_link_scopes.specs.Views.{files_in, rows_in}
use Rattle.yv_type_chains.specs.Types.{IsOrderOfTypes}
use Rattle.yv_type_chains.specs.InnerCounts.{IsCount}
use Rattle.yv_base_tables.specs.Slots.{at}
use Rattle.yv_type_chains.specs.InnerTables.{AreFollowed}
use Rattle.yv_type_chains.proofs.draft.Draft.counts.Given as goal

abbrev pub invariant-loop-number : goal.invariant-loop-number
invariant-loop-number l = record {
  each : length l.counts.items ≡ length (rows_in l.self.rows.now);
  empty : (k : ℕ) → (Contains l.order k → ⊥) → at l.counts.items k ≡ None;
  told : AreFollowed (files_in l.self.rows.now) (rows_in l.self.rows.now) l.self.follows.items
      → IsOrderOfTypes (files_in l.self.rows.now) (rows_in l.self.rows.now) l.order
      → (k : ℕ) → Contains (take l.number-index l.order) k → IsCount (files_in l.self.rows.now) (rows_in l.self.rows.now) k (at l.counts.items k);
}
