use Rattle.std.proofs.Common.{◌≡◌, ℕ, length, take, None}
use Rattle.std.specs.List.{Contains}
use Rattle.yv_link_scopes.specs.Views.{lent_in, rows_in}
use Rattle.yv_link_definitions.specs.Meanings.{AreNames}
use Rattle.yv_base_tables.specs.Slots.{at}
use Rattle.yv_type_chains.specs.Bases.{AreBases}
use Rattle.yv_type_chains.specs.Types.{IsTypeAt}
use Rattle.yv_types.specs.InnerDefaultTables.{AreFound}
use Rattle.yv_types.proofs.defaults.TypedefDefaults.read.Given as goal

abbrev pub invariant-loop-number : goal.invariant-loop-number
invariant-loop-number l = record {
  each : length l.found.items ≡ length (rows_in l.rows);
  told : AreNames (lent_in l.rows) l.names → AreBases (lent_in l.rows) l.bases
      → AreFound (lent_in l.rows) l.said.items (Contains (take l.number-index l.order)) l.found.items;
  blank : AreBases (lent_in l.rows) l.bases → (k : ℕ) → (IsTypeAt (rows_in l.rows) k → ⊥) → at l.found.items k ≡ None;
}
