use Rattle.std.proofs.Common.{◌≡◌, ◌<◌, ℕ, length, Some}
use Rattle.yv_link_scopes.specs.Views.{files_in, lent_in, rows_in}
use Rattle.yv_link_definitions.specs.Meanings.{AreNames}
use Rattle.yv_type_chains.specs.Types.{Follows}
use Rattle.yv_base_tables.specs.Slots.{at}
use Rattle.yv_type_chains.proofs.NumberTables.{Told}
use Rattle.yv_type_chains.proofs.follows.all_followed.Given as goal

abbrev pub invariant-loop-number : goal.invariant-loop-number
invariant-loop-number l = record {
  each : length l.follows.items ≡ l.number;
  within : (k j : ℕ) → at l.follows.items k ≡ Some j → j < length (rows_in l.rows);
  told : AreNames (lent_in l.rows) l.names → Told (Follows (files_in l.rows) (rows_in l.rows)) l.number l.follows.items;
}
