use Rattle.std.proofs.Common.{◌≡◌, ◌<◌, ℕ, length}
use Rattle.yv_link_scopes.specs.Views.{lent_in}
use Rattle.yv_types.specs.InnerDefaultTables.{said_at, text_at}
use Rattle.yv_types.proofs.typedef_defaults.all_said.Given as goal

abbrev pub invariant-loop-number : goal.invariant-loop-number
invariant-loop-number l = record {
  each : length l.said.items ≡ l.number;
  told : (k : ℕ) → k < l.number → text_at l.said.items k ≡ said_at (lent_in l.rows) k;
}
