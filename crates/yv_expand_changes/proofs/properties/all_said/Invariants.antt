use Rattle.std.proofs.Common.{◌≡◌, length}
use Rattle.yv_link_scopes.specs.Views.{lent_in}
use Rattle.yv_expand_changes.specs.InnerProperties.{AreSaid}
use Rattle.yv_expand_changes.proofs.properties.all_said.Given as goal

abbrev pub invariant-loop-number : goal.invariant-loop-number
invariant-loop-number l = record {
  so : AreSaid (lent_in l.rows) l.each.items;
  all : l.number ≡ length l.each.items;
}
