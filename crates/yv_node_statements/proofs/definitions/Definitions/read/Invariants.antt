use Rattle.std.proofs.Common.{◌≡◌, length}
use Rattle.yv_link_scopes.specs.Views.{lent_in}
use Rattle.yv_node_statements.specs.KnownTypes.{typing_of}
use Rattle.yv_node_statements.specs.InnerStore.{AreKept}
use Rattle.yv_node_statements.proofs.definitions.Definitions.read.Given as goal

abbrev pub invariant-loop-number : goal.invariant-loop-number
invariant-loop-number l = record {
  so : AreKept (typing_of l.types) (lent_in l.rows) l.kept.items;
  all : l.number ≡ length l.kept.items;
}
