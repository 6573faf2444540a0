use Rattle.yv_link_scopes.specs.Views.{rows_in}
use Rattle.yv_link_identities.proofs.Numbering.{Numbered}
use Rattle.yv_link_identities.proofs.numbers.Numbers.read.Given as goal

abbrev pub invariant-loop-entry : goal.invariant-loop-entry
invariant-loop-entry l = Numbered (rows_in l.rows) l.entry-index l.identities.items l.nodes.items
