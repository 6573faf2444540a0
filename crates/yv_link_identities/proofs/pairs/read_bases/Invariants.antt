use Rattle.yv_link_scopes.specs.Views.{files_in, rows_in}
use Rattle.yv_link_identities.proofs.BaseGraph.{Pairing}
use Rattle.yv_link_identities.proofs.pairs.read_bases.Given as goal

abbrev pub invariant-loop-entry : goal.invariant-loop-entry
invariant-loop-entry l = Pairing (files_in l.draft.rows.now) (rows_in l.draft.rows.now) l.entry-index l.bases.items
