use Rattle.yv_link_scopes.specs.Views.{files_in, rows_in}
use Rattle.yv_link_definitions.proofs.DefinitionGraph.{Pairing}
use Rattle.yv_link_definitions.proofs.draft.Draft.steps.Given as goal

abbrev pub invariant-loop-number : goal.invariant-loop-number
invariant-loop-number l = Pairing (files_in l.self.rows.now) (rows_in l.self.rows.now) l.number l.steps.items
