use Rattle.yv_text_statement.specs.Order.{IsLeast, Among}
use Rattle.yv_link_scopes.specs.Views.{files_in, rows_in}
use Rattle.yv_type_chains.specs.Refusals.{BadRow}
use Rattle.yv_type_chains.specs.InnerFindings.{AreFound}
use Rattle.yv_type_chains.proofs.draft.Draft.first_refusal.Given as goal

abbrev pub invariant-loop-number : goal.invariant-loop-number
invariant-loop-number l =
    AreFound (files_in l.self.rows.now) (rows_in l.self.rows.now) l.found
    → IsLeast (Among (rows_in l.self.rows.now) (BadRow (files_in l.self.rows.now) (rows_in l.self.rows.now)) l.number) l.least
