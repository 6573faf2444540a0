use Rattle.yv_text_statement.specs.Order.{IsLeast, Among}
use Rattle.yv_link_scopes.specs.Views.{files_in, rows_in}
use Rattle.yv_link_modules.specs.Modules.{BadRow}
use Rattle.yv_link_modules.proofs.first.Tables.first_row.Given as goal

abbrev pub invariant-loop-number : goal.invariant-loop-number
invariant-loop-number l = IsLeast (Among (rows_in l.self.rows.now) (BadRow (files_in l.self.rows.now) (rows_in l.self.rows.now)) l.number) l.least
