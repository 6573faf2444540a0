use Rattle.yv_text_statement.specs.Order.{IsLeast, Among}
use Rattle.yv_link_scopes.specs.Views.{files_in, rows_in}
use Rattle.yv_link_modules.specs.Modules.{BadFile}
use Rattle.yv_link_modules.proofs.first.Tables.first_file.Given as goal

abbrev pub invariant-loop-number : goal.invariant-loop-number
invariant-loop-number l = IsLeast (Among (files_in l.self.rows.now) (BadFile (files_in l.self.rows.now) (rows_in l.self.rows.now)) l.number) l.least
