use Rattle.std.proofs.Common.{length, take}
use Rattle.yv_link_scopes.specs.Views.{files_in, rows_in}
use Rattle.yv_link_modules.specs.InnerDates.{AreGreatest}
use Rattle.yv_link_modules.proofs.Latest.{AreEmpty}
use Rattle.yv_link_modules.proofs.dates.greatest_dates.Given as goal

abbrev pub invariant-loop : goal.invariant-loop
invariant-loop l = AreEmpty l.index l.dates.items

abbrev pub invariant-loop-entry : goal.invariant-loop-entry
invariant-loop-entry l = AreGreatest (length (files_in l.rows)) (take l.entry-index (rows_in l.rows)) l.dates.items
