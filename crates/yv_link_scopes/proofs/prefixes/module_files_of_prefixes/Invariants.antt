use Rattle.std.proofs.Common.{◌≡◌, map, take}
use Rattle.yv_link_scopes.specs.Views.{files_in, rows_in}
use Rattle.yv_link_scopes.specs.InnerModuleFiles.{module_file_of_prefix}
use Rattle.yv_link_scopes.proofs.prefixes.module_files_of_prefixes.Given as goal

abbrev pub invariant-loop-entry : goal.invariant-loop-entry
invariant-loop-entry l = map (module_file_of_prefix (files_in l.rows) (rows_in l.rows)) (take l.entry-index (rows_in l.rows)) ≡ l.module_files.items
