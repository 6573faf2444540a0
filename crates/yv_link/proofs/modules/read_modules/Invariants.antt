use Rattle.std.proofs.Common.{◌≡◌, ◌<◌, ℕ, length, Some}
use Rattle.std.specs.List.{slice_get}
use Rattle.yv_text_statement.specs.Selection.{selected_of}
use Rattle.yv_link_scopes.specs.Views.{files_in}
use Rattle.yv_link.specs.Modules.{ref_at}
use Rattle.yv_link.proofs.modules.read_modules.Given as goal

-- the modules of the files so far
abbrev pub invariant-loop-number : goal.invariant-loop-number
invariant-loop-number l = record {
  each : length l.modules.items ≡ l.number;
  are : (n : ℕ) → n < l.number → slice_get l.modules.items n ≡ Some (ref_at (selected_of l.selection) (files_in l.rows) n);
}
