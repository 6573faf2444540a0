use Rattle.std.proofs.Common.{◌≡◌, ◌++◌, drop}
use Rattle.yv_text_statement.specs.Selection.{selected_of}
use Rattle.yv_link_scopes.specs.Views.{lent_in}
use Rattle.yv_schema.specs.Module.{given_from, modules_of}
use Rattle.yv_schema.proofs.module_names.modules.Given as goal

-- with the modules of the files behind, they are all
abbrev pub invariant-loop-number : goal.invariant-loop-number
invariant-loop-number l =
    l.modules.items ++ given_from (selected_of l.selection) l.number (drop l.number (lent_in l.rows)) ≡ modules_of (selected_of l.selection) (lent_in l.rows)
