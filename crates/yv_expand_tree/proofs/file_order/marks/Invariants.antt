use Rattle.std.proofs.Common.{◌≡◌, map, take}
use Rattle.yv_text_statement.specs.Selection.{selected_of, is_implemented}
use Rattle.yv_link_scopes.specs.declared.files.File.{File}
use Rattle.yv_expand_tree.proofs.file_order.marks.Given as goal

abbrev pub invariant-loop-file : goal.invariant-loop-file
invariant-loop-file l = l.marks.items ≡ map (λ (f : File). is_implemented (selected_of l.selection) f.module_name.now) (take l.file-index l.file-items)
