use Rattle.std.proofs.Common.{◌∙◌, ap, map, arith}
use Rattle.yv_text_statement.specs.Selection.{selected_of, is_implemented}
use Rattle.yv_link_scopes.specs.Views.{lent_in}
use Rattle.yv_link_scopes.specs.declared.files.File.{File}
use Rattle.yv_expand_tree.proofs.GivenFiles.{files_given, take_whole}
use Rattle.yv_expand_tree.proofs.file_order.marks.Goals as goal

pub returns : goal.returns
returns c =
    let choice = selected_of c.args.selection.now in
    let files = c.files-file-items.result.now in
    c.loop-file.invariant ∙ ap (map (λ (f : File). is_implemented choice f.module_name.now)) (take_whole files c.loop-file.file-index (omega (arith, c.loop-file-test.false)))
    ∙ files_given choice files (lent_in c.args.rows.now) c.files-file-items.ensures.each
