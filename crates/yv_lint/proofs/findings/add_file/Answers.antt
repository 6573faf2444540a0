use Rattle.std.proofs.Common.{◌≡◌, ◌++◌, true, sym, ◌∙◌, ap}
use Rattle.yv_text_statement.specs.Selection.{is_implemented, selected_of}
use Rattle.yv_link_scopes.specs.Files.{module_name}
use Rattle.yv_link_scopes.proofs.Keywords.{on_ok}
use Rattle.yv_lint.proofs.FileLists.{file_is}
use Rattle.yv_lint.proofs.findings.add_file.Goals as goal

pub returns : goal.returns
returns c =
    let chosen : is_implemented (selected_of c.args.question.now.selection.now) (module_name c.args.root.now) ≡ true =
    ap (is_implemented (selected_of c.args.question.now.selection.now)) (sym c.module_name.ensures) ∙ sym c.is_implemented.ensures ∙ c.if-not-is_implemented.false
    in
    on_ok c.add_all.result c.add_all.ensures (λ e. e ∙ ap (λ xs. c.args.findings.now.items ++ xs)
    (file_is c.in_ok-file.file.question.now c.args.question.now c.in_ok-file.file.number c.args.number c.args.path.now c.in_ok-file.file.root.now c.args.root.now c.in_ok-file.ensures.question c.in_ok-file.ensures.number c.in_ok-file.ensures.root chosen))
