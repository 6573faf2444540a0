use Rattle.std.proofs.Common.{◌++◌, sym, ◌∙◌, ap}
use Rattle.std.proofs.lemmas.List.{append-nil}
use Rattle.yv_text_statement.specs.Selection.{selected_of}
use Rattle.yv_link_scopes.proofs.Keywords.{on_ok}
use Rattle.yv_lint.specs.RuleChoice.{asked_in}
use Rattle.yv_lint.specs.InnerFiles.{findings_at_number}
use Rattle.yv_lint.proofs.FileLists.{absent, present}
use Rattle.yv_lint.proofs.findings.add_number.Goals as goal

pub returns-in-None : goal.returns-in-None
returns-in-None c =
    sym (append-nil c.args.findings.now.items)
    ∙ ap (λ root. c.args.findings.now.items ++ findings_at_number (asked_in c.args.question.now.rules.now) (selected_of c.args.question.now.selection.now) c.args.question.now.roots.now c.args.number c.args.path.now root)
    (sym (absent c.args.question.now.roots.now c.args.number c.in-None.ensures.lookup.3))

pub returns-in-Some : goal.returns-in-Some
returns-in-Some c = on_ok c.add_file.result c.add_file.ensures (λ e. e
    ∙ ap (λ root. c.args.findings.now.items ++ findings_at_number (asked_in c.args.question.now.rules.now) (selected_of c.args.question.now.selection.now) c.args.question.now.roots.now c.args.number c.args.path.now root)
    (sym (present c.args.question.now.roots.now c.args.number c.in-Some.root.now c.in-Some.ensures.lookup.3.0 c.in-Some.ensures.lookup.1)))
