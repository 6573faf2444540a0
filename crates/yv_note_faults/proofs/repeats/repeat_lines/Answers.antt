use Rattle.std.proofs.Common.{rules, string_bytes}
use Rattle.std.proofs.lemmas.Result.{IfOk-weaker}
use Rattle.yv_note_faults.proofs.Lines.{repeats_clear, repeats_fewer, repeats_short}
use Rattle.yv_note_faults.proofs.repeats.repeat_lines.Goals as goal

pub returns-clause-clear : goal.returns-clause-clear
returns-clause-clear g =
    IfOk-weaker g.lines_on.result _ _ (λ text tells. repeats_clear g.args.document.now.name.now _ (string_bytes text) tells) g.lines_on.ensures

pub returns-clause-short : goal.returns-clause-short
returns-clause-short g =
    IfOk-weaker g.lines_on.result _ _
    (λ text tells le. repeats_short g.args.document.now.name.now g.args.most (string_bytes text) le (repeats_fewer g.args.document.now.name.now _ g.args.most (string_bytes text) (search rules) tells))
    g.lines_on.ensures
