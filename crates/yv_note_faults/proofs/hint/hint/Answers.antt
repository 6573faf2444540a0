use Rattle.std.proofs.Common.{arith}
use Rattle.std.proofs.lemmas.Result.{IfOk-weaker}
use Rattle.yv_note_faults.specs.Sentences.{state}
use Rattle.yv_note_faults.proofs.hint.hint.Goals as goal

pub returns : goal.returns
returns c =
    IfOk-weaker c.state_hint.result _ _
    (λ text is. state c.count_missing-missing.result c.count_missing-missing.ensures (omega (arith, c.count_missing-missing.ensures, c.if-missing-faults.false)) is)
    c.state_hint.ensures
