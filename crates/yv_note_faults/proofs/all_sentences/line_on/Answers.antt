use Rattle.std.proofs.Common.{string_bytes}
use Rattle.std.proofs.lemmas.Result.{IfOk-weaker}
use Rattle.yv_note_faults.proofs.Lines.{sentence_is}
use Rattle.yv_note_faults.proofs.all_sentences.line_on.Goals as goal

pub returns : goal.returns
returns c =
    IfOk-weaker c.placed_line.result _ _
    (λ text placed. sentence_is c.args.name.now c.args.fault.now c.args.said.now (string_bytes text) c.requires placed)
    c.placed_line.ensures
