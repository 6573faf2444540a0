use Rattle.std.proofs.Common.{sym, ◌∙◌, arith}
use Rattle.yv_source.specs.Pieces.{ends_word}
use Rattle.yv_source.proofs.Until.{until-kept}
use Rattle.yv_source.proofs.scan.word_len.Goals as goal

pub loop-i-preserved : goal.loop-i-preserved
loop-i-preserved c =
    until-kept ends_word c.args.bytes.now c.loop-i.i (omega (arith, c.loop-i-test.true)) (sym c.is_word_end.ensures ∙ c.if-is_word_end.false) c.loop-i.invariant
