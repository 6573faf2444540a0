use Rattle.std.specs.Str.{IsUtf8}
use Rattle.yv_call.proofs.PartLemmas.{all_at}
use Rattle.yv_call.proofs.words.texts_of.Goals as goal

pub returns-in-Err : goal.returns-in-Err
returns-in-Err c = λ all. c.in-Err.ensures.cases.0 (all_at IsUtf8 _ _ _ c.loop-part-test.true all)
