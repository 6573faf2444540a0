use Rattle.std.proofs.Common.{◌≡◌, map, take}
use Rattle.yv_call.proofs.words.texts_of.Given as goal

abbrev pub invariant-loop-part : goal.invariant-loop-part
invariant-loop-part l = map (λ t. t.now) l.texts.items
    ≡ map (λ p. p.now) (take l.part-index l.parts)
