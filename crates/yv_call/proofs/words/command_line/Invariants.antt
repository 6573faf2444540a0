use Rattle.std.proofs.Common.{◌≡◌, ◌∷◌, codes, map, string_bytes, take}
use Rattle.yv_call.proofs.words.command_line.Given as goal

abbrev pub invariant-loop-word : goal.invariant-loop-word
invariant-loop-word l = map string_bytes l.line.items
    ≡ codes "yangcheck" ∷ map (λ t. t.now) (take l.word-index l.words)
