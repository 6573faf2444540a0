use Rattle.std.proofs.Common.{◌≡◌, ◌==◌, drop}
use Rattle.std.specs.List.{position_from}
use Rattle.yv_link_modules.proofs.prefixes.prefix_of.Given as goal

abbrev pub invariant-loop-at : goal.invariant-loop-at
invariant-loop-at l = position_from (λ b. b == 58) 0 l.word ≡ position_from (λ b. b == 58) l.at (drop l.at l.word)
