use Rattle.std.proofs.Common.{◌≡◌, drop, map}
use Rattle.yv_type_chains.specs.InnerPairs.{pair, is_paired}
use Rattle.yv_type_chains.proofs.kinds.is_paired.Given as goal

abbrev pub invariant-loop-pair : goal.invariant-loop-pair
invariant-loop-pair l = is_paired (map pair (drop l.pair-index l.pairs)) l.kind l.keyword ≡ is_paired (map pair l.pairs) l.kind l.keyword
