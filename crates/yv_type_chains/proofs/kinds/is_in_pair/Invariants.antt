use Rattle.std.proofs.Common.{◌≡◌, drop, map}
use Rattle.yv_type_chains.specs.InnerPairs.{pair, is_in_pair}
use Rattle.yv_type_chains.proofs.kinds.is_in_pair.Given as goal

abbrev pub invariant-loop-pair : goal.invariant-loop-pair
invariant-loop-pair l = is_in_pair (map pair (drop l.pair-index l.pairs)) l.kind ≡ is_in_pair (map pair l.pairs) l.kind
