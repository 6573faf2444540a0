use Rattle.std.proofs.Common.{◌≡◌, drop}
use Rattle.yv_type_chains.specs.InnerPairs.{is_one_of}
use Rattle.yv_type_chains.proofs.kinds.is_one_of.Given as goal

abbrev pub invariant-loop-word : goal.invariant-loop-word
invariant-loop-word l = is_one_of (drop l.word-index l.keywords) l.keyword ≡ is_one_of l.keywords l.keyword
