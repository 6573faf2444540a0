use Rattle.std.proofs.Common.{◌≡◌, take, map}
use Rattle.yv_call.specs.Parts.{AreParts}
use Rattle.yv_call.proofs.PartLemmas.{last_end}
use Rattle.yv_call.proofs.parts.parts_of.Given as goal

abbrev pub invariant-loop-end : goal.invariant-loop-end
invariant-loop-end l = record {
  are : AreParts l.bytes (take l.end-index l.ends) (map (λ p. p.now) l.parts.items);
  last : l.start ≡ last_end 0 (take l.end-index l.ends);
}
