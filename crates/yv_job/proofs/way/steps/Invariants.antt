use Rattle.std.proofs.Common.{take}
use Rattle.std.specs.List.{AllZip}
use Rattle.yv_job.specs.Names.{IsStep}
use Rattle.yv_job.proofs.way.steps.Given as goal

abbrev pub invariant-loop-part : goal.invariant-loop-part
invariant-loop-part l = AllZip (λ p x. IsStep p.now x) (take l.part-index l.parts) l.steps.items
