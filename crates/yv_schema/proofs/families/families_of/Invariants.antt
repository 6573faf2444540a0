use Rattle.std.proofs.Common.{◌≡◌, drop}
use Rattle.yv_schema.specs.InnerChildren.{hang_all, lists_in}
use Rattle.yv_schema.proofs.families.families_of.Given as goal

abbrev pub invariant-loop-number : goal.invariant-loop-number
invariant-loop-number l = hang_all l.number (drop l.number l.nodes) (lists_in l.families) ≡ hang_all 0 l.nodes (lists_in l.initial.families)
