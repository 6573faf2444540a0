use Rattle.yv_schema.specs.InnerContext.{IsRefinedOf}
use Rattle.yv_schema.proofs.context.refined_definitions.Given as goal

abbrev pub invariant-loop-item : goal.invariant-loop-item
invariant-loop-item l = IsRefinedOf l.definitions l.tree l.refined
