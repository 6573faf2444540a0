use Rattle.std.proofs.Common.{◌<◌, length}
use Rattle.std.specs.Prelude.{IfSome}
use Rattle.yv_run.proofs.missing_node.push_missing_node.Given as goal

-- the node above is one of the schema
abbrev pub invariant-loop-step : goal.invariant-loop-step
invariant-loop-step l = IfSome l.above (λ id. id.0 < length l.schema.nodes)
