use Rattle.std.proofs.Common.{◌≡◌, ◌++◌, ◌-◌, map, Some}
use Rattle.std.specs.Option.{option_map}
use Rattle.yv_node_leafrefs.specs.InnerWays.{upwards}
use Rattle.yv_node_leafrefs.proofs.link.way.Given as goal

abbrev pub invariant-loop : goal.invariant-loop
invariant-loop l =
    option_map (λ cs. map (λ n. n.0) l.way.items ++ cs) (upwards l.above (l.count - l.counter) l.place) ≡ upwards l.above l.count
    (Some l.fn.target.0)
