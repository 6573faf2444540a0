use Rattle.std.proofs.Common.{◌≡◌, drop}
use Rattle.yv_node_keys.specs.Numbers.{led_at, module_file_at}
use Rattle.yv_node_keys.specs.declared.place.Way.TheVariants.{AtNode}
use Rattle.yv_node_keys.proofs.walk.unique_leaf.Given as goal

abbrev pub invariant-loop-step : goal.invariant-loop-step
invariant-loop-step l = record {
  same : l.index ≡ l.fn.index;
  led : led_at l.fn.index (module_file_at l.fn.index l.fn.list) (drop l.step-index l.path) l.place ≡ led_at l.fn.index (module_file_at l.fn.index l.fn.list) l.path (AtNode l.fn.list);
}
