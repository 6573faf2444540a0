use Rattle.std.proofs.Common.{◌≡◌, ◌+◌, drop, map}
use Rattle.serde_json.specs.View.{view}
use Rattle.yv_values.specs.Types.{plain_of}
use Rattle.yv_values.specs.Reads.{first_read, types_tried}
use Rattle.yv_values.proofs.value_check.first.Given as goal

abbrev pub invariant-loop-plain : goal.invariant-loop-plain
invariant-loop-plain l = record {
  count : l.tried ≡ l.plain-index;
  value : first_read (map plain_of (drop l.plain-index l.types)) l.module (view l.json) ≡ first_read (map plain_of l.types) l.module (view l.json);
  tried : l.tried + types_tried (map plain_of (drop l.plain-index l.types)) l.module (view l.json) ≡ types_tried (map plain_of l.types) l.module (view l.json);
}
