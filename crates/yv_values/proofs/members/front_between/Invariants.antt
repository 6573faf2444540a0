use Rattle.std.proofs.Common.{◌≡◌, ◌≤◌, length, map, take}
use Rattle.yv_values.specs.Identities.{between, id_of, numbered_of}
use Rattle.yv_values.proofs.members.front_between.Given as goal

abbrev pub invariant-loop-entry : goal.invariant-loop-entry
invariant-loop-entry l = record {
  each : map (λ m. id_of m.now) l.front.items ≡ between (map numbered_of (take l.entry-index l.entries)) l.low l.high;
  few : length l.front.items ≤ l.most;
}
