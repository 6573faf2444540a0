use Rattle.std.proofs.Common.{◌≡◌, take}
use Rattle.yv_expand_uses.specs.InnerLeadingPaths.{paths_of, targets_of}
use Rattle.yv_expand_uses.proofs.leading_paths.LeadingPaths.read.Given as goal

abbrev pub invariant-loop-arrival : goal.invariant-loop-arrival
invariant-loop-arrival l = record {
  paths : l.leading_paths.paths.items ≡ paths_of (take l.arrival-index l.arrivals);
  targets : l.leading_paths.targets.items ≡ targets_of (take l.arrival-index l.arrivals);
}
