use Rattle.std.proofs.Common.{◌≡◌, map, take}
use Rattle.yv_data_leafrefs.specs.InnerLocations.{value_path}
use Rattle.yv_data_leafrefs.proofs.paths.share.Given as goal

-- the paths to the values so far
abbrev pub invariant-loop-number : goal.invariant-loop-number
invariant-loop-number l = l.paths.items ≡ map (value_path l.shared.value.objects.items) (take l.number l.shared.value.values.items)
