use Rattle.std.proofs.Common.{◌≡◌, ◌++◌, map, take}
use Rattle.yv_validate.specs.Faults.{flaw}
use Rattle.yv_data_leafrefs.specs.Place.{under}
use Rattle.yv_data_faults.specs.Trails.{places}
use Rattle.yv_data_faults.specs.declared.fault.FaultKind.TheVariants.{Unknown}
use Rattle.yv_validate.proofs.walk.Walk.tell_unknowns.Given as goal

-- the faults of the names so far
abbrev pub invariant-loop-name : goal.invariant-loop-name
invariant-loop-name l =
    l.faults.items ≡ l.initial.faults.items
    ++ map (λ key. flaw Unknown (under (places l.self.schema.now l.trail) key)) (map (λ k. k.now) (take l.name-index l.names))
