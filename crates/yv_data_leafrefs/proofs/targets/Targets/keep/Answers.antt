use Rattle.std.proofs.Common.{sym}
use Rattle.yv_data_leafrefs.proofs.NumberMaps.{same_after}
use Rattle.yv_data_leafrefs.proofs.targets.Targets.keep.Goals as goal

pub returns-in-Some-clause-same : goal.returns-in-Some-clause-same
returns-in-Some-clause-same c =
    rw ((c.get_mut.follows.holds c.keep.new.self).0, ← c.self.view_is)
    (same_after c.keep.result _ c.self.inside.indexes.entries c.in-Some.index.now c.keep.new.self (sym c.in-Some.ensures.value) c.keep.ensures.same)
