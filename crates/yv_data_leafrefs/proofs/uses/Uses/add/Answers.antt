use Rattle.std.proofs.Common.{sym}
use Rattle.yv_data_leafrefs.proofs.NumberMaps.{same_after}
use Rattle.yv_data_leafrefs.proofs.uses.Uses.add.Goals as goal

pub returns-in-Some-clause-same : goal.returns-in-Some-clause-same
returns-in-Some-clause-same c =
    rw ((c.get_mut.follows.holds c.add.new.self).0, ← c.self.view_is)
    (same_after c.add.result _ c.self.inside.places.entries c.in-Some.places.now c.add.new.self (sym c.in-Some.ensures.value) c.add.ensures.same)
