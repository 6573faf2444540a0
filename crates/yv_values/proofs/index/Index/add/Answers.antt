use Rattle.std.proofs.Common.{sym}
use Rattle.yv_values.proofs.Keys.{none_kept, apart_after, same_after, set_apart, set_adds}
use Rattle.yv_values.proofs.index.Index.add.Goals as goal

pub invariant_of-self : goal.invariant_of-self
invariant_of-self c =
    rw ((c.get_mut.follows.holds c.add.new.self).0) (apart_after c.add.result c.as_key.result.now c.self.inside.places.entries c.in-Some.places.now c.add.new.self c.args.place (sym c.in-Some.ensures.value) c.self.invariant c.add.ensures.adds c.add.ensures.same)

pub returns-in_err-add-in-Some-clause-same : goal.returns-in_err-add-in-Some-clause-same
returns-in_err-add-in-Some-clause-same c =
    rw ((c.get_mut.follows.holds c.add.new.self).0) (same_after c.from_residual.result c.as_key.result.now c.self.inside.places.entries c.in-Some.places.now c.add.new.self c.args.self.now (sym c.in-Some.ensures.value) c.in_err-add-in-Some.ensures.same c.self.view_is)

pub returns-in-None-clause-none : goal.returns-in-None-clause-none
returns-in-None-clause-none c =
    λ t. (rw c.get_mut.follows.holds-at-none c.self.view_is, λ p. rw (← c.self.view_is, ← c.as_key.ensures) (none_kept c.as_key.result.now c.self.inside.places.entries p (sym c.in-None.ensures.value)))

pub returns-clause-adds : goal.returns-clause-adds
returns-clause-adds c =
    λ t. rw ((c.get_mut.follows.holds c.add.new.self).0, ← c.self.view_is, ← c.as_key.ensures) (set_adds c.as_key.result.now c.self.inside.places.entries c.in-Some.places.now c.add.new.self c.args.place (sym c.in-Some.ensures.value) c.in_ok-add-in-Some.ensures.adds)

pub invariant_of-self-2 : goal.invariant_of-self-2
invariant_of-self-2 c =
    rw ((c.get_mut.follows.holds c.add.new.self).0) (set_apart c.as_key.result.now c.self.inside.places.entries c.in-Some.places.now c.add.new.self c.args.place c.self.invariant (sym c.in-Some.ensures.value) c.in_ok-add-in-Some.ensures.adds)
