use Rattle.std.proofs.Common.{◌≡◌, ◌<◌, ◌-◌, ℕ, Option, Some, None, length, ap, arith}
use Rattle.std.proofs.lemmas.Option.{same_Some}
use Rattle.yv_node_leafrefs.specs.Above.{IsAbove}
use Rattle.yv_node_leafrefs.specs.InnerOutline.{rows_in}
use Rattle.yv_node_leafrefs.specs.Ways.{Climbs}
use Rattle.yv_node_leafrefs.specs.declared.outline.Outline.{Outline}
use Rattle.yv_node_leafrefs.specs.InnerIndex.{IsDraft}
use Rattle.yv_node_leafrefs.proofs.ClimbUniqueness.{climbs_next, climbs_past, climbs_done}
use Rattle.yv_node_leafrefs.proofs.KeyLookup.{above_of, up_within}
use Rattle.yv_node_leafrefs.proofs.walk.climb.Goals as goal

pub returns-in_default : goal.returns-in_default
returns-in_default c o draft b =
    let none : Climbs (rows_in o) (c.args.climbs - c.loop.counter) c.loop.place b → ⊥ = rw c.in_default.is (climbs_past (rows_in o) c.args.climbs c.loop.counter b c.loop-test.true) in
    (λ h. absurd (let g : ◌≡◌ {A = Option (Option ℕ)} None (Some b) = h in cc), λ l. absurd (none ((c.loop.invariant.1 o draft b).1 l)))

pub loop-preserved : goal.loop-preserved
loop-preserved c =
    let below = c.in-Some.below in
    let above = c.index-place.result.now in
    let within : below < length c.args.draft.now.above.items = c.loop.invariant.0 below c.in-Some.is in
    let up : (o : Outline) → IsDraft o c.args.draft.now → IsAbove (rows_in o) above below = λ o draft. above_of o c.args.draft.now draft below above (omega (arith, within, draft.each_above)) c.index-place.ensures in (
      λ p e.
          let o : Outline = c.requires.inner.0 in
          let draft = c.requires.inner.1 in
          omega (arith, up_within (rows_in o) below p above (up o draft) e, draft.each_above),
      λ o draft b.
          let next = climbs_next (rows_in o) c.args.climbs c.loop.counter below above b c.loop-test.true (up o draft) in
          let known = rw c.in-Some.is at (c.loop.invariant.1 o draft b) in
          (λ l. known.0 (next.1 l), λ l. next.0 (known.1 l)),
    )

pub returns : goal.returns
returns c o draft b =
    let done = climbs_done (rows_in o) c.args.climbs c.loop.counter c.loop.place b (omega (arith, c.loop-test.false)) in
    (λ h. (c.loop.invariant.1 o draft b).0 (done.1 (same_Some c.loop.place b h)), λ l. ap Some (done.0 ((c.loop.invariant.1 o draft b).1 l)))
