use Rattle.std.proofs.Common.{◌≡◌, ◌+◌, ◌∙◌, ℕ, List, [], length, sym, ap, arith}
use Rattle.std.proofs.lemmas.List.{drop_all}
use Rattle.std.proofs.lemmas.Option.{slice_get-get_or}
use Rattle.yv_expand.specs.Tree.{Item}
use Rattle.yv_expand_uses.specs.InnerLayout.{IsNumbered}
use Rattle.yv_expand_uses.specs.InnerPlan.{whole_in}
use Rattle.yv_expand_uses.specs.Spots.{Whole, copies_of, layout_of, laid_from}
use Rattle.yv_expand_uses.specs.declared.spot.Spot.{Spot}
use Rattle.yv_expand_uses.proofs.Bounds.{laid_more, numbered_more}
use Rattle.yv_expand_uses.proofs.plan.Plan.lay.Goals as goal

pub loop-item-preserved : goal.loop-item-preserved
loop-item-preserved c =
    let w : Whole = whole_in c.args.self.now in
    let items : List Item = c.args.items.now in
    let i : ℕ = c.loop-item.item-index in
    let at = slice_get-get_or items i _ c.loop-item-test.true in
    let s : Spot = c.spot-spot.result in
    let spots : List Spot = c.loop-item.spots.items in
    let copies : ℕ = length c.loop-item.copies.items in
    let next : ℕ = length c.add_copies.new.copies.items in
    let count : c.len.result ≡ copies = omega (arith, c.len.ensures) in
    let more : next ≡ copies + copies_of w.rows s = c.in_ok-add_copies.ensures in
    let first = ap (λ (t : Spot). t.first) c.spot-spot.ensures in
    let few : IsNumbered w.rows s = omega (arith, more, first, count, c.add_copies.new.copies.ok, c.add_copies.new.copies.small) in
    record {
      laid = laid_more w items i _ spots c.deref.result.now c.push.new.self.items s copies c.len.result next (layout_of w items) at c.spot-spot.ensures
          c.deref.ensures.value count c.in_ok-push.ensures.items more c.loop-item.invariant.laid;
      few = numbered_more w.rows spots c.push.new.self.items s c.in_ok-push.ensures.items few c.loop-item.invariant.few;
    }

pub returns-clause-lays : goal.returns-clause-lays
returns-clause-lays c =
    let w : Whole = whole_in c.args.self.now in
    let count : c.len-2.result ≡ length c.loop-item.copies.items = omega (arith, c.len-2.ensures) in
    ap (λ (n : ℕ). laid_from w [] (record { spots = c.loop-item.spots.items; copies = n })) count
    ∙ ap (λ (xs : List Item). laid_from w xs (record { spots = c.loop-item.spots.items; copies = length c.loop-item.copies.items }))
    (sym (drop_all c.loop-item.item-index c.args.items.now c.loop-item-test.false)) ∙ c.loop-item.invariant.laid
