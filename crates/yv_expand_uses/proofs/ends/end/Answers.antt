use Rattle.std.proofs.Common.{◌≡◌, ◌<◌, ℕ, length, get_or, drop, ◌+◌, true, sym, ◌∙◌, ap, arith}
use Rattle.std.specs.List.{slice_get}
use Rattle.yv_expand_uses.specs.Ends.{end_at, run_length}
use Rattle.yv_expand_uses.specs.InnerEnds.{is_from_at}
use Rattle.yv_expand_uses.proofs.SubtreeEnds.{end_next, end_here, from_within, end_within}
use Rattle.yv_expand_uses.proofs.ends.end.Goals as goal

pub loop-next-preserved : goal.loop-next-preserved
loop-next-preserved c =
    let next : ℕ = c.loop-next.next in
    let there : is_from_at c.args.number (slice_get c.args.items.now next) ≡ true = sym c.is_from.ensures ∙ c.loop-next-test.true in
    let inside : next < length c.args.items.now = from_within c.args.number next c.args.items.now there in
    let is : get_or c.args.ends.now next 0 ≡ end_at c.args.items.now next = c.requires.knows next c.loop-next.invariant.behind inside in
    let on = end_next c.args.number next c.args.items.now (omega (arith, c.loop-next.invariant.behind)) there in
    record {
      behind = omega (arith, is, c.loop-next.invariant.behind);
      within = omega (arith, is, end_within c.args.items.now next inside);
      left = ap (λ n. n + run_length c.args.number (drop n c.args.items.now)) is ∙ sym on ∙ c.loop-next.invariant.left;
    }

pub returns : goal.returns
returns c = omega (arith, c.loop-next.invariant.left, end_here c.args.number c.loop-next.next c.args.items.now (sym c.is_from.ensures ∙ c.loop-next-test.false))
