use Rattle.std.proofs.Common.{◌≡◌, ◌<◌, true, get_or, length, inl, inr, arith, ap, subst, sym, ◌∙◌}
use Rattle.std.proofs.lemmas.Bool.{cases_eq}
use Rattle.std.proofs.lemmas.Option.{get_or_from_slice_get, slice_get_within}
use Rattle.yv_expand_rounds.specs.InnerHiddenNodes.{is_hidden}
use Rattle.yv_expand_rounds.proofs.DisplacedNodes.{hides_then}
use Rattle.yv_expand_rounds.proofs.hidden_nodes.HiddenNodes.hide_all.Goals as goal

pub loop-item-preserved : goal.loop-item-preserved
loop-item-preserved c = record {
  hidden = λ place item l at. elim (cases_eq place c.loop-item.item-index) [
    | inl same ↦
        let here : get_or c.args.items.now c.loop-item.item-index 0 ≡ item =
        ap (λ k. get_or c.args.items.now k 0) (sym same) ∙ get_or_from_slice_get c.args.items.now place item 0 at in
        subst (λ i. is_hidden c.hide.new.self.marks.items i ≡ true) here c.in_ok-hide.ensures.covers
    | inr other ↦ c.in_ok-hide.ensures.hides.grow item (c.loop-item.invariant.hidden place item (omega (arith, l, other)) at)
  ];
  hides = hides_then c.args.self.now.marks.items c.loop-item.self.marks.items c.hide.new.self.marks.items c.args.found.now.items c.loop-item.found.items
      c.hide.new.found.items c.loop-item.invariant.hides c.in_ok-hide.ensures.hides;
}

pub returns-clause-covers : goal.returns-clause-covers
returns-clause-covers c = λ place item at.
    let within : place < length c.args.items.now = slice_get_within c.args.items.now place item at in
    c.loop-item.invariant.hidden place item (omega (arith, within, c.loop-item-test.false)) at
