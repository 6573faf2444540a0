use Rattle.std.proofs.Common.{Bool, ◌≡◌, ◌+◌, ◌-◌, ◌<◌, ℕ, List, length, drop, ◌∙◌, ap, subst, arith}
use Rattle.std.proofs.lemmas.Option.{slice_get-get_or}
use Rattle.yv_text_statement.specs.Order.{IsLeast}
use Rattle.yv_link_scopes.specs.Views.{rows_in}
use Rattle.yv_expand_augments.specs.MandatoryNodes.{nothing_around, told_in}
use Rattle.yv_expand_augments.specs.InnerMandatoryNodes.{AreShallow, ImposesMandatoryIn}
use Rattle.yv_base_graph.specs.Marks.{is_marked}
use Rattle.yv_expand_augments.proofs.ItemConfiguration.{configured_all, configured_each, listed_shallow, shallow_fits}
use Rattle.yv_expand_augments.proofs.Meeting.{found_more, imposed_all, imposed_more}
use Rattle.yv_expand_augments.proofs.MisplacementRefusals.{imposed_at}
use Rattle.yv_expand_augments.proofs.mandatory_nodes.first_imposed.Goals as goal

pub loop-left-preserved : goal.loop-left-preserved
loop-left-preserved c =
    let rows = rows_in c.args.rows.now in
    let spots = c.args.spots.now in
    let augments = c.args.augments.now in
    let told = told_in c.args.marks.now in
    let tree = c.args.tree.now in
    let left : ℕ = c.loop-left.left in
    let n : ℕ = left - 1 in
    let next : left ≡ n + 1 = omega (arith, c.loop-left-test.true) in
    let inside : n < length tree = omega (arith, c.loop-left-test.true, c.loop-left.invariant.within) in
    let marks : List Bool = c.in_ok-configured.configured.items in
    let mark = c.is_marked-is_configuration.ensures ∙ ap (λ (l : List Bool). is_marked l n) c.deref-in-loop-left.ensures.value in
    let at = slice_get-get_or tree n _ inside in
    let next_at = λ (shallow : AreShallow tree). (c.next_depth-next.ensures (shallow_fits tree n _ shallow (omega (arith, inside)) at)) in
    let has = λ (shallow : AreShallow tree). (c.is_marked-has.ensures ∙ ap (λ (l : List Bool). is_marked l c.next_depth-next.result) c.deref.ensures.value
    ∙ ap (is_marked c.loop-left.found.items) (next_at shallow)) in
    record {
      within = omega (arith, inside);
      found = λ shallow. found_more spots augments told tree n left _ (is_marked c.loop-left.found.items) (is_marked c.meet.new.found.items) c.is_marked-has.result
          c.counts-counted.result next at (c.loop-left.invariant.found shallow) (has shallow) c.counts-counted.ensures (c.in_ok-meet.ensures (next_at shallow));
      least = λ shallow. (
          let each : length marks ≡ length tree = ap length (c.in_ok-configured.ensures shallow) ∙ configured_each spots told (λ d. nothing_around) tree in
          let marked : n < length marks = omega (arith, inside, each) in
          imposed_more spots augments told rows tree marks n left _ c.loop-left.least c.mandatory_refusal_at.result c.lesser-least.result (is_marked c.loop-left.found.items)
          c.is_marked-has.result c.is_marked-is_configuration.result c.is_required-required.result next at (c.loop-left.invariant.found shallow) (has shallow) marked mark
          c.is_required-required.ensures (imposed_at rows spots augments c.is_required-required.result _ _ c.mandatory_refusal_at.result c.mandatory_refusal_at.ensures) c.lesser-least.ensures
          (c.loop-left.invariant.least shallow));
    }

pub returns : goal.returns
returns c = λ t is. (
    let rows = rows_in c.args.rows.now in
    let spots = c.args.spots.now in
    let told = told_in c.args.marks.now in
    let marks : List Bool = c.in_ok-configured.configured.items in
    let shallow : AreShallow c.args.tree.now = listed_shallow t c.args.tree.now is in
    let none : c.loop-left.left ≡ 0 = omega (arith, c.loop-left-test.false) in
    imposed_all spots c.args.augments.now told rows t c.args.tree.now marks c.loop-left.least is
    (c.in_ok-configured.ensures shallow ∙ configured_all spots told t c.args.tree.now is)
    (subst (λ (n : ℕ). IsLeast (ImposesMandatoryIn rows spots c.args.augments.now told (drop n marks) (drop n c.args.tree.now)) c.loop-left.least) none
    (c.loop-left.invariant.least shallow)))
