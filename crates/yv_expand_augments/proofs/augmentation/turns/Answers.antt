use Rattle.std.proofs.Common.{◌≡◌, ◌==◌, not, ℕ, List, Bool, Some, true, length, if◌then◌else◌, sym, ◌∙◌, ap, subst, arith}
use Rattle.std.specs.List.{slice_get}
use Rattle.std.proofs.lemmas.List.{drop_all}
use Rattle.std.proofs.lemmas.Bool.{and_parts}
use Rattle.std.proofs.lemmas.Option.{slice_get-get_or}
use Rattle.yv_text_statement.specs.Order.{Among, IsLeast}
use Rattle.yv_text_statement.specs.declared.refusal.Refusal.{Refusal}
use Rattle.yv_text_statement.proofs.Least.{least_same, least_start}
use Rattle.yv_expand_rounds.specs.Turns.{State}
use Rattle.yv_expand_rounds.specs.InnerState.{IsAugmentation}
use Rattle.yv_expand_uses.specs.AugmentOrder.{augments_giving}
use Rattle.yv_expand_augments.specs.Augmentation.{turns_from}
use Rattle.yv_expand_uses.specs.InnerPlan.{whole_in}
use Rattle.yv_expand_augments.specs.InnerSchedule.{AreStretches}
use Rattle.yv_expand_statements.specs.Kinds.{is_uses}
use Rattle.yv_expand_uses.specs.Spots.{Whole, copies_of}
use Rattle.yv_expand_augments.specs.MissingTargets.{MissesInTurn, MissesOf}
use Rattle.yv_expand_uses.specs.AugmentOrder.{augments_in}
use Rattle.yv_expand_augments.specs.declared.schedule.Stretch.{Stretch}
use Rattle.yv_expand_augments.proofs.AugmentStretches.{among_more, next_stretch, no_turns, none_refused, ready_first, stretch_ascends}
use Rattle.yv_expand_augments.proofs.AugmentTurns.{after_all, number_most}
use Rattle.yv_expand_augments.proofs.augmentation.turns.Goals as goal

pub returns-then-not-has_augments-clause-state : goal.returns-then-not-has_augments-clause-state
returns-then-not-has_augments-clause-state c = λ labels st is long room.
    subst (λ (x : State). IsAugmentation labels x c.args.augmentation)
    (sym (no_turns (whole_in c.args.plan.now) labels c.args.spot.now c.args.end st (sym c.has_augments.ensures ∙ c.if-not-has_augments.true))) is

pub returns-then-not-has_augments-clause-lacks : goal.returns-then-not-has_augments-clause-lacks
returns-then-not-has_augments-clause-lacks c = λ labels st is long room.
    none_refused (whole_in c.args.plan.now) labels c.args.spot.now c.args.end st (sym c.has_augments.ensures ∙ c.if-not-has_augments.true)

pub follow-requires : goal.follow-requires
follow-requires c =
    let w : Whole = whole_in c.args.plan.now in
    let spot = c.args.spot.now in
    let all : List ℕ = augments_in w.rows spot.statement in
    let uses : is_uses spot.label.kind ≡ true =
    (and_parts (is_uses spot.label.kind) (not (length all == 0)) (sym c.has_augments.ensures ∙ c.if-not-has_augments.false)).0 in
    let count : copies_of w.rows spot ≡ length (augments_giving w.rows spot.statement) = ap (λ (b : Bool). if b then length (augments_giving w.rows spot.statement) else 0) uses in
    let most = number_most w.rows spot c.loop-stretch.invariant.at in
    let is = c.loop-stretch.invariant.number in
    let few = c.requires.few in
    omega (arith, count, most, is, few)

pub loop-stretch-init : goal.loop-stretch-init
loop-stretch-init c =
    let w : Whole = whole_in c.args.plan.now in
    let spot = c.args.spot.now in
    let all : List ℕ = augments_in w.rows spot.statement in
    let uses : is_uses spot.label.kind ≡ true =
    (and_parts (is_uses spot.label.kind) (not (length all == 0)) (sym c.has_augments.ensures ∙ c.if-not-has_augments.false)).0 in
    let count : copies_of w.rows spot ≡ length (augments_giving w.rows spot.statement) = ap (λ (b : Bool). if b then length (augments_giving w.rows spot.statement) else 0) uses in
    record {
      at = 0;
      left = subst (AreStretches w spot.statement spot.module_file 0 (length all)) (sym c.stretches-stretch-items.ensures) c.in_ok-prepare.ensures.ready;
      number = omega arith;
      each = λ labels st is long room. (
        ready_first w labels spot st c.args.augmentation is long (omega (arith, room, count)),
        least_start all (MissesInTurn w labels spot c.args.end st),
      );
    }

pub loop-stretch-preserved : goal.loop-stretch-preserved
loop-stretch-preserved c =
    let w : Whole = whole_in c.args.plan.now in
    let spot = c.args.spot.now in
    let end : ℕ = c.args.end in
    let at : ℕ = c.loop-stretch.invariant.at in
    let items : List Stretch = c.stretches-stretch-items.result.now in
    let i : ℕ = c.loop-stretch.stretch-index in
    let x : Stretch = c.stretch-item.result in
    let there : slice_get items i ≡ Some x = slice_get-get_or items i x c.loop-stretch-test.true ∙ ap Some (sym c.stretch-item.is) in
    let step = next_stretch w spot.statement spot.module_file at (length (augments_in w.rows spot.statement)) items i x there c.loop-stretch.invariant.left in
    record {
      at = step.0;
      left = step.2;
      number = c.in_ok-followed.ensures.number at step.0 step.1 c.loop-stretch.invariant.number;
      each = λ labels st is long room. (
          let before = c.loop-stretch.invariant.each labels st is long room in (
            c.in_ok-followed.ensures.ready labels st at step.0 before.0 step.1,
            among_more w labels spot end st at step.0 c.loop-stretch.least c.in_ok-followed.followed.missing c.lesser-least.result
                (stretch_ascends w spot.statement spot.module_file at step.0 x step.1) c.lesser-least.ensures before.1 (c.in_ok-followed.ensures.lacks labels st at step.0 before.0 step.1),
          ));
    }

pub returns-clause-state : goal.returns-clause-state
returns-clause-state c = λ labels st is long room. (
    let w : Whole = whole_in c.args.plan.now in
    let spot = c.args.spot.now in
    let all : List ℕ = augments_in w.rows spot.statement in
    let at : ℕ = c.loop-stretch.invariant.at in
    let uses : is_uses spot.label.kind ≡ true =
    (and_parts (is_uses spot.label.kind) (not (length all == 0)) (sym c.has_augments.ensures ∙ c.if-not-has_augments.false)).0 in
    let last : at ≡ length all =
    subst (AreStretches w spot.statement spot.module_file at (length all)) (drop_all c.loop-stretch.stretch-index c.stretches-stretch-items.result.now c.loop-stretch-test.false) c.loop-stretch.invariant.left in
    subst (λ (x : State). IsAugmentation labels x c.loop-stretch.augmentation)
    (after_all w labels spot at st (omega (arith, last)) ∙ ap (λ (b : Bool). if b then turns_from w labels spot spot.first (augments_giving w.rows spot.statement) st else st) (sym uses))
    (c.loop-stretch.invariant.each labels st is long room).0.augmentation)

pub returns-clause-lacks : goal.returns-clause-lacks
returns-clause-lacks c = λ labels st is long room. (
    let w : Whole = whole_in c.args.plan.now in
    let spot = c.args.spot.now in
    let all : List ℕ = augments_in w.rows spot.statement in
    let P : ℕ → ℕ → Refusal → Type 0 = MissesInTurn w labels spot c.args.end st in
    let at : ℕ = c.loop-stretch.invariant.at in
    let uses : is_uses spot.label.kind ≡ true =
    (and_parts (is_uses spot.label.kind) (not (length all == 0)) (sym c.has_augments.ensures ∙ c.if-not-has_augments.false)).0 in
    let last : at ≡ length all =
    subst (AreStretches w spot.statement spot.module_file at (length all)) (drop_all c.loop-stretch.stretch-index c.stretches-stretch-items.result.now c.loop-stretch-test.false) c.loop-stretch.invariant.left in
    let whole : IsLeast (Among all P (length all)) c.loop-stretch.least =
    subst (λ (n : ℕ). IsLeast (Among all P n) c.loop-stretch.least) last (c.loop-stretch.invariant.each labels st is long room).1 in
    least_same (Among all P (length all)) (MissesOf w labels spot c.args.end st) c.loop-stretch.least (λ f h. (uses, h)) (λ f h. h.1) whole)
