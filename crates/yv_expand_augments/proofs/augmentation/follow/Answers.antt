use Rattle.std.proofs.Common.{◌≡◌, ◌+◌, ℕ, Option, length, refl, sym, ◌∙◌, ap, arith, subst}
use Rattle.yv_text_statement.specs.Order.{IsLeast}
use Rattle.yv_expand_rounds.specs.Turns.{State}
use Rattle.yv_expand_uses.specs.InnerPlan.{whole_in}
use Rattle.yv_expand_augments.specs.InnerSchedule.{IsEnded, IsReady, MissesBetween}
use Rattle.yv_expand_uses.specs.Spots.{Whole}
use Rattle.yv_expand_augments.specs.MissingTargets.{after_turns, had_turns, next_number}
use Rattle.yv_expand_augments.specs.declared.schedule.AddressedAugment.{AddressedAugment}
use Rattle.yv_expand_augments.proofs.ItemEntry.{turns_ends}
use Rattle.yv_expand_augments.proofs.AugmentStretches.{between_more, giver_least, idle_told, number_idle, ready_giver, ready_idle}
use Rattle.yv_expand_augments.proofs.AugmentTurns.{number_more, number_within}
use Rattle.yv_expand_augments.proofs.augmentation.follow.Goals as goal

pub returns-in-None-clause-number : goal.returns-in-None-clause-number
returns-in-None-clause-number c = λ from to s is. (
    let w : Whole = whole_in c.args.plan.now in
    let spot = c.args.spot.now in
    let last : s.place ≡ to = subst (λ (o : Option AddressedAugment). IsEnded w spot.statement spot.module_file s.place to o) c.in-None.is s.ended in
    is ∙ sym (number_idle w spot from s.place c.args.stretch.now.idle.items s.idle) ∙ ap (next_number w.rows spot) last)

pub returns-in_ok-own-in-Some-clause-number : goal.returns-in_ok-own-in-Some-clause-number
returns-in_ok-own-in-Some-clause-number c = λ from to s is. (
    let w : Whole = whole_in c.args.plan.now in
    let spot = c.args.spot.now in
    let x : AddressedAugment = c.in-Some.it in
    let ended = subst (λ (o : Option AddressedAugment). IsEnded w spot.statement spot.module_file s.place to o) c.in-Some.is s.ended in
    let idle = number_idle w spot from s.place c.args.stretch.now.idle.items s.idle in
    let more = number_more w.rows spot s.place x.augment ended.1.at ended.1.gives in
    let next : c.args.number + 1 ≡ next_number w.rows spot (s.place + 1) = omega (arith, is, idle, more) in
    next ∙ ap (next_number w.rows spot) ended.0)

pub returns-in-None-clause-ready : goal.returns-in-None-clause-ready
returns-in-None-clause-ready c = λ labels st from to ready s. (
    let w : Whole = whole_in c.args.plan.now in
    let spot = c.args.spot.now in
    let last : s.place ≡ to = subst (λ (o : Option AddressedAugment). IsEnded w spot.statement spot.module_file s.place to o) c.in-None.is s.ended in
    subst (λ (n : ℕ). IsReady w labels spot st n c.args.number c.args.augmentation) last
    (ready_idle w labels spot c.args.end st from s.place c.args.stretch.now.idle.items s.idle c.args.number c.args.augmentation ready))

pub returns-in-None-clause-lacks : goal.returns-in-None-clause-lacks
returns-in-None-clause-lacks c = λ labels st from to ready s. (
    let w : Whole = whole_in c.args.plan.now in
    let spot = c.args.spot.now in
    let last : s.place ≡ to = subst (λ (o : Option AddressedAugment). IsEnded w spot.statement spot.module_file s.place to o) c.in-None.is s.ended in
    subst (λ (n : ℕ). IsLeast (MissesBetween w labels spot c.args.end st from n) c.first_missing-missing.result) last
    (idle_told w labels spot c.args.end st from s.place c.args.stretch.now.idle.items s.idle c.first_missing-missing.result c.deref.result.now c.deref.ensures.value
    (c.first_missing-missing.ensures labels (after_turns w labels spot from st) ready.augmentation)))

pub returns-in_ok-own-in-Some-clause-ready : goal.returns-in_ok-own-in-Some-clause-ready
returns-in_ok-own-in-Some-clause-ready c = λ labels st from to ready s. (
    let w : Whole = whole_in c.args.plan.now in
    let spot = c.args.spot.now in
    let x : AddressedAugment = c.in-Some.it in
    let number : ℕ = c.args.number in
    let next : ℕ = number + 1 in
    let ended = subst (λ (o : Option AddressedAugment). IsEnded w spot.statement spot.module_file s.place to o) c.in-Some.is s.ended in
    let here : IsReady w labels spot st s.place number c.args.augmentation =
    ready_idle w labels spot c.args.end st from s.place c.args.stretch.now.idle.items s.idle number c.args.augmentation ready in
    let now : State = after_turns w labels spot s.place st in
    let ends : length now.ends ≡ length st.ends = turns_ends w labels 0 c.turns_keep_augments.ensures spot spot.first (had_turns w.rows spot s.place) st in
    let within = number_within w.rows spot s.place x.augment ended.1.at ended.1.gives in
    let count = here.next in
    let room = here.room in
    let turned = c.in_ok-own-in-Some.ensures.state labels now here.augmentation here.long ended.1.path (omega (arith, within, ends, count, room)) in
    subst (λ (n : ℕ). IsReady w labels spot st n next c.in_ok-own-in-Some.own.augmentation) ended.0
    (ready_giver w labels spot c.args.end st s.place x ended.1 number next c.in_ok-own-in-Some.own.augmentation refl here.long count room turned))

pub returns-in_ok-own-in-Some-clause-lacks : goal.returns-in_ok-own-in-Some-clause-lacks
returns-in_ok-own-in-Some-clause-lacks c = λ labels st from to ready s. (
    let w : Whole = whole_in c.args.plan.now in
    let spot = c.args.spot.now in
    let x : AddressedAugment = c.in-Some.it in
    let number : ℕ = c.args.number in
    let end : ℕ = c.args.end in
    let ended = subst (λ (o : Option AddressedAugment). IsEnded w spot.statement spot.module_file s.place to o) c.in-Some.is s.ended in
    let here : IsReady w labels spot st s.place number c.args.augmentation =
    ready_idle w labels spot end st from s.place c.args.stretch.now.idle.items s.idle number c.args.augmentation ready in
    let first : IsLeast (MissesBetween w labels spot end st from s.place) c.first_missing-missing.result =
    idle_told w labels spot end st from s.place c.args.stretch.now.idle.items s.idle c.first_missing-missing.result c.deref.result.now c.deref.ensures.value
    (c.first_missing-missing.ensures labels (after_turns w labels spot from st) ready.augmentation) in
    let own = giver_least w labels spot end st s.place x ended.1 number c.in_ok-own-in-Some.own.missing here.next
    (c.in_ok-own-in-Some.ensures.lacks labels (after_turns w labels spot s.place st) here.augmentation here.long) in
    subst (λ (n : ℕ). IsLeast (MissesBetween w labels spot end st from n) c.lesser.result) ended.0
    (between_more w labels spot end st s.place x ended.1 from c.first_missing-missing.result c.in_ok-own-in-Some.own.missing c.lesser.result s.idle.ascend c.lesser.ensures first own))
