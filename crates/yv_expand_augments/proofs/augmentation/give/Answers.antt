use Rattle.std.proofs.Common.{◌≡◌, ◌+◌, ℕ, List, None, ap, sym, subst, ◌∙◌}
use Rattle.yv_text_statement.specs.Order.{IsLeast}
use Rattle.yv_text_statement.specs.declared.refusal.Code.TheVariants as code
use Rattle.yv_link_scopes.specs.Views.{rows_in}
use Rattle.yv_expand_rounds.specs.Groups.{group_of_augment, members_of}
use Rattle.yv_expand_rounds.specs.InnerState.{IsAugmentation}
use Rattle.yv_expand_rounds.specs.Turns.{State, turn}
use Rattle.yv_expand_augments.specs.Refusals.{RefusesIf}
use Rattle.yv_expand_augments.specs.Augmentation.{last_of}
use Rattle.yv_expand_uses.specs.Paths.{path_in}
use Rattle.yv_expand_uses.specs.InnerPlan.{whole_in}
use Rattle.yv_expand_augments.specs.InnerSchedule.{added_to}
use Rattle.yv_expand_augments.proofs.augmentation.give.Goals as goal

pub returns-clause-state : goal.returns-clause-state
returns-clause-state c = λ labels st is long path room. (
    let spot = c.args.spot.now in
    let number : ℕ = c.args.number in
    let group : c.copy_group-group.result ≡ group_of_augment labels number = c.copy_group-group.ensures ∙ ap (λ (n : ℕ). n + 1 + number) (sym long) in
    let limit : c.last_of-limit.result ≡ last_of (members_of st.groups (group_of_augment labels number)) =
    c.last_of-limit.ensures ∙ ap last_of (c.members.ensures labels st is ∙ ap (members_of st.groups) group) in
    subst (λ (x : State). IsAugmentation labels x c.in_ok-augmentation.augmentation)
    (ap (λ (p : List ℕ). turn labels number spot.group c.last_of-limit.result p st) (c.deref.ensures.value ∙ path)
    ∙ ap (λ (n : ℕ). turn labels number spot.group n (path_in (whole_in c.args.plan.now) spot.module_file c.args.it.now.augment) st) limit)
    (c.in_ok-augmentation.ensures labels st is room))

pub returns-clause-lacks : goal.returns-clause-lacks
returns-clause-lacks c = λ labels st is long. (
    let it = c.args.it.now in
    let number : ℕ = c.args.number in
    let group : c.copy_group-group.result ≡ group_of_augment labels number = c.copy_group-group.ensures ∙ ap (λ (n : ℕ). n + 1 + number) (sym long) in
    let limit : c.last_of-limit.result ≡ last_of (members_of st.groups (group_of_augment labels number)) =
    c.last_of-limit.ensures ∙ ap last_of (c.members.ensures labels st is ∙ ap (members_of st.groups) group) in
    subst (λ (n : ℕ). IsLeast (RefusesIf (rows_in c.args.plan.now.rows.now) code.AugmentTarget (added_to labels st n c.args.spot.now.group it.path.items ≡ None) it.augment) c.refusal_of_target-missing.result)
    limit (c.refusal_of_target-missing.ensures labels st is))
