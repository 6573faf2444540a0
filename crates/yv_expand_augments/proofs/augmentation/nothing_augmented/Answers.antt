use Rattle.std.proofs.Common.{rules, ◌≡◌, ℕ, List, [], None, length, refl, sym, ap, subst, arith}
use Rattle.std.specs.BTreeMap.{get}
use Rattle.std.specs.Ordering.{nat_cmp}
use Rattle.yv_text_statement.specs.Order.{IsLeast}
use Rattle.yv_expand_rounds.specs.declared.label.Label.{Label}
use Rattle.yv_expand_rounds.specs.Placements.{HaveEntered, none_yet, nothing}
use Rattle.yv_expand_rounds.specs.Turns.{State}
use Rattle.yv_expand_rounds.specs.InnerState.{IsAugmentation}
use Rattle.yv_expand_refines.specs.Targets.{meant_from}
use Rattle.yv_expand_uses.specs.Spots.{Whole, layout_of, whole}
use Rattle.yv_expand_uses.specs.Ends.{end_at}
use Rattle.yv_expand_augments.specs.MissingTargets.{MissesAt}
use Rattle.yv_expand_augments.proofs.UsesAugmentRefusals.{missing_past}
use Rattle.yv_expand_augments.proofs.augmentation.nothing_augmented.Goals as goal

pub returns : goal.returns
unfolding layout_of
returns c = λ files rows.
    let w : Whole = whole files rows [] 0 in
    let st : State = nothing 0 0 in
    let none : HaveEntered [] 0 0 st = none_yet in
    let missing : (i : ℕ) → get nat_cmp c.new-4.result i ≡ None = λ i. search rules in (
      st,
      record {
        grafted = record { applied = record { count = 0; is = refl; last = refl } };
        each = refl;
        once = c.each_item_stands_once.ensures.enters [] 0 st none;
        spots = c.new-3.ensures.items;
        missing = λ i. subst (IsLeast (MissesAt w (layout_of w []) (end_at [] i) i)) (sym (missing i)) (missing_past w (layout_of w []) (end_at [] i) i (omega arith));
        refined = ap (λ us. meant_from c.new-5.result.items us) c.new-6.ensures.items;
        augmentation = subst (λ (ls : List Label). IsAugmentation ls (nothing (length ls) 0) c.in_ok-augmentation.augmentation) c.new.ensures.items c.in_ok-augmentation.ensures;
      },
    )
