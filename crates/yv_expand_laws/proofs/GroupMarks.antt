-- What stands in a group has its mark.
use Rattle.std.proofs.Common.{◌⊎◌, inl, inr, ◌≡◌, ◌≢◌, ℕ, ◌+◌, ◌<◌, ◌≤◌, Bool, true, false, if◌then◌else◌, List, [], ◌∷◌, ◌++◌, length, set, length-set, get_or, refl, sym, ◌∙◌, ap, subst, arith, Option, Some, None}
use Rattle.std.specs.List.{Contains, slice_get}
use Rattle.std.proofs.lemmas.Bool.{cases_eq, cases_lt}
use Rattle.std.proofs.lemmas.List.{get_or_past, get_or-set_same, get_or-set_other}
use Rattle.std.proofs.lemmas.List.Elements.{Contains-append_cases, Contains-push_cases}
use Rattle.std.proofs.lemmas.Option.{same_Some, slice_get_within}
use Rattle.yv_expand_rounds.specs.declared.end.End.{End}
use Rattle.yv_expand_rounds.specs.declared.end.End.TheVariants as end
use Rattle.yv_expand_rounds.specs.declared.label.Label.{Label}
use Rattle.yv_expand_rounds.specs.Groups.{Groups, group_of_augment, members_of, move_items}
use Rattle.yv_expand_rounds.specs.Placements.{enter}
use Rattle.yv_expand_rounds.specs.Turns.{State, give, is_applied, is_some_target, settle, target, turn}
use Rattle.yv_expand_laws.specs.Blocks.{Augments, Block, augment, copy_turn, item, no_augments, nothing, enter_block, run_all, take_turns, uses}
use Rattle.yv_expand_laws.specs.Comes.{AllMarked, HasMarks, MarksBlock}
use Rattle.yv_expand_laws.proofs.FoundItems.{not_none}
use Rattle.yv_expand_laws.proofs.FrameSequences.{nothing_stands}
use Rattle.yv_expand_rounds.specs.Paths.{path_end}
use Rattle.yv_expand_augments.specs.Augmentation.{last_of}

pub set_cases : (groups : Groups) (g x : ℕ) (v : List ℕ) → ((x ≡ g) × (get_or (set groups g v) x [] ≡ v)) ⊎ (get_or (set groups g v) x [] ≡ get_or groups x [])
set_cases groups g x v = by (cases_eq x g) (cases_lt g (length groups))
  where
    by : (x ≡ g) ⊎ (x ≢ g) → (g < length groups) ⊎ (length groups ≤ g) → ((x ≡ g) × (get_or (set groups g v) x [] ≡ v)) ⊎ (get_or (set groups g v) x [] ≡ get_or groups x [])
    by (inr other) l = inr (get_or-set_other groups g x v [] other)
    by (inl same) (inl l) = inl (same, ap (λ n. get_or (set groups g v) n []) same ∙ get_or-set_same groups g v [] l)
    by (inl same) (inr l) =
        (let long : length (set groups g v) ≡ length groups = length-set groups g v in
        inr (get_or_past (set groups g v) x [] (omega (arith, same, l, long)) ∙ sym (get_or_past groups x [] (omega (arith, same, l)))))

module _ (given_is mark : ℕ → Bool) (labels : List Label) (below : (x : ℕ) → x ≤ length labels → mark x ≡ false) where
  pub entered_marks : (g i : ℕ) (st : State) → given_is i ≡ mark g → HasMarks given_is mark st → HasMarks given_is mark (enter i g st)
  entered_marks g i st is has x j there = by (set_cases st.groups g x (members_of st.groups g ++ i ∷ []))
    where
      by : ((x ≡ g) × (members_of (enter i g st).groups x ≡ members_of st.groups g ++ i ∷ [])) ⊎ (members_of (enter i g st).groups x ≡ members_of st.groups x) → given_is j ≡ mark x
      by (inr same) = has x j (subst (λ ms. Contains ms j) same there)
      by (inl (at, now)) = elim (Contains-push_cases (members_of st.groups g) i j (subst (λ ms. Contains ms j) now there)) [
        | inl was ↦ has g j was ∙ ap mark (sym at)
        | inr it ↦ ap given_is (sym it) ∙ is ∙ ap mark (sym at)
      ]

  moved_marks : (from to : ℕ) (st : State) (ends : List (Option End)) → mark from ≡ mark to → HasMarks given_is mark st
      → HasMarks given_is mark (record { groups = move_items from to st.groups; ends = ends })
  moved_marks from to st ends same has x j there = by (set_cases inner from x [])
    where
      inner : Groups
      inner = set st.groups to (members_of st.groups to ++ members_of st.groups from)

      at_inner : Contains (members_of (set st.groups to (members_of st.groups to ++ members_of st.groups from)) x) j → given_is j ≡ mark x
      at_inner here = elim (set_cases st.groups to x (members_of st.groups to ++ members_of st.groups from)) [
        | inr was ↦ has x j (subst (λ ms. Contains ms j) was here)
        | inl (at, now) ↦ elim (Contains-append_cases (members_of st.groups to) (members_of st.groups from) j (subst (λ ms. Contains ms j) now here)) [
          | inl a ↦ has to j a ∙ ap mark (sym at)
          | inr b ↦ has from j b ∙ same ∙ ap mark (sym at)
        ]
      ]

      by : ((x ≡ from) × (members_of (move_items from to st.groups) x ≡ [])) ⊎ (members_of (move_items from to st.groups) x ≡ members_of (set st.groups to (members_of st.groups to ++ members_of st.groups from)) x) → given_is j ≡ mark x
      by (inl (at, now)) = absurd (nothing_stands j (subst (λ ms. Contains ms j) now there))
      by (inr now) = at_inner (subst (λ ms. Contains ms j) now there)

  target_within : (e : End) (i : ℕ) → target labels e ≡ Some i → i < length labels
  target_within (end.Start x) i is = absurd (not_none is)
  target_within (end.ShorthandCase x) i is = absurd (not_none is)
  target_within (end.Node j) i is = by (slice_get labels j) refl is
    where
      some : (b : Bool) (l : Label) → slice_get labels j ≡ Some l → (if b then Some j else None) ≡ Some i → i < length labels
      some false l at h = absurd (not_none h)
      some true l at h = (let same : j ≡ i = same_Some j i h in let in' = slice_get_within labels j l at in omega (arith, same, in'))

      by : (o : Option Label) → slice_get labels j ≡ o → (if is_some_target o then Some j else None) ≡ Some i → i < length labels
      by None at h = absurd (not_none h)
      by (Some l) at h = some (is_some_target (Some l)) l at h

  pub turn_marks : (k start limit : ℕ) (names : List ℕ) (st : State) → mark (group_of_augment labels k) ≡ false → HasMarks given_is mark st → HasMarks given_is mark (turn labels k start limit names st)
  turn_marks k start limit names st own has = by (is_applied st k) (path_end labels st.groups limit names (end.Start start))
    where
      to : (e : End) (o : Option ℕ) → ((i : ℕ) → o ≡ Some i → i < length labels)
          → HasMarks given_is mark (record { groups = give (group_of_augment labels k) o st.groups; ends = set st.ends k (Some e) })
      to e None within = has
      to e (Some i) within =
          let l = within i refl in
          moved_marks (group_of_augment labels k) (i + 1) st (set st.ends k (Some e)) (own ∙ sym (below (i + 1) (omega (arith, l)))) has

      by : (b : Bool) (o : Option End) → HasMarks given_is mark (if b then st else settle labels k o st)
      by true o = has
      by false None = has
      by false (Some e) = to e (target labels e) (target_within e)

  pub turned_marks : (g : ℕ) {lo hi c e k own : ℕ} (augments : Augments lo hi c e k own) (st : State) → AllMarked labels given_is mark augments → HasMarks given_is mark st
      → HasMarks given_is mark (take_turns labels g augments st)
  turned_marks g no_augments st all has = has
  turned_marks g {k = k} (augment mid d names block others) st (own, in', rest) has =
      turned_marks g others (copy_turn labels g k names st) rest (turn_marks k g (last_of (members_of st.groups (group_of_augment labels k))) names st own has)

  mutual
    pub run_marks : (g : ℕ) {lo hi c e : ℕ} (block : Block lo hi c e) (st : State) → MarksBlock labels given_is mark g block → HasMarks given_is mark st
        → HasMarks given_is mark (enter_block labels g block st)
    run_marks g nothing st all has = has
    run_marks g {lo = lo} (item mid d inner behind) st (is, a, b) has =
        entered_marks g lo (enter_block labels (lo + 1) inner (enter_block labels g behind st)) is
        (run_marks (lo + 1) inner (enter_block labels g behind st) a (run_marks g behind st b has))
    run_marks g {lo = lo} (uses mid end own d e copies augments behind) st (is, a, all, b) has =
        let st1 : State = enter_block labels g behind st in
        let st2 : State = run_all labels augments st1 in
        let st3 : State = enter_block labels g copies st2 in
        entered_marks g lo (take_turns labels g augments st3) is
        (turned_marks g augments st3 all (run_marks g copies st2 a (all_marks augments st1 all (run_marks g behind st b has))))

    pub all_marks : {lo hi c e k own : ℕ} (augments : Augments lo hi c e k own) (st : State) → AllMarked labels given_is mark augments → HasMarks given_is mark st
        → HasMarks given_is mark (run_all labels augments st)
    all_marks no_augments st all has = has
    all_marks {k = k} (augment mid d names block others) st (own, a, rest) has =
        run_marks (group_of_augment labels k) block (run_all labels others st) a (all_marks others st rest has)
