-- What a block leaves as it was: frames, one behind the other.
use Rattle.std.proofs.Common.{◌⊎◌, inl, inr, ◌≡◌, ◌≢◌, ℕ, ◌<◌, ◌≤◌, List, [], ◌∷◌, ◌++◌, length, set, length-set, append_assoc, refl, sym, ◌∙◌, ap, subst, arith}
use Rattle.std.specs.List.{Contains}
use Rattle.std.proofs.lemmas.Bool.{cases_eq}
use Rattle.std.proofs.lemmas.List.{append-nil, get_or-set_same, get_or-set_other}
use Rattle.std.proofs.lemmas.List.Elements.{Contains-append_cases, Contains-push_cases}
use Rattle.yv_expand_rounds.specs.declared.label.Label.{Label}
use Rattle.yv_expand_rounds.specs.Groups.{Groups, group_of_augment, members_of, move_items}
use Rattle.yv_expand_rounds.specs.Placements.{enter}
use Rattle.yv_expand_rounds.specs.Turns.{State}
use Rattle.yv_expand_laws.specs.Frames.{Frame, IsOutside, StandFrom}

pub nothing_stands : (i : ℕ) → Contains [] i → ⊥
nothing_stands i (k, l, e) = omega (arith, l)

module _ (labels : List Label) where
  -- nothing has changed
  pub still : (g lo hi c e : ℕ) (st : State) → Frame labels g lo hi c e st st
  still g lo hi c e st = record {
    groups = refl;
    augments = refl;
    outside = λ x other out. refl;
    entered = [];
    theirs = λ i h. absurd (nothing_stands i h);
    behind = sym (append-nil (members_of st.groups g));
    ends = λ k apart. refl;
  }

  pub and_then : (g lo hi c e : ℕ) (old mid new : State) → Frame labels g lo hi c e old mid → Frame labels g lo hi c e mid new → Frame labels g lo hi c e old new
  and_then g lo hi c e old mid new p q = record {
    groups = q.groups ∙ p.groups;
    augments = q.augments ∙ p.augments;
    outside = λ x other out. q.outside x other out ∙ p.outside x other out;
    entered = p.entered ++ q.entered;
    theirs = λ i h. elim (Contains-append_cases p.entered q.entered i h) [ inl a ↦ p.theirs i a | inr b ↦ q.theirs i b ];
    behind = q.behind ∙ ap (λ l. l ++ q.entered) p.behind ∙ append_assoc (members_of old.groups g) p.entered q.entered;
    ends = λ k apart. q.ends k apart ∙ p.ends k apart;
  }

  pub narrower : (lo hi c e lo' hi' c' e' x : ℕ) → lo ≤ lo' → hi' ≤ hi → c ≤ c' → e' ≤ e → IsOutside labels lo hi c e x → IsOutside labels lo' hi' c' e' x
  narrower lo hi c e lo' hi' c' e' x l h a b (items, copies) = (one items, two copies)
    where
      one : (x ≤ lo) ⊎ (hi < x) → (x ≤ lo') ⊎ (hi' < x)
      one (inl p) = inl (omega (arith, p, l))
      one (inr p) = inr (omega (arith, p, h))

      two : (x < group_of_augment labels c) ⊎ (group_of_augment labels e ≤ x) → (x < group_of_augment labels c') ⊎ (group_of_augment labels e' ≤ x)
      two (inl p) = inl (omega (arith, p, a))
      two (inr p) = inr (omega (arith, p, b))

  -- what is so of fewer items is so of more
  pub wider : (g lo hi c e lo' hi' c' e' : ℕ) (old new : State) → lo ≤ lo' → hi' ≤ hi → c ≤ c' → e' ≤ e → Frame labels g lo' hi' c' e' old new → Frame labels g lo hi c e old new
  wider g lo hi c e lo' hi' c' e' old new l h a b p = record {
    groups = p.groups;
    augments = p.augments;
    outside = λ x other out. p.outside x other (narrower lo hi c e lo' hi' c' e' x l h a b out);
    entered = p.entered;
    theirs = λ i there. (let w = p.theirs i there in let low = w.0 in let high = w.1 in (omega (arith, low, l), omega (arith, high, h)));
    behind = p.behind;
    ends = λ k apart. p.ends k (elim apart [ inl q ↦ inl (omega (arith, q, a)) | inr q ↦ inr (omega (arith, q, b)) ]);
  }

  -- what entered a group of their own is no matter to others
  pub inner : (g own lo hi c e : ℕ) (old new : State) → g ≢ own → IsOutside labels lo hi c e g → (IsOutside labels lo hi c e own → ⊥)
      → Frame labels own lo hi c e old new → Frame labels g lo hi c e old new
  inner g own lo hi c e old new other out theirs p = record {
    groups = p.groups;
    augments = p.augments;
    outside = λ x ne o. p.outside x (λ same. theirs (subst (IsOutside labels lo hi c e) same o)) o;
    entered = [];
    theirs = λ i h. absurd (nothing_stands i h);
    behind = p.outside g other out ∙ sym (append-nil (members_of old.groups g));
    ends = p.ends;
  }

  -- one item enters
  pub enters : (g lo hi c e : ℕ) (st : State) → g < length st.groups → lo < hi → Frame labels g lo hi c e st (enter lo g st)
  enters g lo hi c e st room l = record {
    groups = length-set st.groups g (members_of st.groups g ++ lo ∷ []);
    augments = refl;
    outside = λ x other out. get_or-set_other st.groups g x (members_of st.groups g ++ lo ∷ []) [] other;
    entered = lo ∷ [];
    theirs = λ i h. (let same : lo ≡ i = only i h in (omega (arith, same), omega (arith, same, l)));
    behind = get_or-set_same st.groups g (members_of st.groups g ++ lo ∷ []) [] room;
    ends = λ k apart. refl;
  }
    where
      only : (i : ℕ) → Contains (lo ∷ []) i → lo ≡ i
      only i h = elim (Contains-push_cases [] lo i h) [ inl none ↦ absurd (nothing_stands i none) | inr same ↦ same ]

  pub enters_from : (g i : ℕ) (st : State) → StandFrom i st → g < length st.groups → StandFrom i (enter i g st)
  enters_from g i st from room x j there = by (cases_eq x g)
    where
      by : (x ≡ g) ⊎ (x ≢ g) → i ≤ j
      by (inr other) = from x j (subst (λ l. Contains l j) (get_or-set_other st.groups g x (members_of st.groups g ++ i ∷ []) [] other) there)
      by (inl same) =
          let here : Contains (members_of st.groups g ++ i ∷ []) j =
          subst (λ l. Contains l j) (ap (members_of (enter i g st).groups) same ∙ get_or-set_same st.groups g (members_of st.groups g ++ i ∷ []) [] room) there in
          elim (Contains-push_cases (members_of st.groups g) i j here) [ inl was ↦ from g j was | inr is ↦ omega (arith, is) ]

  -- the items of one group become those of another
  pub moved_other : (from to x : ℕ) (groups : Groups) → x ≢ from → x ≢ to → members_of (move_items from to groups) x ≡ members_of groups x
  moved_other from to x groups nf nt =
      get_or-set_other (set groups to (members_of groups to ++ members_of groups from)) from x [] [] nf
      ∙ get_or-set_other groups to x (members_of groups to ++ members_of groups from) [] nt

  pub moved_to : (from to : ℕ) (groups : Groups) → from ≢ to → to < length groups → members_of (move_items from to groups) to ≡ members_of groups to ++ members_of groups from
  moved_to from to groups other room =
      get_or-set_other (set groups to (members_of groups to ++ members_of groups from)) from to [] [] (λ e. other (sym e))
      ∙ get_or-set_same groups to (members_of groups to ++ members_of groups from) [] room

  pub moved_from : (from to : ℕ) (groups : Groups) → from < length groups → members_of (move_items from to groups) from ≡ []
  moved_from from to groups room =
      let inner : Groups = set groups to (members_of groups to ++ members_of groups from) in
      let long : length inner ≡ length groups = length-set groups to (members_of groups to ++ members_of groups from) in
      get_or-set_same inner from [] [] (omega (arith, room, long))

  pub moved_long : (from to : ℕ) (groups : Groups) → length (move_items from to groups) ≡ length groups
  moved_long from to groups =
      length-set (set groups to (members_of groups to ++ members_of groups from)) from [] ∙ length-set groups to (members_of groups to ++ members_of groups from)

  pub moved_stand : (n from to : ℕ) (groups : Groups) → from ≢ to → to < length groups → from < length groups
      → ((x i : ℕ) → Contains (members_of groups x) i → n ≤ i) → (x i : ℕ) → Contains (members_of (move_items from to groups) x) i → n ≤ i
  moved_stand n from to groups other room room' stand x i there = by (cases_eq x from) (cases_eq x to)
    where
      by : (x ≡ from) ⊎ (x ≢ from) → (x ≡ to) ⊎ (x ≢ to) → n ≤ i
      by (inl f) t = absurd (nothing_stands i (subst (λ l. Contains l i) (ap (members_of (move_items from to groups)) f ∙ moved_from from to groups room') there))
      by (inr f) (inr t) = stand x i (subst (λ l. Contains l i) (moved_other from to x groups f t) there)
      by (inr f) (inl t) =
          elim (Contains-append_cases (members_of groups to) (members_of groups from) i
          (subst (λ l. Contains l i) (ap (members_of (move_items from to groups)) t ∙ moved_to from to groups other room) there)) [
            | inl a ↦ stand to i a
            | inr b ↦ stand from i b
          ]
