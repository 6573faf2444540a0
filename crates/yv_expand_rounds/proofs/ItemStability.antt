-- Items stay where they stand, and what augments give goes where these add.
use Rattle.std.proofs.Common.{inl, inr, ◌≡◌, ◌≢◌, ℕ, zero, suc, ◌+◌, ◌≤◌, ◌<◌, ◌==◌, Bool, true, false, if◌then◌else◌, List, [], ◌∷◌, ◌++◌, set, length, get_or, refl, sym, ◌∙◌, ap, subst, arith, eq-eqb, Option, Some, None}
use Rattle.std.specs.List.{count_by}
use Rattle.std.specs.Option.{option_and_then}
use Rattle.std.proofs.lemmas.Bool.{cases_eq, cases_lt}
use Rattle.std.proofs.lemmas.List.{get_or_past, get_or-set_other, get_or-set_same}
use Rattle.std.proofs.lemmas.List.Sums.{sum_by-append}
use Rattle.yv_expand_rounds.specs.declared.label.Label.{Label}
use Rattle.yv_expand_rounds.specs.declared.end.End.{End}
use Rattle.yv_expand_rounds.specs.declared.end.End.TheVariants as end
use Rattle.yv_expand_rounds.specs.Groups.{Groups, IsIn, group_of_augment, members_of, move_items}
use Rattle.yv_expand_rounds.specs.Paths.{path_end}
use Rattle.yv_expand_rounds.specs.Placements.{enter}
use Rattle.yv_expand_rounds.specs.Rounds.{AreApplied, round, rounds}
use Rattle.yv_expand_rounds.specs.Turns.{State, give, given_group, group_of_target, is_applied, is_some, settle, target, target_of, turn}
use Rattle.yv_expand_rounds.proofs.Once.{HasRoom, turn_ends, turn_room}
use Rattle.yv_expand_rounds.proofs.Targets.{target_within}

-- how often a number stands in a list
abbrev count : ℕ → List ℕ → ℕ
count y xs = count_by (λ i. i == y) xs

abbrev one_if : Bool → ℕ
one_if b = if b then 1 else 0

count_both : (y : ℕ) (xs ys : List ℕ) → count y (xs ++ ys) ≡ count y xs + count y ys
count_both y xs ys = sum_by-append (λ i. one_if (i == y)) xs ys

in_front : (y : ℕ) (xs ys : List ℕ) → 0 < count y xs → 0 < count y (xs ++ ys)
in_front y xs ys h = (let e = count_both y xs ys in omega (arith, e, h))

in_back : (y : ℕ) (xs ys : List ℕ) → 0 < count y ys → 0 < count y (xs ++ ys)
in_back y xs ys h = (let e = count_both y xs ys in omega (arith, e, h))

-- a group with an item is there
within : (y g : ℕ) (groups : Groups) → IsIn y g groups → g < length groups
within y g groups h = elim (cases_lt g (length groups)) [
  | inl lt ↦ lt
  | inr past ↦ absurd (let e : count y (members_of groups g) ≡ 0 = ap (count y) (get_or_past groups g [] past) in omega (arith, e, h))
]

-- a group gets more
grown : (y g h : ℕ) (more : List ℕ) (groups : Groups) → IsIn y g groups → IsIn y g (set groups h (members_of groups h ++ more))
grown y g h more groups is = elim (cases_eq g h) [
  | inl same ↦
      let lt : g < length groups = within y g groups is in
      let here : members_of (set groups h (members_of groups h ++ more)) g ≡ members_of groups h ++ more =
      ap (members_of (set groups h (members_of groups h ++ more))) same ∙ get_or-set_same groups h (members_of groups h ++ more) [] (omega (arith, lt, same)) in
      subst (λ ms. 0 < count y ms) (sym here) (in_front y (members_of groups h) more (subst (λ k. 0 < count y (members_of groups k)) same is))
  | inr other ↦ subst (λ ms. 0 < count y ms) (sym (get_or-set_other groups h g (members_of groups h ++ more) [] other)) is
]

pub enters : (i g : ℕ) (st : State) → g < length st.groups → IsIn i g (enter i g st).groups
enters i g st lt =
    let one : count i (i ∷ []) ≡ 0 + one_if (i == i) = refl in
    let is : one_if (i == i) ≡ 1 = ap one_if (eq-eqb i i refl) in
    subst (λ ms. 0 < count i ms) (sym (get_or-set_same st.groups g (members_of st.groups g ++ i ∷ []) [] lt))
    (in_back i (members_of st.groups g) (i ∷ []) (omega (arith, one, is)))

pub stays : (i g other h : ℕ) (st : State) → IsIn i g st.groups → IsIn i g (enter other h st).groups
stays i g other h st is = grown i g h (other ∷ []) st.groups is

-- another group's items are moved
kept : (y g from to : ℕ) (groups : Groups) → g ≢ from → IsIn y g groups → IsIn y g (move_items from to groups)
kept y g from to groups apart is =
    let A : List ℕ = members_of groups to ++ members_of groups from in
    subst (λ ms. 0 < count y ms) (sym (get_or-set_other (set groups to A) from g [] [] apart)) (grown y g to (members_of groups from) groups is)

-- the items of this group are moved
goes : (y from to : ℕ) (groups : Groups) → to ≢ from → to < length groups → IsIn y from groups → IsIn y to (move_items from to groups)
goes y from to groups apart lt is =
    let A : List ℕ = members_of groups to ++ members_of groups from in
    subst (λ ms. 0 < count y ms) (sym (get_or-set_other (set groups to A) from to [] [] apart ∙ get_or-set_same groups to A [] lt))
    (in_back y (members_of groups to) (members_of groups from) is)

given_kept : (y g from : ℕ) (o : Option ℕ) (groups : Groups) → g ≢ from → IsIn y g groups → IsIn y g (give from o groups)
given_kept y g from None groups apart is = is
given_kept y g from (Some i) groups apart is = kept y g from (i + 1) groups apart is

-- where the items of this group go
given_goes : (y from : ℕ) (o : Option ℕ) (groups : Groups) → ((i : ℕ) → o ≡ Some i → (i + 1 ≢ from) × (i + 1 < length groups)) → IsIn y from groups
    → IsIn y (group_of_target from o) (give from o groups)
given_goes y from None groups fits is = is
given_goes y from (Some i) groups fits is = (let f = fits i refl in goes y from (i + 1) groups f.0 f.1 is)

not_some : (o : Option End) → is_some o ≡ false → o ≡ None
not_some None h = refl
not_some (Some e) h = absurd (let bad : true ≡ false = h in cc)

-- a target that is kept is one of the items
kept_target : (labels : List Label) (o : Option End) (i : ℕ) → option_and_then (target labels) o ≡ Some i → i < length labels
kept_target labels None i h = absurd (let bad : None ≡ Some i = h in cc)
kept_target labels (Some e) i h = target_within labels e i h

-- no group of an augment is that of another
other_group : (labels : List Label) (k number : ℕ) (o : Option ℕ) → k ≢ number → ((i : ℕ) → o ≡ Some i → i < length labels)
    → group_of_target (group_of_augment labels k) o ≢ group_of_augment labels number
other_group labels k number None other fits = λ e. other (omega (arith, e))
other_group labels k number (Some i) other fits = λ e. (let l = fits i refl in omega (arith, e, l))

module _ (labels : List Label) (y : ℕ) where
  settled_other : (g number : ℕ) (o : Option End) (st : State) (b : Bool) → g ≢ group_of_augment labels number → IsIn y g st.groups
      → IsIn y g (if b then st else settle labels number o st).groups
  settled_other g number o st true apart is = is
  settled_other g number None st false apart is = is
  settled_other g number (Some e) st false apart is = given_kept y g (group_of_augment labels number) (target labels e) st.groups apart is

  pub turn_other : (g number start limit : ℕ) (names : List ℕ) (st : State) → g ≢ group_of_augment labels number → IsIn y g st.groups
      → IsIn y g (turn labels number start limit names st).groups
  turn_other g number start limit names st apart is =
      settled_other g number (path_end labels st.groups limit names (end.Start start)) st (is_applied st number) apart is

  abbrev pub Follows : ℕ → State → Type 0
  Follows k st = IsIn y (given_group labels st.ends k) st.groups

  -- the turn of the augment itself
  settled_same : (k : ℕ) (e : End) (st : State) → HasRoom labels st → k < length st.ends → is_applied st k ≡ false → Follows k st
      → Follows k (settle labels k (Some e) st)
  settled_same k e st room lt waits is =
      let own : ℕ = group_of_augment labels k in
      let was : get_or st.ends k None ≡ None = not_some (get_or st.ends k None) waits in
      let here : IsIn y own st.groups = subst (λ (o : Option End). IsIn y (group_of_target own (option_and_then (target labels) o)) st.groups) was is in
      let now : get_or (set st.ends k (Some e)) k None ≡ Some e = get_or-set_same st.ends k (Some e) None lt in
      subst (λ (o : Option End). IsIn y (group_of_target own (option_and_then (target labels) o)) (give own (target labels e) st.groups)) (sym now)
      (given_goes y own (target labels e) st.groups
      (λ i at. (let l = target_within labels e i at in (λ same. omega (arith, same, l), omega (arith, l, room)))) here)

  -- the turn of another
  settled_apart : (k number : ℕ) (e : End) (st : State) → k ≢ number → Follows k st → Follows k (settle labels number (Some e) st)
  settled_apart k number e st other is =
      let same : get_or (set st.ends number (Some e)) k None ≡ get_or st.ends k None = get_or-set_other st.ends number k (Some e) None other in
      let g : ℕ = given_group labels st.ends k in
      let apart : g ≢ group_of_augment labels number = other_group labels k number (target_of labels st.ends k) other (kept_target labels (get_or st.ends k None)) in
      subst (λ (o : Option End). IsIn y (group_of_target (group_of_augment labels k) (option_and_then (target labels) o))
      (give (group_of_augment labels number) (target labels e) st.groups)) (sym same)
      (given_kept y g (group_of_augment labels number) (target labels e) st.groups apart is)

  settled_follows : (k number : ℕ) (o : Option End) (st : State) (b : Bool) → is_applied st number ≡ b → HasRoom labels st → k < length st.ends → Follows k st
      → Follows k (if b then st else settle labels number o st)
  settled_follows k number o st true waits room lt is = is
  settled_follows k number None st false waits room lt is = is
  settled_follows k number (Some e) st false waits room lt is = elim (cases_eq k number) [
    | inl same ↦
        let mine : is_applied st k ≡ false = ap (is_applied st) same ∙ waits in
        subst (λ n. Follows k (settle labels n (Some e) st)) same (settled_same k e st room lt mine is)
    | inr other ↦ settled_apart k number e st other is
  ]

  pub turn_follows : (k number start limit : ℕ) (names : List ℕ) (st : State) → HasRoom labels st → k < length st.ends → Follows k st
      → Follows k (turn labels number start limit names st)
  turn_follows k number start limit names st room lt is =
      settled_follows k number (path_end labels st.groups limit names (end.Start start)) st (is_applied st number) refl room lt is

-- what each turn keeps, rounds keep
module _ (labels : List Label) (P : State → Type 0) (count_of : ℕ)
    (step : (k : ℕ) (names : List ℕ) (st : State) → k < count_of → P st → P (turn labels k 0 (length labels) names st)) where
  round_keeps : (k : ℕ) (paths : List (List ℕ)) (st : State) → k + length paths ≤ count_of → P st → P (round labels k paths st)
  round_keeps k [] st le p = p
  round_keeps k (names ∷ others) st le p =
      round_keeps (k + 1) others (turn labels k 0 (length labels) names st) (omega (arith, le)) (step k names st (omega (arith, le)) p)

  rounds_keep : (first : ℕ) (paths : List (List ℕ)) (n : ℕ) (st : State) → first + length paths ≤ count_of → P st → P (rounds labels first paths n st)
  rounds_keep first paths zero st le p = p
  rounds_keep first paths (suc n) st le p = rounds_keep first paths n (round labels first paths st) le (round_keeps first paths st le p)

  applied_keep : (first : ℕ) (paths : List (List ℕ)) (old new : State) → AreApplied labels first paths old new → first + length paths ≤ count_of → P old → P new
  applied_keep first paths old new are le p = subst P (sym are.is) (rounds_keep first paths are.count old le p)

record Going (labels : List Label) (y k n : ℕ) (st : State) : Type 0 where
  room : HasRoom labels st
  ends : length st.ends ≡ n
  follows : Follows labels y k st

pub rounds_follow : (labels : List Label) (first k y : ℕ) (paths : List (List ℕ)) (old new : State) → AreApplied labels first paths old new → HasRoom labels old
    → first + length paths ≤ length old.ends → k < length old.ends → Follows labels y k old → Follows labels y k new
rounds_follow labels first k y paths old new are room le lt is =
    let n : ℕ = length old.ends in
    let start : Going labels y k n old = record { room = room; ends = refl; follows = is } in
    (applied_keep labels (Going labels y k n) n
    (λ number names st within g. (let e = g.ends in record {
      room = turn_room labels number 0 (length labels) names st g.room (omega (arith, within, e));
      ends = turn_ends labels number 0 (length labels) names st ∙ e;
      follows = turn_follows labels y k number 0 (length labels) names st g.room (omega (arith, lt, e)) g.follows;
    })) first paths old new are le start).follows

pub rounds_other : (labels : List Label) (first g y : ℕ) (paths : List (List ℕ)) (old new : State) → AreApplied labels first paths old new
    → first + length paths ≤ length old.ends → g ≤ length labels → IsIn y g old.groups → IsIn y g new.groups
rounds_other labels first g y paths old new are le lt is =
    applied_keep labels (λ st. IsIn y g st.groups) (length old.ends)
    (λ number names st within p. turn_other labels y g number 0 (length labels) names st (λ e. omega (arith, e, lt)) p) first paths old new are le is
