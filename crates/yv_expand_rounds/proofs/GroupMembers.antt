-- What is found in groups.
use Rattle.std.proofs.Common.{◌≡◌, ◌≢◌, ℕ, zero, suc, ◌+◌, ◌<◌, ◌⊎◌, List, [], ◌∷◌, ◌++◌, take, set, refl, sym, ◌∙◌, ap, subst, inl, inr, length, map, get_or, arith, length-set, append_assoc, Some, None}
use Rattle.std.specs.List.{slice_get}
use Rattle.std.specs.Prelude.{Result, Ok, Err}
use Rattle.std.specs.Result.{OnErr}
use Rattle.std.proofs.lemmas.List.{take_more, get_or_past, get_or-set_same, get_or-set_other}
use Rattle.std.proofs.lemmas.Option.{slice_get_cases, slice_get_read, none-some, same_Some}
use Rattle.yv_expand_rounds.specs.declared.label.Label.{Label}
use Rattle.yv_expand_rounds.specs.declared.group.Group.{Group}
use Rattle.yv_expand_rounds.specs.Groups.{Groups, members_of, move_items}
use Rattle.yv_expand_rounds.specs.Paths.{first_named}
use Rattle.yv_expand_rounds.specs.InnerGroups.{AreGroups, IsGroup}

-- past the last group there is none
pub first_past : (labels : List Label) (groups : Groups) (all : List Group) (g name : ℕ) → AreGroups labels groups all → slice_get all g ≡ None → None ≡ first_named labels name (members_of groups g)
first_past labels groups all g name are past = elim (slice_get_cases all g).1 [
  | inl (x, l, at, e) ↦ absurd (none-some x (sym past ∙ at))
  | inr (l, at) ↦ let e : members_of groups g ≡ [] = get_or_past groups g [] (omega (arith, l, are.each)) in ap (first_named labels name) (sym e)
]

pub joined_more : (members items : List ℕ) (i d : ℕ) → i < length items → (members ++ take i items) ++ get_or items i d ∷ [] ≡ members ++ take (i + 1) items
joined_more members items i d l = append_assoc members (take i items) (get_or items i d ∷ []) ∙ ap (λ ys. members ++ ys) (sym (take_more items i d l))

pub set_at : {A : Type 0} (xs : List A) (a k : ℕ) (y v : A) → slice_get (set xs a y) k ≡ Some v → ((k ≡ a) × (v ≡ y)) ⊎ ((k ≢ a) × (slice_get xs k ≡ Some v))
set_at [] a k y v h = absurd (let bad : None ≡ Some v = h in cc)
set_at (x ∷ xs) zero zero y v h = inl (refl, sym (same_Some y v h))
set_at (x ∷ xs) zero (suc k) y v h = inr (omega arith, h)
set_at (x ∷ xs) (suc a) zero y v h = inr (omega arith, h)
set_at (x ∷ xs) (suc a) (suc k) y v h = elim (set_at xs a k y v h) [ inl (e, same) ↦ inl (omega (arith, e), same) | inr (ne, same) ↦ inr ((λ e. ne (omega (arith, e))), same) ]

-- the items of one group are given to another
pub shifted : (labels : List Label) (groups : Groups) (all : List Group) (from to : ℕ) (emptied joined : Group) → AreGroups labels groups all → from < length all → to < length all → from ≢ to → IsGroup labels [] emptied → IsGroup labels (members_of groups to ++ members_of groups from) joined → AreGroups labels (move_items from to groups) (set (set all from emptied) to joined)
shifted labels groups all from to emptied joined are lf lt other none both =
    let A : List ℕ = members_of groups to ++ members_of groups from in
    let inner : Groups = set groups to A in
    let le : length inner ≡ length groups = length-set groups to A in
    record {
      each =
          length-set (set all from emptied) to joined ∙ length-set all from emptied ∙ are.each
          ∙ sym (length-set inner from [] ∙ le);
      group = λ g x at. elim (set_at (set all from emptied) to g joined x at) [
        | inl (here, is) ↦
            let m : members_of (move_items from to groups) g ≡ A =
            ap (members_of (move_items from to groups)) here
            ∙ get_or-set_other inner from to [] [] (λ e. other (sym e))
            ∙ get_or-set_same groups to A [] (omega (arith, lt, are.each)) in
            subst (λ (y : Group). IsGroup labels (members_of (move_items from to groups) g) y) (sym is) (subst (λ (ms : List ℕ). IsGroup labels ms joined) (sym m) both)
        | inr (ne, rest) ↦ elim (set_at all from g emptied x rest) [
          | inl (here, is) ↦
              let m : members_of (move_items from to groups) g ≡ [] =
              ap (members_of (move_items from to groups)) here
              ∙ get_or-set_same inner from [] [] (omega (arith, lf, le, are.each)) in
              subst (λ (y : Group). IsGroup labels (members_of (move_items from to groups) g) y) (sym is) (subst (λ (ms : List ℕ). IsGroup labels ms emptied) (sym m) none)
          | inr (nf, was) ↦
              let m : members_of (move_items from to groups) g ≡ members_of groups g =
              get_or-set_other inner from g [] [] nf
              ∙ get_or-set_other groups to g A [] ne in
              subst (λ (ms : List ℕ). IsGroup labels ms x) (sym m) (are.group g x was)
        ]
      ];
    }

pub shifted_by : (labels sp : List Label) (groups : Groups) (all : List Group) (from to : ℕ) (first emptied second joined : Group) (moving : List ℕ) → sp ≡ labels → AreGroups labels groups all → from < length all → to < length all → from ≢ to → first ≡ get_or all from first → IsGroup labels [] emptied → second ≡ get_or (set all from emptied) to second → moving ≡ first.members.items → ((members : List ℕ) → IsGroup sp members second → IsGroup sp (members ++ moving) joined) → AreGroups labels (move_items from to groups) (set (set all from emptied) to joined)
shifted_by labels sp groups all from to first emptied second joined moving same are lf lt other at_first none at_second moves joins =
    let was : IsGroup labels (members_of groups from) first = are.group from first (slice_get_read all _ from first refl lf at_first) in
    let to_is : second ≡ get_or all to second = at_second ∙ get_or-set_other all from to emptied second (λ e. other (sym e)) in
    let had : IsGroup labels (members_of groups to) second = are.group to second (slice_get_read all _ to second refl lt to_is) in
    let move_is : moving ≡ members_of groups from = moves ∙ was.members_are in
    let both : IsGroup sp (members_of groups to ++ moving) joined = joins (members_of groups to) (subst (λ (x : List Label). IsGroup x (members_of groups to) second) (sym same) had) in
    shifted labels groups all from to emptied joined are lf lt other none
    (subst (λ (x : List Label). IsGroup x (members_of groups to ++ members_of groups from) joined) same
    (subst (λ (ms : List ℕ). IsGroup sp (members_of groups to ++ ms) joined) move_is both))

pub moved_each : (from to : ℕ) (groups : Groups) → length (move_items from to groups) ≡ length groups
moved_each from to groups =
    let A : List ℕ = members_of groups to ++ members_of groups from in
    let inner : Groups = set groups to A in
    length-set inner from [] ∙ length-set groups to A

pub members_past : (labels : List Label) (groups : Groups) (all : List Group) (g : ℕ) → AreGroups labels groups all → slice_get all g ≡ None → [] ≡ members_of groups g
members_past labels groups all g are past = elim (slice_get_cases all g).1 [
  | inl (x, l, at, e) ↦ absurd (none-some x (sym past ∙ at))
  | inr (l, at) ↦ sym (get_or_past groups g [] (omega (arith, l, are.each)))
]

-- the members that groups hold
pub are_members : (labels : List Label) (groups : Groups) (all : List Group) → AreGroups labels groups all → map (λ (g : Group). g.members.items) all ≡ groups
are_members labels [] [] are = refl
are_members labels [] (x ∷ xs) are = absurd (let e = are.each in omega (arith, e))
are_members labels (ms ∷ gs) [] are = absurd (let e = are.each in omega (arith, e))
are_members labels (ms ∷ gs) (x ∷ xs) are =
    let rest : AreGroups labels gs xs = record { each = (let e = are.each in omega (arith, e)); group = λ g y at. are.group (suc g) y at } in
    ap (λ l. l ∷ map (λ (g : Group). g.members.items) xs) (are.group zero x refl).members_are ∙ ap (λ l. ms ∷ l) (are_members labels gs xs rest)

-- one group has other items
pub other_items : (labels sp : List Label) (groups : Groups) (all : List Group) (g : ℕ) (first second : Group) (items : List ℕ) → sp ≡ labels → AreGroups labels groups all → g < length all
    → first ≡ get_or all g first → ((members : List ℕ) → IsGroup sp members first → IsGroup sp (members ++ items) second) → AreGroups labels (set groups g (members_of groups g ++ items)) (set all g second)
other_items labels sp groups all g first second items same are lt at_first grows =
    let now : List ℕ = members_of groups g ++ items in
    let was : IsGroup labels (members_of groups g) first = are.group g first (slice_get_read all _ g first refl lt at_first) in
    let is : IsGroup labels now second =
    subst (λ (x : List Label). IsGroup x now second) same (grows (members_of groups g) (subst (λ (x : List Label). IsGroup x (members_of groups g) first) (sym same) was)) in
    record {
      each = length-set all g second ∙ are.each ∙ sym (length-set groups g now);
      group = λ k x at. elim (set_at all g k second x at) [
        | inl (here, one) ↦
            let m : members_of (set groups g now) k ≡ now = ap (members_of (set groups g now)) here ∙ get_or-set_same groups g now [] (omega (arith, lt, are.each)) in
            subst (λ (y : Group). IsGroup labels (members_of (set groups g now) k) y) (sym one) (subst (λ (ms : List ℕ). IsGroup labels ms second) (sym m) is)
        | inr (ne, before) ↦ subst (λ (ms : List ℕ). IsGroup labels ms x) (sym (get_or-set_other groups g k now [] ne)) (are.group k x before)
      ];
    }

-- all have the items that they had
pub same_items : (labels sp : List Label) (groups : Groups) (all : List Group) (g : ℕ) (first second : Group) → sp ≡ labels → AreGroups labels groups all → g < length all
    → first ≡ get_or all g first → ((members : List ℕ) → IsGroup sp members first → IsGroup sp members second) → AreGroups labels groups (set all g second)
same_items labels sp groups all g first second same are lt at_first keeps =
    let was : IsGroup labels (members_of groups g) first = are.group g first (slice_get_read all _ g first refl lt at_first) in
    let is : IsGroup labels (members_of groups g) second =
    subst (λ (x : List Label). IsGroup x (members_of groups g) second) same (keeps (members_of groups g) (subst (λ (x : List Label). IsGroup x (members_of groups g) first) (sym same) was)) in
    record {
      each = length-set all g second ∙ are.each;
      group = λ k x at. elim (set_at all g k second x at) [
        | inl (here, one) ↦ subst (λ (y : Group). IsGroup labels (members_of groups k) y) (sym one) (subst (λ (n : ℕ). IsGroup labels (members_of groups n) second) (sym here) is)
        | inr (ne, before) ↦ are.group k x before
      ];
    }

-- what holds holds after an error
pub on_err : {A E P : Type 0} (r : Result A E) → P → OnErr r P
on_err (Ok a) p = tt
on_err (Err e) p = p
