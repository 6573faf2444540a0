-- How often an item stands in groups.
use Rattle.std.proofs.Common.{◌⊎◌, inl, inr, ◌≡◌, ◌≢◌, ℕ, zero, suc, ◌+◌, ◌≤◌, ◌<◌, ◌==◌, Bool, true, false, if◌then◌else◌, List, [], ◌∷◌, ◌++◌, set, replicate, refl, ◌∙◌, ap, arith, length, length-set, eq-eqb, Option, Some, None}
use Rattle.std.specs.List.{sum_by, count_by}
use Rattle.std.proofs.lemmas.Bool.{ne_eqb}
use Rattle.std.proofs.lemmas.List.{get_or-set_other}
use Rattle.std.proofs.lemmas.List.Sums.{sum_by-set, sum_by-append}
use Rattle.yv_expand_rounds.specs.declared.label.Label.{Label}
use Rattle.yv_expand_rounds.specs.declared.end.End.{End}
use Rattle.yv_expand_rounds.specs.declared.end.End.TheVariants as end
use Rattle.yv_expand_rounds.specs.Groups.{Groups, members_of, move_items, times}
use Rattle.yv_expand_rounds.specs.Paths.{path_end}
use Rattle.yv_expand_rounds.specs.Turns.{State, target, give, settle, is_applied, turn}
use Rattle.yv_expand_rounds.specs.Rounds.{AreApplied, round, rounds}
use Rattle.yv_expand_rounds.specs.Placements.{nothing, enter, HaveEntered, none_yet, one_turn, one_more, StandOnce}
use Rattle.yv_expand_rounds.proofs.Empty.{length_replicate, length_ends}
use Rattle.yv_expand_rounds.proofs.GroupMembers.{moved_each}
use Rattle.yv_expand_rounds.proofs.Targets.{target_within}

-- as often as before, in as many groups
pub record Keeps (y : ℕ) (old new : Groups) : Type 0 where
  pub times_are : times y new ≡ times y old
  pub each : length new ≡ length old

same : (y : ℕ) (gs : Groups) → Keeps y gs gs
same y gs = record { times_are = refl; each = refl }

and_then : (y : ℕ) (a b c : Groups) → Keeps y a b → Keeps y b c → Keeps y a c
and_then y a b c p q = record { times_are = q.times_are ∙ p.times_are; each = q.each ∙ p.each }

moved_keeps : (y from to : ℕ) (gs : Groups) → from < length gs → to < length gs → from ≢ to → Keeps y gs (move_items from to gs)
moved_keeps y from to gs lf lt other =
    let f : List ℕ → ℕ = λ ms. count_by (λ i. i == y) ms in
    let A : List ℕ = members_of gs to in
    let B : List ℕ = members_of gs from in
    let inner : Groups = set gs to (A ++ B) in
    let e1 : sum_by f inner + f A ≡ sum_by f gs + f (A ++ B) = sum_by-set f gs to (A ++ B) [] lt in
    let e2 : f (A ++ B) ≡ f A + f B = sum_by-append (λ i. if i == y then 1 else 0) A B in
    let le : length inner ≡ length gs = length-set gs to (A ++ B) in
    let e3 : sum_by f (set inner from []) + f (members_of inner from) ≡ sum_by f inner + 0 = sum_by-set f inner from [] [] (omega (arith, lf, le)) in
    let e4 : f (members_of inner from) ≡ f B = ap f (get_or-set_other gs to from (A ++ B) [] other) in
    record {
      times_are = omega (arith, e1, e2, e3, e4);
      each = moved_each from to gs;
    }

-- so many groups and ends
abbrev pub HasRoom : List Label → State → Type 0
HasRoom labels st = length st.groups ≡ length labels + 1 + length st.ends

given_keeps : (y : ℕ) (labels : List Label) (from : ℕ) (o : Option ℕ) (gs : Groups) → length labels < from → from < length gs
    → ((i : ℕ) → o ≡ Some i → i < length labels) → Keeps y gs (give from o gs)
given_keeps y labels from None gs lo hi fits = same y gs
given_keeps y labels from (Some i) gs lo hi fits =
    let l = fits i refl in moved_keeps y from (i + 1) gs hi (omega (arith, l, lo, hi)) (λ e. omega (arith, e, l, lo))

settled_keeps : (y : ℕ) (labels : List Label) (k : ℕ) (o : Option End) (st : State) (b : Bool) → HasRoom labels st → k < length st.ends
    → Keeps y st.groups (if b then st else settle labels k o st).groups
settled_keeps y labels k o st true each l = same y st.groups
settled_keeps y labels k None st false each l = same y st.groups
settled_keeps y labels k (Some e) st false each l =
    given_keeps y labels (length labels + 1 + k) (target labels e) st.groups (omega arith) (omega (arith, each, l)) (λ i is. target_within labels e i is)

ends_keep : (labels : List Label) (k : ℕ) (o : Option End) (st : State) (b : Bool) → length (if b then st else settle labels k o st).ends ≡ length st.ends
ends_keep labels k o st true = refl
ends_keep labels k None st false = refl
ends_keep labels k (Some e) st false = length-set st.ends k (Some e)

pub turn_keeps : (y : ℕ) (labels : List Label) (k start limit : ℕ) (names : List ℕ) (st : State) → HasRoom labels st → k < length st.ends
    → Keeps y st.groups (turn labels k start limit names st).groups
turn_keeps y labels k start limit names st each l =
    settled_keeps y labels k (path_end labels st.groups limit names (end.Start start)) st (is_applied st k) each l

pub turn_ends : (labels : List Label) (k start limit : ℕ) (names : List ℕ) (st : State) → length (turn labels k start limit names st).ends ≡ length st.ends
turn_ends labels k start limit names st = ends_keep labels k (path_end labels st.groups limit names (end.Start start)) st (is_applied st k)

pub turn_room : (labels : List Label) (k start limit : ℕ) (names : List ℕ) (st : State) → HasRoom labels st → k < length st.ends → HasRoom labels (turn labels k start limit names st)
turn_room labels k start limit names st each l =
    let a = (turn_keeps 0 labels k start limit names st each l).each in
    let b = turn_ends labels k start limit names st in
    omega (arith, a, b, each)

pub round_ends : (labels : List Label) (k : ℕ) (paths : List (List ℕ)) (st : State) → length (round labels k paths st).ends ≡ length st.ends
round_ends labels k [] st = refl
round_ends labels k (names ∷ others) st =
    round_ends labels (k + 1) others (turn labels k 0 (length labels) names st) ∙ turn_ends labels k 0 (length labels) names st

pub round_keeps : (y : ℕ) (labels : List Label) (k : ℕ) (paths : List (List ℕ)) (st : State) → HasRoom labels st → k + length paths ≤ length st.ends
    → Keeps y st.groups (round labels k paths st).groups
round_keeps y labels k [] st each l = same y st.groups
round_keeps y labels k (names ∷ others) st each l =
    let next : State = turn labels k 0 (length labels) names st in
    let lk : k < length st.ends = omega (arith, l) in
    let e : length next.ends ≡ length st.ends = turn_ends labels k 0 (length labels) names st in
    and_then y st.groups next.groups (round labels (k + 1) others next).groups (turn_keeps y labels k 0 (length labels) names st each lk)
    (round_keeps y labels (k + 1) others next (turn_room labels k 0 (length labels) names st each lk) (omega (arith, l, e)))

pub rounds_keep : (y : ℕ) (labels : List Label) (first : ℕ) (paths : List (List ℕ)) (n : ℕ) (st : State) → HasRoom labels st
    → first + length paths ≤ length st.ends → Keeps y st.groups (rounds labels first paths n st).groups
rounds_keep y labels first paths zero st each l = same y st.groups
rounds_keep y labels first paths (suc n) st each l =
    let next : State = round labels first paths st in
    let one : Keeps y st.groups next.groups = round_keeps y labels first paths st each l in
    let e : length next.ends ≡ length st.ends = round_ends labels first paths st in
    let grown : length next.groups ≡ length st.groups = one.each in
    and_then y st.groups next.groups (rounds labels first paths n next).groups one
    (rounds_keep y labels first paths n next (omega (arith, grown, e, each)) (omega (arith, l, e)))

entered_times : (y g i : ℕ) (st : State) → g < length st.groups → times y (enter i g st).groups ≡ times y st.groups + (if i == y then 1 else 0)
entered_times y g i st l =
    let f : List ℕ → ℕ = λ ms. count_by (λ j. j == y) ms in
    let M : List ℕ = members_of st.groups g in
    let e1 : sum_by f (set st.groups g (M ++ i ∷ [])) + f M ≡ sum_by f st.groups + f (M ++ i ∷ []) = sum_by-set f st.groups g (M ++ i ∷ []) [] l in
    let e2 : f (M ++ i ∷ []) ≡ f M + (0 + (if i == y then 1 else 0)) = sum_by-append (λ j. if j == y then 1 else 0) M (i ∷ []) in
    omega (arith, e1, e2)

-- the items from this number on stand once, and nothing else stands anywhere
pub record StandFrom (labels : List Label) (augments first : ℕ) (st : State) : Type 0 where
  pub groups : length st.groups ≡ length labels + 1 + augments
  pub ends : length st.ends ≡ augments
  pub start : first ≤ length labels
  pub before : (y : ℕ) → y < first → times y st.groups ≡ 0
  pub once : (y : ℕ) → first ≤ y → y < length labels → times y st.groups ≡ 1
  pub behind : (y : ℕ) → length labels ≤ y → times y st.groups ≡ 0

none_times : (y n : ℕ) → times y (replicate n []) ≡ 0
none_times y zero = refl
none_times y (suc n) =
    sum_by-append (λ ms. count_by (λ i. i == y) ms) ([] ∷ []) (replicate n [])
    ∙ (let e : times y (replicate n []) ≡ 0 = none_times y n in omega (arith, e))

abbrev one_if : Bool → ℕ
one_if b = if b then 1 else 0

if_eq : (i y : ℕ) → i ≡ y → one_if (i == y) ≡ 1
if_eq i y e = ap one_if (eq-eqb i y e)

if_ne : (i y : ℕ) → i ≢ y → one_if (i == y) ≡ 0
if_ne i y e = ap one_if (ne_eqb i y e)

le_split : (a b : ℕ) → a ≤ b → (a ≡ b) ⊎ (a < b)
le_split zero zero l = inl refl
le_split zero (suc b) l = inr (omega arith)
le_split (suc a) zero l = absurd (omega (arith, l))
le_split (suc a) (suc b) l = elim (le_split a b (omega (arith, l))) [ inl e ↦ inl (ap suc e) | inr x ↦ inr (omega (arith, x)) ]

stand_turned : (labels : List Label) (augments first : ℕ) (st : State) (k start limit : ℕ) (names : List ℕ) → k < augments
    → StandFrom labels augments first st → StandFrom labels augments first (turn labels k start limit names st)
stand_turned labels augments first st k start limit names l s =
    let room : HasRoom labels st = (let a = s.groups in let b = s.ends in omega (arith, a, b)) in
    let lk : k < length st.ends = (let b = s.ends in omega (arith, b, l)) in
    let keeps : (y : ℕ) → Keeps y st.groups (turn labels k start limit names st).groups = λ y. turn_keeps y labels k start limit names st room lk in
    record {
      groups = (keeps 0).each ∙ s.groups;
      ends = turn_ends labels k start limit names st ∙ s.ends;
      start = s.start;
      before = λ y h. (keeps y).times_are ∙ s.before y h;
      once = λ y lo hi. (keeps y).times_are ∙ s.once y lo hi;
      behind = λ y h. (keeps y).times_are ∙ s.behind y h;
    }

stand_entered : (labels : List Label) (augments i g : ℕ) (st : State) → g < length labels + 1 + augments → StandFrom labels augments (i + 1) st
    → StandFrom labels augments i (enter i g st)
stand_entered labels augments i g st l s =
    let fits : g < length st.groups = (let a = s.groups in omega (arith, a, l)) in
    let start : i + 1 ≤ length labels = s.start in
    record {
      groups = length-set st.groups g (members_of st.groups g ++ i ∷ []) ∙ s.groups;
      ends = s.ends;
      start = omega (arith, start);
      before = λ y h.
          let a = entered_times y g i st fits in
          let c = s.before y (omega (arith, h)) in
          let d : one_if (i == y) ≡ 0 = if_ne i y (λ x. omega (arith, x, h)) in
          omega (arith, a, c, d);
      once = λ y lo hi.
          let a = entered_times y g i st fits in
          elim (le_split i y lo) [
            | inl x ↦
                let c = s.before y (omega (arith, x)) in
                let d : one_if (i == y) ≡ 1 = if_eq i y x in
                omega (arith, a, c, d)
            | inr x ↦
                let c = s.once y (omega (arith, x)) hi in
                let d : one_if (i == y) ≡ 0 = if_ne i y (λ z. omega (arith, z, x)) in
                omega (arith, a, c, d)
          ];
      behind = λ y h.
          let a = entered_times y g i st fits in
          let c = s.behind y h in
          let d : one_if (i == y) ≡ 0 = if_ne i y (λ x. omega (arith, x, h, start)) in
          omega (arith, a, c, d);
    }

stand_nothing : (labels : List Label) (augments : ℕ) → StandFrom labels augments (length labels) (nothing (length labels) augments)
stand_nothing labels augments = record {
  groups = length_replicate (length labels + 1 + augments);
  ends = length_ends augments;
  start = omega arith;
  before = λ y h. none_times y (length labels + 1 + augments);
  once = λ y lo hi. absurd (omega (arith, lo, hi));
  behind = λ y h. none_times y (length labels + 1 + augments);
}

pub stand : (labels : List Label) (augments first : ℕ) (st : State) → HaveEntered labels augments first st → StandFrom labels augments first st
stand labels augments first st none_yet = stand_nothing labels augments
stand labels augments first st (one_turn {st = old} k start limit names l h) =
    stand_turned labels augments first old k start limit names l (stand labels augments first old h)
stand labels augments first st (one_more {st = old} group l h) = stand_entered labels augments first group old l (stand labels augments (first + 1) old h)

pub entered_once : (labels : List Label) (augments : ℕ) (st : State) → HaveEntered labels augments 0 st → StandOnce (length labels) st.groups
entered_once labels augments st h =
    let s = stand labels augments 0 st h in
    record { once = λ y l. s.once y (omega arith) l; no_other = s.behind }

pub rounds_once : (labels : List Label) (augments first : ℕ) (paths : List (List ℕ)) (old new : State) → HaveEntered labels augments 0 old
    → first + length paths ≤ augments → AreApplied labels first paths old new → StandOnce (length labels) new.groups
rounds_once labels augments first paths old new h l are =
    let s = stand labels augments 0 old h in
    let groups : length old.groups ≡ length labels + 1 + augments = s.groups in
    let ends : length old.ends ≡ augments = s.ends in
    let keeps : (y : ℕ) → times y new.groups ≡ times y old.groups = λ y.
    ap (λ (x : State). times y x.groups) are.is ∙ (rounds_keep y labels first paths are.count old (omega (arith, groups, ends)) (omega (arith, l, ends))).times_are in
    record { once = λ y lo. keeps y ∙ s.once y (omega arith) lo; no_other = λ y lo. keeps y ∙ s.behind y lo }

pub rounds_times : (labels : List Label) (first : ℕ) (paths : List (List ℕ)) (old new : State) (item : ℕ) → AreApplied labels first paths old new
    → length old.groups ≡ length labels + 1 + length old.ends → first + length paths ≤ length old.ends → times item new.groups ≡ times item old.groups
rounds_times labels first paths old new item are each l =
    ap (λ (x : State). times item x.groups) are.is ∙ (rounds_keep item labels first paths are.count old each l).times_are
