-- How rounds go on.
use Rattle.std.proofs.Common.{inl, inr, ◌≡◌, ℕ, zero, suc, ◌+◌, ◌≤◌, Bool, true, false, not, ◌&&◌, ◌||◌, if◌then◌else◌, List, [], ◌∷◌, drop, refl, sym, ◌∙◌, ap, subst, arith, length, Option, Some, None}
use Rattle.std.specs.List.{slice_get}
use Rattle.std.proofs.lemmas.Bool.{cases_lt}
use Rattle.std.proofs.lemmas.List.{at_drop_more, drop_all}
use Rattle.std.proofs.lemmas.Option.{slice_get_within, get_or_from_slice_get, same_Some}
use Rattle.yv_expand_rounds.specs.declared.label.Label.{Label}
use Rattle.yv_expand_rounds.specs.declared.end.End.{End}
use Rattle.yv_expand_rounds.specs.declared.end.End.TheVariants as end
use Rattle.yv_expand_rounds.specs.declared.augmentation.Augmentation.{Augmentation}
use Rattle.yv_expand_rounds.specs.Paths.{path_end}
use Rattle.yv_expand_rounds.specs.Turns.{State, is_applied, is_some, is_taken, turn, settle}
use Rattle.yv_expand_rounds.specs.Rounds.{AreApplied, is_any, round, rounds, LeadsNowhere}
use Rattle.yv_expand_rounds.specs.InnerState.{IsAugmentation}

pub rest_of : {A : Type 0} (xs : List A) (i : ℕ) (x : A) → slice_get xs i ≡ Some x → drop i xs ≡ x ∷ drop (i + 1) xs
rest_of xs i x at = at_drop_more (λ ys. ys) xs i x (slice_get_within xs i x at) ∙ ap (λ y. y ∷ drop (i + 1) xs) (get_or_from_slice_get xs i x x at)

pub or_assoc : (a b c : Bool) → ((if b then true else a) || c) ≡ (a || (b || c))
or_assoc true true c = refl
or_assoc true false c = refl
or_assoc false true c = refl
or_assoc false false c = refl

or_false : (a : Bool) → (a || false) ≡ a
or_false true = refl
or_false false = refl

-- a turn that applies nothing changes nothing, and so does such a round
idle_by : (b : Bool) (labels : List Label) (k : ℕ) (o : Option End) (st : State) → (not b && is_some o) ≡ false
    → (if b then st else settle labels k o st) ≡ st
idle_by true labels k o st e = refl
idle_by false labels k None st e = refl
idle_by false labels k (Some x) st e = absurd (let bad : true ≡ false = e in cc)

pub idle_turn : (labels : List Label) (k start limit : ℕ) (names : List ℕ) (st : State) → is_taken labels k start limit names st ≡ false
    → turn labels k start limit names st ≡ st
idle_turn labels k start limit names st e = idle_by (is_applied st k) labels k (path_end labels st.groups limit names (end.Start start)) st e

none_of : (a b : Bool) → (a || b) ≡ false → (a ≡ false) × (b ≡ false)
none_of true b h = absurd (let bad : true ≡ false = h in cc)
none_of false b h = (refl, h)

-- a turn in a round
abbrev pub turned : List Label → ℕ → List ℕ → State → State
turned labels k names st = turn labels k 0 (length labels) names st

abbrev pub takes : List Label → ℕ → List ℕ → State → Bool
takes labels k names st = is_taken labels k 0 (length labels) names st

pub idle_round : (labels : List Label) (k : ℕ) (paths : List (List ℕ)) (st : State) → is_any labels k paths st ≡ false → round labels k paths st ≡ st
idle_round labels k [] st e = refl
idle_round labels k (names ∷ others) st e =
    let parts = none_of (takes labels k names st) (is_any labels (k + 1) others (turned labels k names st)) e in
    idle_round labels (k + 1) others (turned labels k names st) parts.1 ∙ idle_turn labels k 0 (length labels) names st parts.0

-- the first of the augments had their turns
pub record Going (labels : List Label) (first : ℕ) (paths : List (List ℕ)) (st : State) (i : ℕ) (any : Bool) (augmentation : Augmentation) : Type 0 where
  pub now : State
  pub is : IsAugmentation labels now augmentation
  pub goes : round labels (first + i) (drop i paths) now ≡ round labels first paths st
  pub tells : (any || is_any labels (first + i) (drop i paths) now) ≡ is_any labels first paths st

abbrev pub going_none : (labels : List Label) (first : ℕ) (paths : List (List ℕ)) (st : State) (augmentation : Augmentation) → IsAugmentation labels st augmentation
    → Going labels first paths st 0 false augmentation
going_none labels first paths st augmentation is =
    let z : first + 0 ≡ first = omega arith in
    record { now = st; is = is; goes = ap (λ n. round labels n paths st) z; tells = ap (λ n. is_any labels n paths st) z }

abbrev pub going_more : (labels : List Label) (first : ℕ) (paths : List (List ℕ)) (st : State) (i : ℕ) (any taken : Bool) (old new : Augmentation) (names : List ℕ)
    → (g : Going labels first paths st i any old) → slice_get paths i ≡ Some names → IsAugmentation labels (turned labels (first + i) names g.now) new
    → taken ≡ takes labels (first + i) names g.now → Going labels first paths st (i + 1) (if taken then true else any) new
going_more labels first paths st i any taken old new names g at is tells =
    let z : first + (i + 1) ≡ first + i + 1 = omega arith in
    let next : State = turned labels (first + i) names g.now in
    record {
      now = next;
      is = is;
      goes = ap (λ n. round labels n (drop (i + 1) paths) next) z
          ∙ ap (λ l. round labels (first + i) l g.now) (sym (rest_of paths i names at)) ∙ g.goes;
      tells =
          ap (λ n. (if taken then true else any) || is_any labels n (drop (i + 1) paths) next) z
          ∙ or_assoc any taken (is_any labels (first + i + 1) (drop (i + 1) paths) next)
          ∙ ap (λ b. any || (b || is_any labels (first + i + 1) (drop (i + 1) paths) next)) tells
          ∙ ap (λ l. any || is_any labels (first + i) l g.now) (sym (rest_of paths i names at))
          ∙ g.tells;
    }

pub going_all : (labels : List Label) (first : ℕ) (paths : List (List ℕ)) (st : State) (i : ℕ) (any : Bool) (augmentation : Augmentation) → length paths ≤ i
    → Going labels first paths st i any augmentation → IsAugmentation labels (round labels first paths st) augmentation × (any ≡ is_any labels first paths st)
going_all labels first paths st i any augmentation past g =
    let done : drop i paths ≡ [] = drop_all i paths past in
    let same : g.now ≡ round labels first paths st = ap (λ l. round labels (first + i) l g.now) (sym done) ∙ g.goes in (
      subst (λ (s : State). IsAugmentation labels s augmentation) same g.is,
      sym (or_false any) ∙ ap (λ l. any || is_any labels (first + i) l g.now) (sym done) ∙ g.tells,
    )

-- one round more
pub one_more : (labels : List Label) (first : ℕ) (paths : List (List ℕ)) (n : ℕ) (st : State)
    → round labels first paths (rounds labels first paths n st) ≡ rounds labels first paths (suc n) st
one_more labels first paths zero st = refl
one_more labels first paths (suc n) st = one_more labels first paths n (round labels first paths st)

-- what waits at the end waits for nothing that is there
idle_all : (labels : List Label) (k : ℕ) (paths : List (List ℕ)) (i : ℕ) (names : List ℕ) (st : State) → is_any labels k paths st ≡ false
    → slice_get paths i ≡ Some names → takes labels (k + i) names st ≡ false
idle_all labels k [] i names st e at = absurd (let bad : None ≡ Some names = at in cc)
idle_all labels k (one ∷ others) zero names st e at =
    let parts = none_of (takes labels k one st) (is_any labels (k + 1) others (turned labels k one st)) e in
    ap (λ (x : List ℕ). takes labels (k + 0) x st) (sym (same_Some one names at))
    ∙ ap (λ n. takes labels n one st) (let z : k + 0 ≡ k = omega arith in z) ∙ parts.0
idle_all labels k (one ∷ others) (suc i) names st e at =
    let parts = none_of (takes labels k one st) (is_any labels (k + 1) others (turned labels k one st)) e in
    let same : is_any labels (k + 1) others st ≡ false =
    ap (is_any labels (k + 1) others) (sym (idle_turn labels k 0 (length labels) one st parts.0)) ∙ parts.1 in
    ap (λ n. takes labels n names st) (let z : k + suc i ≡ k + 1 + i = omega arith in z) ∙ idle_all labels (k + 1) others i names st same at

ended_none : (b : Bool) (o : Option End) → b ≡ false → (not b && is_some o) ≡ false → o ≡ None
ended_none true o f e = absurd (let bad : true ≡ false = f in cc)
ended_none false None f e = refl
ended_none false (Some x) f e = absurd (let bad : true ≡ false = e in cc)

pub nowhere : (labels : List Label) (first : ℕ) (paths : List (List ℕ)) (old new : State) → AreApplied labels first paths old new
    → LeadsNowhere labels first paths new
nowhere labels first paths old new are k names at waits =
    ended_none (is_applied new (first + k)) (path_end labels new.groups (length labels) names (end.Start 0)) waits
    (idle_all labels first paths k names new are.last at)

-- rounds behind one that applies none change nothing
stays : (labels : List Label) (first : ℕ) (paths : List (List ℕ)) (st : State) (n m : ℕ) → n ≤ m
    → is_any labels first paths (rounds labels first paths n st) ≡ false → rounds labels first paths m st ≡ rounds labels first paths n st
stays labels first paths st n zero le last = ap (λ k. rounds labels first paths k st) (let e : 0 ≡ n = omega (arith, le) in e)
stays labels first paths st n (suc m) le last = elim (cases_lt m n) [
  | inl past ↦ ap (λ k. rounds labels first paths k st) (let e : suc m ≡ n = omega (arith, le, past) in e)
  | inr more ↦
      let same : rounds labels first paths m st ≡ rounds labels first paths n st = stays labels first paths st n m more last in
      sym (one_more labels first paths m st) ∙ ap (round labels first paths) same ∙ idle_round labels first paths (rounds labels first paths n st) last
]

pub rounds_one : (labels : List Label) (first : ℕ) (paths : List (List ℕ)) (old a b : State) → AreApplied labels first paths old a
    → AreApplied labels first paths old b → a ≡ b
rounds_one labels first paths old a b p q =
    let last : is_any labels first paths (rounds labels first paths p.count old) ≡ false = ap (is_any labels first paths) (sym p.is) ∙ p.last in
    let end : is_any labels first paths (rounds labels first paths q.count old) ≡ false = ap (is_any labels first paths) (sym q.is) ∙ q.last in
    elim (cases_lt p.count q.count) [
      | inl lt ↦ p.is ∙ sym (stays labels first paths old p.count q.count (omega (arith, lt)) last) ∙ sym q.is
      | inr le ↦ p.is ∙ stays labels first paths old q.count p.count le end ∙ sym q.is
    ]
