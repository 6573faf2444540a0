-- The first of a group is the first of its items in order.
use Rattle.std.proofs.Common.{◌⊎◌, inl, inr, ◌≡◌, ℕ, ◌≤◌, ◌&&◌, ◌||◌, not, min, nat_lt, Bool, true, false, if◌then◌else◌, List, [], ◌∷◌, refl, sym, ◌∙◌, ap, subst, arith, Option, Some, None}
use Rattle.std.specs.List.{Contains}
use Rattle.std.proofs.lemmas.Bool.{cases_lt, false≢true, le-ltb, lt-ltb, ltb-true}
use Rattle.std.proofs.lemmas.Option.{same_Some}
use Rattle.std.specs.Option.{option_or}
use Rattle.yv_expand_rounds.specs.declared.label.Label.{Label}
use Rattle.yv_expand_rounds.specs.Labels.{is_named}
use Rattle.yv_expand_rounds.specs.Order.{is_given}
use Rattle.yv_expand_rounds.specs.Paths.{before, first_named, least, lesser}
use Rattle.yv_expand_laws.specs.Order.{comes_before}
use Rattle.yv_expand_laws.specs.Shows.{Ascend, Orders}
use Rattle.yv_expand_laws.specs.Shows.Ascend.{no_items, one_more}
use Rattle.yv_expand_laws.proofs.FoundItems.{found, least_there, not_none, there_first, there_later}
use Rattle.yv_expand_laws.proofs.FrameSequences.{nothing_stands}
use Rattle.yv_expand_laws.proofs.BlockNodes.{first_or}

-- the first that passes, of a list in order
abbrev pub find : (passes : ℕ → Bool) → List ℕ → Option ℕ
find passes [] = None
find passes (i ∷ is) = if passes i then Some i else find passes is

not_less : (a b : ℕ) → nat_lt a b ≡ false → b ≤ a
not_less a b h = elim (cases_lt a b) [ inl l ↦ absurd (false≢true (sym h ∙ lt-ltb a b l)) | inr l ↦ l ]

-- the least that passes is there where one passes, and is no greater than any that does
least_is : (passes : ℕ → Bool) (xs : List ℕ) (j : ℕ) → Contains xs j → passes j ≡ true
    → (least passes xs ≡ None → ⊥) × ((i : ℕ) → least passes xs ≡ Some i → i ≤ j)
least_is passes [] j there ok = absurd (nothing_stands j there)
least_is passes (x ∷ xs) j there ok = by (passes x) refl (least passes xs) refl (first_or x xs j there) (least_is passes xs j)
  where
    by : (b : Bool) → passes x ≡ b → (o : Option ℕ) → least passes xs ≡ o → (x ≡ j) ⊎ Contains xs j
        → (Contains xs j → passes j ≡ true → (least passes xs ≡ None → ⊥) × ((i : ℕ) → least passes xs ≡ Some i → i ≤ j))
        → (lesser (if b then Some x else None) o ≡ None → ⊥) × ((i : ℕ) → lesser (if b then Some x else None) o ≡ Some i → i ≤ j)
    by false is o at (inl same) later = absurd (false≢true (sym is ∙ ap passes same ∙ ok))
    by false is o at (inr rest) later = ((λ e. (later rest ok).0 (at ∙ e)), (λ i e. (later rest ok).1 i (at ∙ e)))
    by true is None at (inl same) later = ((λ e. not_none (sym e)), (λ i e. (let l = same_Some x i e in omega (arith, l, same))))
    by true is None at (inr rest) later = absurd ((later rest ok).0 at)
    by true is (Some y) at (inl same) later = ((λ e. not_none (sym e)), (λ i e. (let l : min x y ≡ i = same_Some (min x y) i e in omega (arith, l, same))))
    by true is (Some y) at (inr rest) later =
        ((λ e. not_none (sym e)), (λ i e. (let l : min x y ≡ i = same_Some (min x y) i e in let m : y ≤ j = (later rest ok).1 y at in omega (arith, l, m))))

right_true : (a b : Bool) → (a && b) ≡ true → b ≡ true
right_true true b e = e
right_true false b e = absurd (false≢true e)

not_true : (b : Bool) → not b ≡ true → b ≡ false
not_true true e = absurd (false≢true e)
not_true false e = refl

pub from_left : (a b : Bool) → a ≡ true → b ≡ true → (a && b) ≡ true
from_left a b p q = ap (λ (c : Bool). c && b) p ∙ q

-- where a node of a name stands one is found, and none of the name comes before the one that is
-- found
pub first_is : (given : ℕ → Bool) (labels : List Label) (name : ℕ) → ((i : ℕ) → given i ≡ is_given labels i) → (xs : List ℕ) (j : ℕ) → Contains xs j
    → is_named labels name j ≡ true → (first_named labels name xs ≡ None → ⊥) × ((i : ℕ) → first_named labels name xs ≡ Some i → comes_before given j i ≡ false)
first_is given labels name marks xs j there ok = by (is_given labels j) refl (least own xs) refl
  where
    own : ℕ → Bool
    own i = is_named labels name i && not (is_given labels i)

    theirs : ℕ → Bool
    theirs i = is_named labels name i && is_given labels i

    -- what comes of the marks of two items and their numbers
    order : (i : ℕ) (p q : Bool) → is_given labels j ≡ p → is_given labels i ≡ q → (if p then q && nat_lt j i else q || nat_lt j i) ≡ false → comes_before given j i ≡ false
    order i p q at_j at_i e =
        ap (λ (b : Bool). if b then given i && nat_lt j i else given i || nat_lt j i) (marks j ∙ at_j)
        ∙ (ap (λ (b : Bool). if p then b && nat_lt j i else b || nat_lt j i) (marks i ∙ at_i) ∙ e)

    own_mark : (i : ℕ) → least own xs ≡ Some i → is_given labels i ≡ false
    own_mark i e = not_true (is_given labels i) (right_true (is_named labels name i) (not (is_given labels i)) (least_there own xs i e).1)

    their_mark : (i : ℕ) → least theirs xs ≡ Some i → is_given labels i ≡ true
    their_mark i e = right_true (is_named labels name i) (is_given labels i) (least_there theirs xs i e).1

    by : (p : Bool) → is_given labels j ≡ p → (o : Option ℕ) → least own xs ≡ o
        → (option_or o (least theirs xs) ≡ None → ⊥) × ((i : ℕ) → option_or o (least theirs xs) ≡ Some i → comes_before given j i ≡ false)
    by false mark None at =
        absurd ((least_is own xs j there (from_left (is_named labels name j) (not (is_given labels j)) ok (ap not mark))).0 at)
    by false mark (Some y) at = (
      (λ e. not_none (sym e)),
      (λ i e. (let le : i ≤ j = (least_is own xs j there (from_left (is_named labels name j) (not (is_given labels j)) ok (ap not mark))).1 i (at ∙ e) in
          order i false false mark (own_mark i (at ∙ e)) (le-ltb j i le))),
    )
    by true mark None at =
        let l = least_is theirs xs j there (from_left (is_named labels name j) (is_given labels j) ok mark) in
        (l.0, (λ i e. (let le : i ≤ j = l.1 i e in order i true true mark (their_mark i e) (le-ltb j i le))))
    by true mark (Some y) at = ((λ e. not_none (sym e)), (λ i e. order i true false mark (own_mark i (at ∙ e)) refl))

pub find_there : (passes : ℕ → Bool) (xs : List ℕ) (i : ℕ) → find passes xs ≡ Some i → Contains xs i × (passes i ≡ true)
find_there passes [] i e = absurd (not_none e)
find_there passes (x ∷ xs) i e = by (passes x) refl e (find_there passes xs i)
  where
    by : (b : Bool) → passes x ≡ b → (if b then Some x else find passes xs) ≡ Some i → (find passes xs ≡ Some i → Contains xs i × (passes i ≡ true)) → Contains (x ∷ xs) i × (passes i ≡ true)
    by true is h later = (let same : x ≡ i = same_Some x i h in (subst (λ n. Contains (x ∷ xs) n) same (there_first x xs), ap passes (sym same) ∙ is))
    by false is h later = (there_later x i xs (later h).0, (later h).1)

-- of a list in order, what passes is found or comes behind what is found
pub find_first : (given passes : ℕ → Bool) (xs : List ℕ) (i : ℕ) → Ascend given xs → Contains xs i → passes i ≡ true
    → (find passes xs ≡ None → ⊥) × ((j : ℕ) → find passes xs ≡ Some j → (j ≡ i) ⊎ (comes_before given j i ≡ true))
find_first given passes _ i no_items there ok = absurd (nothing_stands i there)
find_first given passes _ i (one_more {i = x} {others = xs} less rest) there ok = by (passes x) refl (first_or x xs i there) (λ h. find_first given passes xs i rest h ok)
  where
    by : (b : Bool) → passes x ≡ b → (x ≡ i) ⊎ Contains xs i
        → (Contains xs i → (find passes xs ≡ None → ⊥) × ((j : ℕ) → find passes xs ≡ Some j → (j ≡ i) ⊎ (comes_before given j i ≡ true)))
        → ((if b then Some x else find passes xs) ≡ None → ⊥) × ((j : ℕ) → (if b then Some x else find passes xs) ≡ Some j → (j ≡ i) ⊎ (comes_before given j i ≡ true))
    by true is (inl same) later = ((λ e. not_none (sym e)), (λ j e. inl (sym (same_Some x j e) ∙ same)))
    by true is (inr h) later = ((λ e. not_none (sym e)), (λ j e. inr (ap (λ n. comes_before given n i) (sym (same_Some x j e)) ∙ less i h)))
    by false is (inl same) later = absurd (false≢true (sym is ∙ ap passes same ∙ ok))
    by false is (inr h) later = later h

-- what is found before a limit, of members that are these items or behind the limit
pub answer_is : (given : ℕ → Bool) (labels : List Label) (name : ℕ) (holds : ℕ → Type 0) (members items : List ℕ) (limit : ℕ)
    → ((i : ℕ) → given i ≡ is_given labels i) → Orders given holds items → ((i : ℕ) → holds i → Contains members i)
    → ((i : ℕ) → Contains members i → holds i ⊎ (limit ≤ i))
    → ((i j : ℕ) → Contains members i → is_named labels name i ≡ true → limit ≤ i → holds j → comes_before given j i ≡ true)
    → before limit (first_named labels name members) ≡ find (is_named labels name) items
answer_is given labels name holds members items limit marks o into cases late = by (first_named labels name members) refl (find passes items) refl
  where
    passes : ℕ → Bool
    passes i = is_named labels name i

    at : (i : ℕ) → first_named labels name members ≡ Some i → (b : Bool) → nat_lt i limit ≡ b → (p : Option ℕ) → find passes items ≡ p → (if b then Some i else None) ≡ p
    at i is true l None f =
        let there = found labels name members i is in
        absurd ((find_first given passes items i o.ascend (o.all i (elim (cases i there.0) [ inl h ↦ h | inr h ↦ (let m = ltb-true i limit l in absurd (omega (arith, h, m))) ])) there.1).0 f)
    at i is true l (Some j) f =
        let there = found labels name members i is in
        let here : Contains items i = o.all i (elim (cases i there.0) [ inl h ↦ h | inr h ↦ (let m = ltb-true i limit l in absurd (omega (arith, h, m))) ]) in
        let it = find_there passes items j f in
        elim ((find_first given passes items i o.ascend here there.1).1 j f) [
          | inl same ↦ ap (λ n. Some n) (sym same)
          | inr less ↦ absurd (false≢true (sym ((first_is given labels name marks members j (into j (o.only j it.0)) it.1).1 i is) ∙ less))
        ]
    at i is false l None f = refl
    at i is false l (Some j) f =
        let there = found labels name members i is in
        let it = find_there passes items j f in
        absurd (false≢true (sym ((first_is given labels name marks members j (into j (o.only j it.0)) it.1).1 i is) ∙ late i j there.0 there.1 (not_less i limit l) (o.only j it.0)))

    by : (q : Option ℕ) → first_named labels name members ≡ q → (p : Option ℕ) → find passes items ≡ p → before limit q ≡ p
    by None is None f = refl
    by None is (Some j) f = (let it = find_there passes items j f in absurd ((first_is given labels name marks members j (into j (o.only j it.0)) it.1).0 is))
    by (Some i) is p f = at i is (nat_lt i limit) refl p f
