-- The indexes of a list's `unique` statements, one by one.
use Rattle.std.proofs.Common.{◌≡◌, ℕ, zero, suc, ◌+◌, ◌<◌, ◌≤◌, List, [], ◌∷◌, ◌++◌, length, get_or, set, length-set, drop, drop-cons, add-one, map, ◌⊎◌, inl, inr, Option, refl, sym, ap, ◌∙◌, arith}
use Rattle.std.specs.List.{slice_index_or}
use Rattle.serde_json.specs.Data.{Data}
use Rattle.yv_nodes.specs.declared.node.NodeId.{NodeId}
use Rattle.yv_values.specs.Pairs.{Pair}
use Rattle.yv_values.specs.Values.{Val}
use Rattle.yv_validate.specs.Faults.{unique_faults, unique_if}
use Rattle.yv_validate.specs.InnerMemory.{Remembers, RemembersEach}
use Rattle.yv_data_leafrefs.specs.Place.{Place}
use Rattle.yv_validate.specs.Repeats.{repeat_of}
use Rattle.yv_validate.specs.Work.{tuple_work, uniques_work}
use Rattle.yv_validate.proofs.IndexContents.{nothing_yet}
use Rattle.yv_data_quiet.proofs.Leafs.{first_left}

pub record RemembersSome (is : List (List Pair)) (f : List (Option NodeId) → Data → Option (List Val)) (us : List (List (Option NodeId))) (before : List Data) (d : Data) (n : ℕ) : Type 0 where
  pub same : length is ≡ length us
  pub done : (i : ℕ) → i < n → i < length us → Remembers (slice_index_or is i []) (f (slice_index_or us i [])) (before ++ d ∷ [])
  pub left : (i : ℕ) → n ≤ i → i < length us → Remembers (slice_index_or is i []) (f (slice_index_or us i [])) before

pub none_done : (is : List (List Pair)) (f : List (Option NodeId) → Data → Option (List Val)) (us : List (List (Option NodeId))) (before : List Data) (d : Data) → RemembersEach is f us before → RemembersSome is f us before d 0
none_done is f us before d h = record { same = h.same; done = λ i lt b. absurd (omega (arith, lt)); left = λ i le b. h.each i b }

pub all_done : (is : List (List Pair)) (f : List (Option NodeId) → Data → Option (List Val)) (us : List (List (Option NodeId))) (before : List Data) (d : Data) (n : ℕ) → length us ≤ n → RemembersSome is f us before d n → RemembersEach is f us (before ++ d ∷ [])
all_done is f us before d n le h = record { same = h.same; each = λ i b. h.done i (omega (arith, b, le)) b }

pub empty_push : (xs : List (List Pair)) (x : List Pair) (j : ℕ) → x ≡ [] → ((i : ℕ) → slice_index_or xs i [] ≡ []) → slice_index_or (xs ++ x ∷ []) j [] ≡ []
empty_push [] x zero e h = e
empty_push [] x (suc j) e h = refl
empty_push (y ∷ ys) x zero e h = h zero
empty_push (y ∷ ys) x (suc j) e h = empty_push ys x j e (λ i. h (suc i))

pub each_nothing : (is : List (List Pair)) (f : List (Option NodeId) → Data → Option (List Val)) (us : List (List (Option NodeId))) → length is ≡ length us → ((i : ℕ) → slice_index_or is i [] ≡ []) → RemembersEach is f us []
each_nothing is f us e h = record { same = e; each = λ i b. rw (h i) (nothing_yet (f (slice_index_or us i []))) }

-- ---- one more statement

set_same : {X : Type 0} (xs : List X) (n : ℕ) (v d : X) → n < length xs → get_or (set xs n v) n d ≡ v
set_same [] n v d lt = absurd (omega arith)
set_same (x ∷ xs) zero v d lt = refl
set_same (x ∷ xs) (suc n) v d lt = set_same xs n v d (omega arith)

set_other : {X : Type 0} (xs : List X) (n i : ℕ) (v d : X) → (i ≡ n → ⊥) → get_or (set xs n v) i d ≡ get_or xs i d
set_other [] n i v d other = refl
set_other (x ∷ xs) zero zero v d other = absurd (other refl)
set_other (x ∷ xs) zero (suc i) v d other = refl
set_other (x ∷ xs) (suc n) zero v d other = refl
set_other (x ∷ xs) (suc n) (suc i) v d other = set_other xs n i v d (λ e. other (ap suc e))

pub any_default : {X : Type 0} (xs : List X) (n : ℕ) (d e : X) → n < length xs → get_or xs n d ≡ get_or xs n e
any_default [] n d e lt = absurd (omega arith)
any_default (x ∷ xs) zero d e lt = refl
any_default (x ∷ xs) (suc n) d e lt = any_default xs n d e (omega arith)

last_or : (i n : ℕ) → i < n + 1 → (i < n) ⊎ (i ≡ n)
last_or i n lt = grind arith

-- the n-th statement's index is as it was
pub at_turn : (is : List (List Pair)) (f : List (Option NodeId) → Data → Option (List Val)) (us : List (List (Option NodeId))) (before : List Data) (d : Data) (n : ℕ) (old : List Pair) (u : List (Option NodeId)) → n < length us
    → old ≡ get_or is n old → u ≡ get_or us n u → RemembersSome is f us before d n → Remembers old (f u) before
at_turn is f us before d n old u lt was stated h =
    rw (was ∙ any_default is n old [] (omega (arith, h.same)), stated ∙ any_default us n u [] lt) (h.left n (omega arith) lt)

pub some_step : (is : List (List Pair)) (f : List (Option NodeId) → Data → Option (List Val)) (us : List (List (Option NodeId))) (before : List Data) (d : Data) (n : ℕ) (new : List Pair) (u : List (Option NodeId)) → n < length us
    → u ≡ get_or us n u → RemembersSome is f us before d n → Remembers new (f u) (before ++ d ∷ []) → RemembersSome (set is n new) f us before d (n + 1)
some_step is f us before d n new u lt stated h now = record {
  same = length-set is n new ∙ h.same;
  done = λ i less within. elim (last_or i n less) [
    | inl a ↦ rw (set_other is n i new [] (λ e. absurd (omega (arith, a, e)))) (h.done i a within)
    | inr e ↦ rw (e, set_same is n new [] (omega (arith, h.same)), ← any_default us n u [] lt, ← stated) now
  ];
  left = λ i le within. rw (set_other is n i new [] (λ e. absurd (omega (arith, le, e)))) (h.left i (omega (arith, le)) within);
}

-- ---- what is told of them

pub unique_drop : (f : List (Option NodeId) → Data → Option (List Val)) (here : List Place) (k : ℕ) (us : List (List (Option NodeId))) (i : ℕ) (u : List (Option NodeId)) (before : List Data) (d : Data) → i < length us → u ≡ get_or us i u
    → unique_faults f here k (drop i us) before d ≡ unique_if (repeat_of (f u) before d) here k ++ unique_faults f here (k + 1) (drop (i + 1) us) before d
unique_drop f here k us i u before d lt is =
    ap (λ vs. unique_faults f here k vs before d) (first_left us i u lt)
    ∙ ap (λ w. unique_if (repeat_of (f w) before d) here k ++ unique_faults f here (k + 1) (drop (i + 1) us) before d) (sym is)

pub work_drop : (f : List (Option NodeId) → Data → Option (List Val)) (us : List (List (Option NodeId))) (i : ℕ) (u : List (Option NodeId)) (d : Data) → i < length us → u ≡ get_or us i u
    → uniques_work f (drop i us) d ≡ tuple_work (f u d) + uniques_work f (drop (i + 1) us) d
work_drop f us i u d lt is =
    ap (λ vs. uniques_work f vs d) (first_left us i u lt) ∙ ap (λ w. tuple_work (f w d) + uniques_work f (drop (i + 1) us) d) (sym is)
