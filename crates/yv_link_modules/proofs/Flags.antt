-- Faults from tests, and lists that are met one by one.
use Rattle.std.proofs.Common.{◌≡◌, ℕ, ◌+◌, ◌<◌, ◌≤◌, ◌||◌, ◌⊎◌, inl, inr, is_some, zero, suc, Bool, true, false, cond, List, [], ◌∷◌, ◌++◌, length, map, get_or, take, refl, sym, ◌∙◌, ap, subst, arith, Option, Some, None}
use Rattle.std.specs.List.{slice_get, list_any}
use Rattle.std.specs.Option.{option_map}
use Rattle.std.proofs.lemmas.List.{take_more}
use Rattle.std.proofs.lemmas.Option.{slice_get-map, slice_get_read, slice_get_within, get_or_from_slice_get}
use Rattle.std.proofs.lemmas.Bool.{false≢true}
use Rattle.yv_text_statement.specs.Order.{IsLeast, IsLesser, Stands, Among}
use Rattle.yv_text_statement.specs.declared.refusal.Refusal.{Refusal}
use Rattle.yv_text_statement.proofs.Least.{least_more, least_refused, least_same}

-- a refusal where a test holds
pub flagged : (test flag : Bool) (r : Refusal) (result : Option Refusal) → flag ≡ test → result ≡ cond flag (Some r) None → IsLeast (Stands (test ≡ true) r) result
flagged test flag r result e h = subst (λ (o : Option Refusal). IsLeast (Stands (test ≡ true) r) o) (sym h) (least_refused (test ≡ true) flag r (λ f. sym e ∙ f) (λ t. e ∙ t))

-- a refusal where what a test decides holds
pub decided : (P : Type 0) (test flag : Bool) (r : Refusal) (result : Option Refusal) → (test ≡ true → P) → (P → test ≡ true) → flag ≡ test → result ≡ cond flag (Some r) None → IsLeast (Stands P r) result
decided P test flag r result to from e h = subst (λ (o : Option Refusal). IsLeast (Stands P r) o) (sym h) (least_refused P flag r (λ f. to (sym e ∙ f)) (λ p. e ∙ from p))

none_of : (P : Type 0) (b : Bool) → (P → b ≡ true) → b ≡ false → P → ⊥
none_of P b from unset p = false≢true (sym unset ∙ from p)

left_false : (a b : Bool) → (a || b) ≡ false → a ≡ false
left_false true b h = h
left_false false b h = refl

right_false : (a b : Bool) → (a || b) ≡ false → b ≡ false
right_false true b h = absurd (false≢true (sym h))
right_false false b h = h

-- the refusals of which none stands
pub none_wrong : (P : Type 0) (a b : Bool) (r : Refusal) (Q : Refusal → Type 0) → (P → a ≡ true) → (a || b) ≡ false → (b ≡ false → IsLeast Q None) → IsLeast (λ f. Stands P r f ⊎ Q f) None
none_wrong P a b r Q from h others = λ s w. elim w [ inl x ↦ none_of P a from (left_false a b h) x.0 | inr y ↦ others (right_false a b h) s y ]

pub none_last : (P : Type 0) (a : Bool) (r : Refusal) → (P → a ≡ true) → a ≡ false → IsLeast (Stands P r) None
none_last P a r from h = λ s x. none_of P a from h x.0

-- one more with which nothing is wrong
pub least_stays : {X : Type 0} (xs : List X) (P : ℕ → X → Refusal → Type 0) (i : ℕ) (x : X) (a b : Option Refusal) → slice_get xs i ≡ Some x → IsLeast (Among xs P i) a → is_some b ≡ false → IsLeast (P i x) b → IsLeast (Among xs P (i + 1)) a
least_stays xs P i x a None at p none q = least_more xs P i x a None a at (by a) p q
  where
    by : (o : Option Refusal) → IsLesser o None o
    by None = refl
    by (Some r) = refl
least_stays xs P i x a (Some r) at p none q = absurd (false≢true (sym none))

-- all of them
pub least_all : {X : Type 0} (xs : List X) (P : ℕ → X → Refusal → Type 0) (i : ℕ) (o : Option Refusal) → length xs ≤ i → IsLeast (Among xs P i) o → IsLeast (Among xs P (length xs)) o
least_all xs P i o h l = least_same (Among xs P i) (Among xs P (length xs)) o
    (λ r a. (a.0, slice_get_within xs a.0 a.2 a.3, a.2, a.3, a.4))
    (λ r a. (a.0, omega (arith, a.1), a.2, a.3, a.4)) l

pub get_map : {A B : Type 0} (f : A → B) (xs : List A) (n i : ℕ) (x : A) → n ≡ length xs → i < n → x ≡ get_or xs i x → slice_get (map f xs) i ≡ Some (f x)
get_map f xs n i x e h is = slice_get-map f xs i ∙ ap (option_map f) (slice_get_read xs n i x e h is)

-- what the view of a list has at a place
pub get_view : {A B : Type 0} (f : A → B) (xs : List A) (ys : List B) (i : ℕ) (x : A) → map f xs ≡ ys → i < length xs → x ≡ get_or xs i x → slice_get ys i ≡ Some (f x)
get_view f xs ys i x same h is = ap (λ zs. slice_get zs i) (sym same) ∙ get_map f xs (length xs) i x refl h is

pub take_next : {A : Type 0} (xs : List A) (i : ℕ) (x : A) → slice_get xs i ≡ Some x → take (i + 1) xs ≡ take i xs ++ x ∷ []
take_next xs i x at = take_more xs i x (slice_get_within xs i x at) ∙ ap (λ y. take i xs ++ y ∷ []) (get_or_from_slice_get xs i x x at)

pub any_at : {A : Type 0} (f : A → Bool) (xs : List A) (i : ℕ) (x : A) → i < length xs → x ≡ get_or xs i x → f x ≡ true → list_any f xs ≡ true
any_at f [] i x h e t = elim h [ ]
any_at f (y ∷ xs) zero x h e t = ap (λ b. b || list_any f xs) (ap f (sym e) ∙ t)
any_at f (y ∷ xs) (suc i) x h e t = or_true (f y) (list_any f xs) (any_at f xs i x (omega arith) e t)
  where
    or_true : (a b : Bool) → b ≡ true → (a || b) ≡ true
    or_true true b e = refl
    or_true false b e = e
