-- Groups without items.
use Rattle.std.proofs.Common.{◌≡◌, ℕ, zero, suc, ◌+◌, ◌⊎◌, List, [], ◌∷◌, ◌++◌, refl, sym, ◌∙◌, ap, subst, inl, inr, length, arith, replicate, length-append, Option, Some, None}
use Rattle.std.specs.List.{slice_get}
use Rattle.std.proofs.lemmas.Option.{same_Some}
use Rattle.std.proofs.lemmas.List.{replicate-append-replicate}
use Rattle.yv_expand_rounds.specs.declared.label.Label.{Label}
use Rattle.yv_expand_rounds.specs.declared.group.Group.{Group}
use Rattle.yv_expand_rounds.specs.declared.end.End.{End}
use Rattle.yv_expand_rounds.specs.Groups.{members_of}
use Rattle.yv_expand_rounds.specs.InnerGroups.{AreGroups, IsGroup}

pub pushed_at : {A : Type 0} (xs : List A) (y x : A) (i : ℕ) → slice_get (xs ++ y ∷ []) i ≡ Some x → (slice_get xs i ≡ Some x) ⊎ (x ≡ y)
pushed_at [] y x zero h = inr (sym (same_Some y x h))
pushed_at [] y x (suc i) h = absurd (let bad : None ≡ Some x = h in cc)
pushed_at (z ∷ zs) y x zero h = inl h
pushed_at (z ∷ zs) y x (suc i) h = pushed_at zs y x i h

abbrev pub AreEmpty : List Group → Type 0
AreEmpty gs = (i : ℕ) (x : Group) → slice_get gs i ≡ Some x → (labels : List Label) → IsGroup labels [] x

pub empty_none : (gs : List Group) → gs ≡ [] → AreEmpty gs
empty_none gs e i x at = absurd (let bad : None ≡ Some x = ap (λ l. slice_get l i) (sym e) ∙ at in cc)

pub empty_more : (gs gs' : List Group) (g : Group) → AreEmpty gs → ((labels : List Label) → IsGroup labels [] g) → gs' ≡ gs ++ g ∷ [] → AreEmpty gs'
empty_more gs gs' g old none e i x at = elim (pushed_at gs g x i (ap (λ l. slice_get l i) (sym e) ∙ at)) [
  | inl before ↦ old i x before
  | inr same ↦ λ labels. subst (λ (y : Group). IsGroup labels [] y) (sym same) (none labels)
]

length-replicate : (n : ℕ) → length (replicate {A = List ℕ} n []) ≡ n
length-replicate zero = refl
length-replicate (suc n) = let e : length (replicate {A = List ℕ} n []) ≡ n = length-replicate n in omega (arith, e)

empty_members : (n g : ℕ) → members_of (replicate n []) g ≡ []
empty_members zero g = refl
empty_members (suc n) zero = refl
empty_members (suc n) (suc g) = empty_members n g

pub are_empty : (labels : List Label) (gs : List Group) (n : ℕ) → length gs ≡ n → AreEmpty gs → AreGroups labels (replicate n []) gs
are_empty labels gs n each none = record {
  each = each ∙ sym (length-replicate n);
  group = λ g x at. subst (λ (ms : List ℕ). IsGroup labels ms x) (sym (empty_members n g)) (none g x at labels);
}

pub length_replicate : (n : ℕ) → length (replicate {A = List ℕ} n []) ≡ n
length_replicate n = length-replicate n

pub pushed_length : (gs gs' : List Group) (g : Group) (n : ℕ) → gs' ≡ gs ++ g ∷ [] → length gs ≡ n → length gs' ≡ n + 1
pushed_length gs gs' g n e l =
    let both : length gs' ≡ length gs + 1 = ap length e ∙ length-append gs (g ∷ []) in
    omega (arith, both, l)

pub replicate_more : (n : ℕ) → replicate {A = Option End} n None ++ None ∷ [] ≡ replicate (n + 1) None
replicate_more n = replicate-append-replicate n 1 None

pub replicate_all : (n m : ℕ) (l : List (Option End)) → n ≡ m → l ≡ replicate n None → l ≡ replicate m None
replicate_all n m l e is = is ∙ ap (λ k. replicate k None) e

pub length_ends : (n : ℕ) → length (replicate {A = Option End} n None) ≡ n
length_ends zero = refl
length_ends (suc n) = let e : length (replicate {A = Option End} n None) ≡ n = length_ends n in omega (arith, e)
