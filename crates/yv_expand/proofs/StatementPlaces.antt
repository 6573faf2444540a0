-- The statements by place, as they are filed.
use Rattle.std.proofs.Common.{◌≡◌, ℕ, ◌+◌, ◌<◌, ◌≤◌, inl, inr, Bool, true, false, if◌then◌else◌, List, [], ◌∷◌, ◌++◌, length, set, get_or, drop, refl, sym, ◌∙◌, ap, Option, Some, None, length-set, eq-eqb, append_assoc}
use Rattle.std.proofs.lemmas.Bool.{ne_eqb}
use Rattle.std.proofs.lemmas.List.{append-nil, drop_all}
use Rattle.std.proofs.lemmas.Option.{slice_get-get_or, same_Some}
use Rattle.std.specs.List.{slice_get}
use Rattle.std.specs.declared.vec.Vec.{Vec}
use Rattle.std.specs.declared.alloc.Global.{Global}
use Rattle.yv_link_scopes.specs.Rows.{Row}
use Rattle.yv_expand.specs.InnerItems.{Lists, AreEmpty, ArePlaced, is_place, placed_from}
use Rattle.yv_expand.proofs.Listing.{pushed_at, rest_of, set_at}

-- so many empty lists, one by one
pub empty_none : (lists : Lists) → lists ≡ [] → AreEmpty lists
empty_none lists e p v at = absurd (let bad : None ≡ Some v = ap (λ l. slice_get l p) (sym e) ∙ at in cc)

pub empty_more : (lists lists' : Lists) (v : Vec ℕ Global) → AreEmpty lists → v.items ≡ [] → lists' ≡ lists ++ v ∷ [] → AreEmpty lists'
empty_more lists lists' v old none e p w at = elim (pushed_at lists v w p (ap (λ l. slice_get l p) (sym e) ∙ at)) [
  | inl before ↦ old p w before
  | inr (here, same) ↦ ap (λ (x : Vec ℕ Global). x.items) (sym same) ∙ none
]

-- those of the first statements are filed
pub record Placing (place : ℕ → Row → Option ℕ) (rows : List Row) (count i : ℕ) (lists : Lists) : Type 0 where
  pub each : length lists ≡ count
  pub items : (p : ℕ) (v : Vec ℕ Global) → slice_get lists p ≡ Some v → v.items ++ placed_from place p i (drop i rows) ≡ placed_from place p 0 rows

module _ (place : ℕ → Row → Option ℕ) (rows : List Row) (count : ℕ) where
  pub placing_none : (lists : Lists) → length lists ≡ count → AreEmpty lists → Placing place rows count 0 lists
  placing_none lists each none = record { each = each; items = λ p v at. rw (none p v at) refl }

  -- one more statement, which has no place
  pub placing_other : (i : ℕ) (lists : Lists) (r : Row) (o : Option ℕ) → Placing place rows count i lists → slice_get rows i ≡ Some r → o ≡ place i r → o ≡ None → Placing place rows count (i + 1) lists
  placing_other i lists r o old at is none = record {
    each = old.each;
    items = λ p v here.
        let without : place i r ≡ None = sym is ∙ none in
        let rest : placed_from place p i (drop i rows) ≡ placed_from place p i (r ∷ drop (i + 1) rows) = ap (placed_from place p i) (rest_of rows i r at) in
        let same : placed_from place p i (r ∷ drop (i + 1) rows) ≡ placed_from place p (i + 1) (drop (i + 1) rows) = rw without refl in
        ap (λ l. v.items ++ l) (sym same ∙ sym rest) ∙ old.items p v here;
  }

  -- one more statement, which has this place
  pub placing_place : (i q : ℕ) (lists lists' : Lists) (r : Row) (row row' : Vec ℕ Global) (o : Option ℕ) → Placing place rows count i lists → slice_get rows i ≡ Some r → o ≡ place i r → o ≡ Some q → q < length lists → row ≡ get_or lists q row → row'.items ≡ row.items ++ i ∷ [] → lists' ≡ set lists q row' → Placing place rows count (i + 1) lists'
  placing_place i q lists lists' r row row' o old at is some within read more now = record {
    each = ap length now ∙ (let l : length (set lists q row') ≡ length lists = length-set lists q row' in l) ∙ old.each;
    items = λ p v here.
        let with : place i r ≡ Some q = sym is ∙ some in
        let rest : placed_from place p i (drop i rows) ≡ placed_from place p i (r ∷ drop (i + 1) rows) = ap (placed_from place p i) (rest_of rows i r at) in
        elim (set_at lists q p row' v (ap (λ l. slice_get l p) (sym now) ∙ here)) [
          | inl (same, v_is) ↦
              let head : is_place p (place i r) ≡ true = rw with (eq-eqb q p (sym same)) in
              let split : placed_from place p i (r ∷ drop (i + 1) rows) ≡ i ∷ placed_from place p (i + 1) (drop (i + 1) rows) = rw head refl in
              let was : slice_get lists p ≡ Some row = ap (slice_get lists) same ∙ slice_get-get_or lists q row within ∙ ap Some (sym read) in
              ap (λ (x : Vec ℕ Global). x.items ++ placed_from place p (i + 1) (drop (i + 1) rows)) v_is
              ∙ ap (λ l. l ++ placed_from place p (i + 1) (drop (i + 1) rows)) more
              ∙ append_assoc row.items (i ∷ []) (placed_from place p (i + 1) (drop (i + 1) rows))
              ∙ ap (λ l. row.items ++ l) (sym split ∙ sym rest)
              ∙ old.items p row was
          | inr (ne, was) ↦
              let head : is_place p (place i r) ≡ false = rw with (ne_eqb q p (λ e. ne (sym e))) in
              let same : placed_from place p i (r ∷ drop (i + 1) rows) ≡ placed_from place p (i + 1) (drop (i + 1) rows) = rw head refl in
              ap (λ l. v.items ++ l) (sym same ∙ sym rest) ∙ old.items p v was
        ];
  }

  pub placing_all : (i : ℕ) (lists : Lists) → length rows ≤ i → Placing place rows count i lists → ArePlaced place rows count lists
  placing_all i lists past all = record {
    each = all.each;
    items = λ p v at. sym (append-nil v.items) ∙ (let e : v.items ++ placed_from place p i [] ≡ placed_from place p 0 rows = ap (λ l. v.items ++ placed_from place p i l) (sym (drop_all i rows past)) ∙ all.items p v at in e);
  }

-- the place that a test leaves
pub place_is : (b : Bool) (x q : ℕ) → Some q ≡ (if b then Some x else None) → q ≡ x
place_is true x q e = same_Some q x e
place_is false x q e = absurd (let bad : Some q ≡ None = e in cc)
