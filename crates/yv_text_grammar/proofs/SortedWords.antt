-- Words in ascending order, as a sort leaves them.
use Rattle.std.proofs.Common.{◌≡◌, ℕ, zero, suc, ◌+◌, ◌<◌, Bool, true, false, not, ◌&&◌, ◌||◌, inl, inr, List, [], ◌∷◌, length, map, get_or, refl, sym, ◌∙◌, ap, arith, add-one}
use Rattle.std.specs.List.{AllAdjacentBelow, IsAllAdjacentAnswer, list_any}
use Rattle.std.specs.List.Sorted.{IsSorted, IsBinarySearchResult, IsSearchInRange}
use Rattle.std.specs.Ordering.{is_lt, is_eq, nat_cmp, ordering_reverse}
use Rattle.std.specs.declared.cmp.Ordering.{Ordering}
use Rattle.std.specs.declared.cmp.Ordering.TheVariants.{Less, Equal, Greater}
use Rattle.std.specs.declared.result.Result.{Result}
use Rattle.std.specs.declared.result.Result.TheVariants.{Ok, Err}
use Rattle.std.specs.Result.{is_ok}
use Rattle.std.specs.Cmp.Lexicographic.{slice_cmp, texts_ties}
use Rattle.std.specs.Str.{bytes_eq}
use Rattle.std.proofs.lemmas.Bool.{false≢true, cases_lt}
use Rattle.std.proofs.lemmas.Cmp.{nat_list_cmp_total, nat_list_eq_equiv}
use Rattle.std.proofs.lemmas.List.Sorted.{searchable_from_sorted}
use Rattle.yv_text_grammar.specs.InnerDistinct.{by_text, text_of}
use Rattle.yv_text_grammar.specs.Texts.{none_twice}
use denote.Ref.{Bor}

abbrev compare_texts : List ℕ → List ℕ → Ordering
compare_texts = slice_cmp nat_cmp

-- each word is below the next
abbrev Strict : List (List ℕ) → Type 0
Strict [] = Unit {0}
Strict (x ∷ []) = Unit {0}
Strict (x ∷ y ∷ ws) = (compare_texts x y ≡ Less) × Strict (y ∷ ws)

less : (r : Ordering) → is_lt r ≡ true → r ≡ Less
less Less h = refl
less Equal h = absurd (false≢true h)
less Greater h = absurd (false≢true h)

strict : (ws : List (Bor (List ℕ))) → AllAdjacentBelow (λ x y. true ≡ is_lt (by_text x y)) ws (length ws) → Strict (map text_of ws)
strict [] h = tt
strict (v ∷ []) h = tt
strict (v ∷ w ∷ ws) h = (less _ (sym (h 0 v (omega arith))), strict (w ∷ ws) (λ k d below. rw add-one (rw add-one at (h (suc k) d (omega (arith, below))))))

-- what is above the first is not the word
above : (w : List ℕ) (v : List ℕ) (ws : List (List ℕ)) → compare_texts w v ≡ Less → Strict (v ∷ ws) → list_any (bytes_eq w) (v ∷ ws) ≡ false
above w v [] h s = rw (texts_ties w v, h) refl
above w v (u ∷ ws) h s = rw (texts_ties w v, h) (above w u ws (nat_list_cmp_total.trans w v u h s.0) s.1)

once : (ws : List (List ℕ)) → Strict ws → none_twice ws ≡ true
once [] s = refl
once (w ∷ []) s = refl
once (w ∷ v ∷ ws) s = rw (above w v ws s.0 s.1, once (v ∷ ws) s.1) refl

none_twice-strict : (ws : List (Bor (List ℕ))) → AllAdjacentBelow (λ x y. true ≡ is_lt (by_text x y)) ws (length ws) → none_twice (map text_of ws) ≡ true
none_twice-strict ws h = once (map text_of ws) (strict ws h)

-- neither is below the other
tied : (r : Ordering) → is_lt r ≡ false → is_lt (ordering_reverse r) ≡ false → is_eq r ≡ true
tied Less h k = sym h
tied Equal h k = refl
tied Greater h k = sym k

twice : (ws : List (Bor (List ℕ))) (k : ℕ) (d : Bor (List ℕ)) → k + 1 < length ws → bytes_eq (get_or ws k d).now (get_or ws (k + 1) d).now ≡ true → none_twice (map text_of ws) ≡ false
twice [] k d h e = absurd (omega (arith, h))
twice (v ∷ []) k d h e = absurd (omega (arith, h))
twice (v ∷ w ∷ ws) zero d h e = rw e refl
twice (v ∷ w ∷ ws) (suc k) d h e = rw (twice (w ∷ ws) k d (omega (arith, h)) (rw add-one (rw add-one at e))) (never (list_any (bytes_eq v.now) (map text_of (w ∷ ws))))
  where
    never : (b : Bool) → (not b && false) ≡ false
    never true = refl
    never false = refl

-- where words that are in order aren't strictly in order, two are the same
none_twice-tied : (ws : List (Bor (List ℕ))) (k : ℕ) (d : Bor (List ℕ)) → IsSorted by_text ws → k + 1 < length ws → false ≡ is_lt (by_text (get_or ws k d) (get_or ws (k + 1) d)) → none_twice (map text_of ws) ≡ false
none_twice-tied ws k d sorted h e =
    let x = (get_or ws k d).now in
    let y = (get_or ws (k + 1) d).now in
    let not_above : is_lt (ordering_reverse (compare_texts x y)) ≡ false = ap is_lt (sym (nat_list_cmp_total.antisymm y x)) ∙ sorted k d (omega arith) h in
    twice ws k d h (texts_ties x y ∙ tied (compare_texts x y) (sym e) not_above)

-- a word at a place is among the words
found : (w : List ℕ) (ws : List (Bor (List ℕ))) (k : ℕ) (d : Bor (List ℕ)) → k < length ws → compare_texts (get_or ws k d).now w ≡ Equal → list_any (bytes_eq w) (map text_of ws) ≡ true
found w [] k d h e = absurd (omega (arith, h))
found w (v ∷ ws) zero d h e = rw (nat_list_eq_equiv.symm w v.now, texts_ties v.now w, e) refl
found w (v ∷ ws) (suc k) d h e = rw (found w ws k d (omega (arith, h)) e) (always (bytes_eq w v.now))
  where
    always : (b : Bool) → (b || true) ≡ true
    always true = refl
    always false = refl

-- a word that is tied with none isn't among the words
missed : (w : Bor (List ℕ)) (ws : List (Bor (List ℕ))) → ((k : ℕ) → k < length ws → is_eq (by_text (get_or ws k w) w) ≡ false) → list_any (bytes_eq w.now) (map text_of ws) ≡ false
missed w [] h = refl
missed w (v ∷ ws) h = rw (nat_list_eq_equiv.symm w.now v.now, texts_ties v.now w.now, h 0 (omega arith)) (missed w ws (λ k below. h (suc k) (omega (arith, below))))

-- a binary search answers whether a word is among words in order
pub searched_among : (w : Bor (List ℕ)) (ws : List (Bor (List ℕ))) (r : Result ℕ ℕ) → IsSorted by_text ws → IsSearchInRange r (length ws) → IsBinarySearchResult (λ y. by_text y w) ws r → is_ok r ≡ list_any (bytes_eq w.now) (map text_of ws)
searched_among w ws (Ok k) sorted below at_k = sym (found w.now ws k w below (at_k w))
searched_among w ws (Err k) sorted below parted =
    let parts = parted (searchable_from_sorted nat_list_cmp_total text_of ws w.now sorted) in
    sym (missed w ws (λ j within. elim (cases_lt j k) [
      | inl low ↦ ap is_eq (parts.0 j w (omega arith) low)
      | inr high ↦ ap is_eq (parts.1 j w high within)
    ]))

-- words in order are strictly in order exactly where none stands twice
pub rising_is : (ws : List (Bor (List ℕ))) (r : Bool) → IsSorted by_text ws → IsAllAdjacentAnswer (λ x y b. b ≡ is_lt (by_text x y)) ws r → r ≡ none_twice (map text_of ws)
rising_is ws true sorted h = sym (none_twice-strict ws h)
rising_is [] false sorted h = absurd (omega (arith, h.1))
rising_is (w ∷ ws) false sorted h = sym (none_twice-tied (w ∷ ws) h.0 w sorted h.1 (h.2 w))
