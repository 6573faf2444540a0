-- The bytes of a name are those of a word.
use Rattle.std.proofs.Common.{◌≡◌, ◌==◌, ℕ, Bool, true, false, ◌||◌, cond, List, [], ◌∷◌, refl, arith}
use Rattle.std.proofs.lemmas.Bool.{and_parts, and_from, false≢true}
use Rattle.std.proofs.lemmas.Bool.Decides.{nat_tests}
use Rattle.std.specs.List.{list_all, onto_first, slice_split}
use Rattle.yv_text_if_feature.specs.Bytes.{colon, is_blank}
use Rattle.yv_text_if_feature.specs.Names.{is_identifier, is_name, is_part, is_start}
use Rattle.yv_text_path.specs.Pieces.{is_word_byte}

abbrev is_colon : ℕ → Bool
is_colon b = b == colon

start_is_part : (b : ℕ) → is_start b ≡ true → is_part b ≡ true
start_is_part b h = rw h refl

parts_of : (text : List ℕ) → is_identifier text ≡ true → list_all is_part text ≡ true
parts_of [] h = absurd (false≢true h)
parts_of (b ∷ bs) h = and_from _ _ (start_is_part b (and_parts _ _ h).0) (and_parts _ _ h).1

each_of : (ps : List (List ℕ)) → list_all is_identifier ps ≡ true → list_all (list_all is_part) ps ≡ true
each_of [] h = refl
each_of (p ∷ ps) h = and_from _ _ (parts_of p (and_parts _ _ h).0) (each_of ps (and_parts _ _ h).1)

onto : (b : ℕ) (ps : List (List ℕ)) → list_all (list_all is_part) (onto_first b ps) ≡ true → (is_part b ≡ true) × (list_all (list_all is_part) ps ≡ true)
onto b [] h = ((and_parts _ _ (and_parts _ _ h).0).0, refl)
onto b (p ∷ ps) h =
    let q = and_parts _ _ h in
    let r = and_parts _ _ q.0 in
    (r.0, and_from _ _ r.1 q.1)

-- where each piece between colons has such bytes, the text has
joined : (text : List ℕ) → list_all (list_all is_part) (slice_split is_colon text) ≡ true → list_all is_word_byte text ≡ true
joined [] h = refl
joined (b ∷ bs) h =
    let P : Bool → Type 0 = λ t. is_colon b ≡ t → list_all (list_all is_part) (cond t ([] ∷ slice_split is_colon bs) (onto_first b (slice_split is_colon bs))) ≡ true → list_all is_word_byte (b ∷ bs) ≡ true in
    let at : (t : Bool) → P t = λ t. elim t as P [
      | true ↦ λ e k. and_from _ _ (or_right (is_part b) (is_colon b) e) (joined bs k)
      | false ↦ λ e k. let q = onto b (slice_split is_colon bs) k in and_from _ _ (or_left (is_part b) (is_colon b) q.0) (joined bs q.1)
    ] in
    at (is_colon b) refl h
  where
    or_left : (a c : Bool) → a ≡ true → (a || c) ≡ true
    or_left a c e = rw e refl

    or_right : (a c : Bool) → c ≡ true → (a || c) ≡ true
    or_right true c e = refl
    or_right false c e = e

pub name_bytes : (text : List ℕ) → is_name text ≡ true → list_all is_word_byte text ≡ true
unfolding is_name
name_bytes text h = joined text (each_of (slice_split is_colon text) (and_parts _ _ h).1)

-- no bytes are no name
pub no_name : is_name [] ≡ true → false ≡ true
unfolding is_name
no_name h = h

-- `..` is no name
pub dots_no_name : is_name (46 ∷ 46 ∷ []) ≡ false
unfolding is_name
dots_no_name = refl

-- a blank is no byte of a word
pub blank_ends : (b : ℕ) → is_blank b ≡ true → is_word_byte b ≡ false
blank_ends b h = grind (arith, nat_tests)
