-- Texts that are cut at their blanks.
use Rattle.std.proofs.Common.{◌≡◌, ℕ, ◌+◌, ◌<◌, Bool, true, false, cond, not, List, [], ◌∷◌, ◌++◌, length, filter, map, get_or, position, Some, None, nat_lt, nat_eq, refl, sym, ap, ◌∙◌, arith, append-nil}
use Rattle.std.specs.Prelude.{if◌then◌else◌, ◌||◌, ◌==◌}
use Rattle.std.specs.List.{position_or_len, before_first, after_first, onto_first, slice_split}
use Rattle.std.proofs.lemmas.List.{map-append}
use Rattle.std.proofs.lemmas.List.Splits.{slice_split_first}
use Rattle.std.proofs.lemmas.List.Sums.{passes_at_first}
use Rattle.std.proofs.lemmas.Bool.Decides.{nat_tests}
use Rattle.yv_text_if_feature.specs.Bytes.{is_blank}
use Rattle.yv_text_grammar.specs.Words.{words}
use Rattle.yv_link_scopes.specs.Files.{Files}
use Rattle.yv_node_paths.specs.Steps.{names_of, path_of, paths_of, step_of}
use Rattle.yv_node_paths.specs.InnerFirstWord.{first_word, name_in, path_in}

or_cases : (P : Type 0) (a b : Bool) → (a || b) ≡ true → (a ≡ true → P) → (b ≡ true → P) → P
or_cases P true b h f g = f refl
or_cases P false b h f g = g h

blank_small : (b : ℕ) → is_blank b ≡ true → b < 128
blank_small b h =
    or_cases (b < 128) (b == 32 || b == 9 || b == 13) (b == 10) h
    (λ i. or_cases (b < 128) (b == 32 || b == 9) (b == 13) i
    (λ j. or_cases (b < 128) (b == 32) (b == 9) j (λ e. grind (arith, nat_tests)) (λ e. grind (arith, nat_tests)))
    (λ e. grind (arith, nat_tests)))
    (λ e. grind (arith, nat_tests))

place_within : (test : Bool) (place at len : ℕ) → nat_lt place len ≡ test → Some at ≡ cond test (Some place) None → (at ≡ place) × (place < len)
place_within true place at len t e = let same : at ≡ place = cc in (same, grind (arith, nat_tests))
place_within false place at len t e = cc

module _ (text : List ℕ) (at : ℕ) (is : Some at ≡ position is_blank text) where
  place : (at ≡ position_or_len is_blank text) × (position_or_len is_blank text < length text)
  place = place_within (nat_lt (position_or_len is_blank text) (length text)) (position_or_len is_blank text) at (length text) refl is

  pub place_in : at < length text
  place_in = let e = place.0 in let h = place.1 in omega arith

  pub place_small : get_or text at 0 < 128
  place_small = blank_small (get_or text at 0) (ap (λ (n : ℕ). is_blank (get_or text n 0)) place.0 ∙ passes_at_first is_blank text 0 place.1)

-- a piece of a text is a word, where it isn't empty
abbrev pub word_in : List ℕ → List (List ℕ)
word_in piece = if nat_eq (length piece) 0 then [] else piece ∷ []

kept_piece : (test : Bool) (piece : List ℕ) (rest : List (List ℕ)) → cond (not test) (piece ∷ rest) rest ≡ cond test [] (piece ∷ []) ++ rest
kept_piece true piece rest = refl
kept_piece false piece rest = refl

abbrev Parts : Type 0
Parts = List ℕ × List ℕ

cut_parts : (test : Bool) (whole parts : Parts) → Some parts ≡ cond test (Some whole) None → (test ≡ true) × (parts ≡ whole)
cut_parts true whole parts e = let same : parts ≡ whole = cc in (refl, same)
cut_parts false whole parts e = cc

uncut : (test : Bool) (x : Parts) → None ≡ cond test (Some x) None → test ≡ false
uncut true x e = cc
uncut false x e = refl

true_less : (a b : ℕ) → nat_lt a b ≡ true → a < b
true_less a b e = grind (arith, nat_tests)

whole_behind : (b : ℕ) (bs : List ℕ) (test : Bool) → nat_lt (cond (not test) (1 + position_or_len is_blank bs) 0) (length (b ∷ bs)) ≡ false
    → (nat_lt (position_or_len is_blank bs) (length bs) ≡ false → slice_split is_blank bs ≡ bs ∷ [])
    → cond test ([] ∷ slice_split is_blank bs) (onto_first b (slice_split is_blank bs)) ≡ (b ∷ bs) ∷ []
whole_behind b bs true h rest = absurd (grind (arith, nat_tests))
whole_behind b bs false h rest =
    let less : nat_lt (position_or_len is_blank bs) (length bs) ≡ false = grind (arith, nat_tests) in ap (onto_first b) (rest less)

whole_part : (text : List ℕ) → nat_lt (position_or_len is_blank text) (length text) ≡ false → slice_split is_blank text ≡ text ∷ []
whole_part [] h = refl
whole_part (b ∷ bs) h = whole_behind b bs (is_blank b) h (whole_part bs)

pub words_whole : (text : List ℕ) → None ≡ first_word text → words text ≡ word_in text
unfolding words
words_whole text e =
    ap (filter (λ (w : List ℕ). not (nat_eq (length w) 0))) (whole_part text (uncut (nat_lt (position_or_len is_blank text) (length text)) (before_first is_blank text, after_first is_blank text) e))
    ∙ kept_piece (nat_eq (length text) 0) text [] ∙ append-nil (word_in text)

module _ (text front back : List ℕ) (e : Some (front, back) ≡ first_word text) where
  abbrev ends : Parts
  ends = (before_first is_blank text, after_first is_blank text)

  abbrev halves : Parts
  halves = (front, back)

  parts : (nat_lt (position_or_len is_blank text) (length text) ≡ true) × (halves ≡ ends)
  parts = cut_parts (nat_lt (position_or_len is_blank text) (length text)) ends halves e

  pub words_cut : words text ≡ word_in front ++ words back
  unfolding words
  words_cut =
      ap (filter (λ (w : List ℕ). not (nat_eq (length w) 0))) (slice_split_first is_blank text 0 (true_less (position_or_len is_blank text) (length text) parts.0))
      ∙ kept_piece (nat_eq (length ends.0) 0) ends.0 (words ends.1)
      ∙ ap (λ (p : Parts). word_in p.0 ++ words p.1) (sym parts.1)

-- what is made of a word that may be empty
mapped_in : {B : Type 0} (test : Bool) (f : List ℕ → B) (piece : List ℕ) → map f (cond test [] (piece ∷ [])) ≡ cond test [] (f piece ∷ [])
mapped_in true f piece = refl
mapped_in false f piece = refl

module _ {B : Type 0} (f : List ℕ → B) where
  abbrev in_piece : List ℕ → List B
  in_piece piece = cond (nat_eq (length piece) 0) [] (f piece ∷ [])

  made_whole : (text : List ℕ) → None ≡ first_word text → map f (words text) ≡ in_piece text
  made_whole text e = ap (map f) (words_whole text e) ∙ mapped_in (nat_eq (length text) 0) f text

  made_cut : (text front back : List ℕ) → Some (front, back) ≡ first_word text → map f (words text) ≡ in_piece front ++ map f (words back)
  made_cut text front back e =
      ap (map f) (words_cut text front back e)
      ∙ map-append f (word_in front) (words back)
      ∙ ap (λ (ps : List B). ps ++ map f (words back)) (mapped_in (nat_eq (length front) 0) f front)

module _ (files : Files) (file : ℕ) where
  pub paths_whole : (text : List ℕ) → None ≡ first_word text → paths_of files file text ≡ path_in files file text
  paths_whole text e = made_whole (path_of files file) text e

  pub paths_cut : (text front back : List ℕ) → Some (front, back) ≡ first_word text → paths_of files file text ≡ path_in files file front ++ paths_of files file back
  paths_cut text front back e = made_cut (path_of files file) text front back e

  pub names_whole : (text : List ℕ) → None ≡ first_word text → names_of files file text ≡ name_in files file text
  names_whole text e = made_whole (step_of files file) text e

  pub names_cut : (text front back : List ℕ) → Some (front, back) ≡ first_word text → names_of files file text ≡ name_in files file front ++ names_of files file back
  names_cut text front back e = made_cut (step_of files file) text front back e
