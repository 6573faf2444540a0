-- Paths that have no predicates.
use Rattle.std.proofs.Common.{◌≡◌, ℕ, ◌==◌, ◌<◌, Bool, true, false, ◌||◌, cond, ◌⊎◌, inl, inr, List, [], ◌∷◌, ◌++◌, length, append-nil, sym, ◌∙◌, ap, subst, refl, arith}
use Rattle.std.specs.Prelude.{◌↔◌, IsTrue}
use Rattle.std.specs.List.{list_all, slice_split, onto_first, join_with_byte}
use Rattle.std.proofs.lemmas.Bool.{and_parts, and_from, false≢true, eqb-true, or_left, or_cases}
use Rattle.std.proofs.lemmas.Bool.Decides.{nat_tests}
use Rattle.std.proofs.lemmas.List.Splits.{join_with_byte-slice_split, length-slice_split}
use Rattle.yv_text_if_feature.specs.Names.{is_name}
use Rattle.yv_text_path.specs.Pieces.{is_word_byte}
use Rattle.yv_text_path.specs.Predicates as made
use Rattle.yv_text_path.specs.Paths.{Descends, IsRelativePath, IsPath}
use Rattle.yv_text_path.specs.Paths as path
use Rattle.yv_text_path.specs.PlainPaths.{is_descendant_path, is_absolute_path, is_relative_path, is_plain_path}
use Rattle.yv_text_path.proofs.WordNames.{name_bytes}

abbrev is_slash : ℕ → Bool
is_slash b = b == 47

word_no_slash : (b : ℕ) → is_word_byte b ≡ true → is_slash b ≡ false
word_no_slash b h = grind (arith, nat_tests)

byte_before : (b : ℕ) (rest : List ℕ) → is_word_byte b ≡ true → slice_split is_slash (b ∷ rest) ≡ onto_first b (slice_split is_slash rest)
byte_before b rest h = ap (λ (t : Bool). cond t ([] ∷ slice_split is_slash rest) (onto_first b (slice_split is_slash rest))) (word_no_slash b h)

-- ### a path without predicates is plain

split_name : (w rest : List ℕ) → list_all is_word_byte w ≡ true → slice_split is_slash (w ++ 47 ∷ rest) ≡ w ∷ slice_split is_slash rest
split_name [] rest h = refl
split_name (b ∷ bs) rest h =
    let s = and_parts _ _ h in
    byte_before b (bs ++ 47 ∷ rest) s.0 ∙ ap (onto_first b) (split_name bs rest s.1)

split_last : (w : List ℕ) → list_all is_word_byte w ≡ true → slice_split is_slash w ≡ w ∷ []
split_last [] h = refl
split_last (b ∷ bs) h =
    let s = and_parts _ _ h in
    byte_before b bs s.0 ∙ ap (onto_first b) (split_last bs s.1)

descends_plain : {text bare : List ℕ} {ns : List (List ℕ)} → Descends text bare ns → is_descendant_path bare ≡ true
unfolding is_descendant_path
descends_plain (path.last {name} is ps same) = ap (list_all is_name) (split_last name (name_bytes name is)) ∙ and_from _ _ is refl
descends_plain (path.more name {predicates} {rest} {bare} is ps d same) = ap (list_all is_name) (split_name name bare (name_bytes name is)) ∙ and_from _ _ is (descends_plain d)

or_right : (a c : Bool) → c ≡ true → (a || c) ≡ true
or_right true c e = refl
or_right false c e = e

relative_plain : {text bare : List ℕ} {ns : List (List ℕ)} → IsRelativePath text bare ns → is_relative_path bare ≡ true
relative_plain (path.once {text} {bare} d) = or_left (is_descendant_path bare) (is_relative_path bare) (descends_plain d)
relative_plain (path.again {text} {bare} r) = or_right (is_descendant_path bare) (is_relative_path bare) (relative_plain r)

plain : {text bare : List ℕ} {ns : List (List ℕ)} → IsPath text bare ns → is_plain_path bare ≡ true
plain (path.absolute {text} {bare} d) = or_left (is_absolute_path (47 ∷ bare)) (is_relative_path (47 ∷ bare)) (descends_plain d)
plain (path.relative {text} {bare} r) = or_right (is_absolute_path bare) (is_relative_path bare) (relative_plain r)

-- ### a plain path is one without predicates

joined_descends : (p : List ℕ) (ps : List (List ℕ)) → list_all is_name (p ∷ ps) ≡ true → Descends (join_with_byte 47 (p ∷ ps)) (join_with_byte 47 (p ∷ ps)) []
joined_descends p [] h = path.last (and_parts _ _ h).0 made.none (sym (append-nil p))
joined_descends p (q ∷ ps) h = let s = and_parts _ _ h in path.more p s.0 made.none (joined_descends q ps s.1) refl

pieces_descend : (text : List ℕ) (ps : List (List ℕ)) → 0 < length ps → join_with_byte 47 ps ≡ text → list_all is_name ps ≡ true → Descends text text []
pieces_descend text [] long same h = absurd (omega arith)
pieces_descend text (p ∷ ps) long same h = let P : List ℕ → Type 0 = λ t. Descends t t [] in subst P same (joined_descends p ps h)

plain_descends : (text : List ℕ) → is_descendant_path text ≡ true → Descends text text []
unfolding is_descendant_path
plain_descends text h = pieces_descend text (slice_split is_slash text) (omega (arith, length-slice_split is_slash text)) (join_with_byte-slice_split 47 text) h

plain_relative : (text : List ℕ) → is_relative_path text ≡ true → IsRelativePath text text []
plain_relative [] h = absurd (false≢true h)
plain_relative (a ∷ []) h = absurd (false≢true h)
plain_relative (a ∷ b ∷ []) h = absurd (false≢true h)
plain_relative (a ∷ b ∷ c ∷ rest) h =
    let s = and_parts _ _ h in
    let t = and_parts _ _ s.0 in
    let u = and_parts _ _ t.1 in
    let front : 46 ∷ 46 ∷ 47 ∷ rest ≡ a ∷ b ∷ c ∷ rest =
    ap (λ n. n ∷ 46 ∷ 47 ∷ rest) (sym (eqb-true a 46 t.0)) ∙ ap (λ n. a ∷ n ∷ 47 ∷ rest) (sym (eqb-true b 46 u.0)) ∙ ap (λ n. a ∷ b ∷ n ∷ rest) (sym (eqb-true c 47 u.1)) in
    let P : List ℕ → Type 0 = λ t. IsRelativePath t t [] in
    let at : (is_descendant_path rest ≡ true) ⊎ (is_relative_path rest ≡ true) → IsRelativePath (46 ∷ 46 ∷ 47 ∷ rest) (46 ∷ 46 ∷ 47 ∷ rest) [] = λ o. elim o [
      | inl d ↦ path.once (plain_descends rest d)
      | inr r ↦ path.again (plain_relative rest r)
    ] in
    subst P front (at (or_cases (is_descendant_path rest) (is_relative_path rest) s.1))

plain_absolute : (text : List ℕ) → is_absolute_path text ≡ true → IsPath text text []
plain_absolute [] h = absurd (false≢true h)
plain_absolute (b ∷ bs) h =
    let s = and_parts _ _ h in
    let P : ℕ → Type 0 = λ n. IsPath (n ∷ bs) (n ∷ bs) [] in
    subst P (sym (eqb-true b 47 s.0)) (path.absolute (plain_descends bs s.1))

from_plain : (text : List ℕ) → (is_absolute_path text ≡ true) ⊎ (is_relative_path text ≡ true) → IsPath text text []
from_plain text (inl a) = plain_absolute text a
from_plain text (inr r) = path.relative (plain_relative text r)

-- a text is a path, and its own path without predicates, exactly if it is plain
pub plain_law : (text : List ℕ) → ((names : List (List ℕ)) × IsPath text text names) ↔ IsTrue (is_plain_path text)
plain_law text = (λ p. plain p.1, λ h. ([], from_plain text (or_cases (is_absolute_path text) (is_relative_path text) h)))
