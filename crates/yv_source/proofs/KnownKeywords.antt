-- The names of YANG's statements are keywords.
use Rattle.std.proofs.Common.{◌≡◌, ◌==◌, ℕ, Bool, true, false, ◌&&◌, ◌||◌, List, [], ◌∷◌, refl, sym, ap, subst, if◌then◌else◌}
use Rattle.std.proofs.lemmas.Bool.{false≢true}
use Rattle.std.specs.List.{list_all, list_any}
use Rattle.std.specs.Str.{bytes_eq}
use Rattle.std.proofs.lemmas.Slice.Eq.{bytes_eq-Decides}
use Rattle.yv_text_statement.specs.Keywords.{names, keyword_in, keyword_of, same}
use Rattle.yv_text_statement.specs.declared.keyword.Keyword.{Keyword}
use Rattle.yv_text_statement.specs.declared.keyword.Keyword.TheVariants as word
use Rattle.yv_text_if_feature.specs.Names.{is_identifier}
use Rattle.yv_source.specs.Pieces.{until, begins}
use Rattle.yv_source.specs.Inner.Machine.{is_keyword, behind_colon}
use Rattle.yv_source.proofs.Keyword.{and_first, and_second}

each_is_identifier : list_all (λ n. is_identifier n.0) names ≡ true
each_is_identifier = refl

-- a text that is found among names is one
found_is : (ns : List (List ℕ × Keyword)) (text : List ℕ) → list_all (λ n. is_identifier n.0) ns ≡ true → same (keyword_in ns text) word.Unknown ≡ false → is_identifier text ≡ true
found_is [] text all known = absurd (false≢true (sym known))
found_is (n ∷ ns) text all known = by (bytes_eq n.0 text) refl known (λ later. found_is ns text (and_second (is_identifier n.0) (list_all (λ m. is_identifier m.0) ns) all) later)
  where
    by : (b : Bool) → bytes_eq n.0 text ≡ b → same (if b then n.1 else keyword_in ns text) word.Unknown ≡ false → (same (keyword_in ns text) word.Unknown ≡ false → is_identifier text ≡ true) → is_identifier text ≡ true
    by true e h later = subst (λ x. is_identifier x ≡ true) ((bytes_eq-Decides n.0 text).0 e) (and_first (is_identifier n.0) (list_all (λ m. is_identifier m.0) ns) all)
    by false e h later = later h

pub known_is_keyword : (text : List ℕ) → same (keyword_of text) word.Unknown ≡ false → same (keyword_of text) word.Extended ≡ false → is_keyword text ≡ true
unfolding keyword_of
known_is_keyword text known plain = by (list_any (λ b. b == 58) text) known plain
  where
    by : (b : Bool) → same (if b then word.Extended else keyword_in names text) word.Unknown ≡ false → same (if b then word.Extended else keyword_in names text) word.Extended ≡ false → is_keyword text ≡ true
    by true h i = absurd (false≢true (sym i))
    by false h i = ap (λ v. v || (is_identifier (until (begins 58) text) && is_identifier (behind_colon text))) (found_is names text each_is_identifier h)
