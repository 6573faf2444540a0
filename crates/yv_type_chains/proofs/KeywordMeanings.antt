-- Substatements by what their keywords mean.
use Rattle.std.proofs.Common.{◌≡◌, ℕ, Bool, true, false, ◌&&◌, ◌||◌, List, [], ◌∷◌, map, Some, refl, sym, ◌∙◌, subst, codes}
use Rattle.std.specs.List.{AllByRecursion}
use Rattle.std.specs.Str.{bytes_eq}
use Rattle.std.proofs.lemmas.Bool.{false≢true}
use Rattle.std.proofs.lemmas.Slice.Eq.{bytes_eq-Decides}
use Rattle.yv_text_statement.specs.Keywords.{keyword_of, same, spelling}
use Rattle.yv_text_statement.specs.Words.{is_among}
use Rattle.yv_text_statement.specs.declared.keyword.Keyword.{Keyword}
use Rattle.yv_text_statement.specs.declared.keyword.Keyword.TheVariants as word
use Rattle.yv_text_statement.proofs.KeywordTexts.{is_by_text}
use Rattle.yv_type_chains.specs.Kinds.{has_pair, of_built_in, restrictions, substatements_needed, substatements_taken}
use Rattle.yv_type_chains.specs.InnerPairs.{is_one_of, is_paired, may_be_needed}

turned : (a b : List ℕ) → bytes_eq a b ≡ bytes_eq b a
turned a b = by (bytes_eq a b) (bytes_eq b a) refl refl
  where
    by : (x y : Bool) → bytes_eq a b ≡ x → bytes_eq b a ≡ y → x ≡ y
    by true true e f = refl
    by false false e f = refl
    by true false e f = sym ((bytes_eq-Decides b a).1 (sym ((bytes_eq-Decides a b).0 e))) ∙ f
    by false true e f = sym e ∙ (bytes_eq-Decides a b).1 (sym ((bytes_eq-Decides b a).0 f))

word_is : (text w : List ℕ) (k : Keyword) → spelling k ≡ Some w → bytes_eq w text ≡ same (keyword_of text) k
word_is text w k is = turned w text ∙ sym (is_by_text text w k is)

-- a text is among words where its keyword is among theirs
among_by : (words : List (List ℕ)) (ks : List Keyword) (text : List ℕ) → map spelling ks ≡ map Some words → is_among words text ≡ is_one_of ks (keyword_of text)
among_by [] [] text e = refl
among_by [] (k ∷ ks) text e = cc
among_by (w ∷ ws) [] text e = cc
among_by (w ∷ ws) (k ∷ ks) text e =
    let one : spelling k ≡ Some w = cc in
    let rest : map spelling ks ≡ map Some ws = cc in
    rw (word_is text w k one, among_by ws ks text rest) refl

swapped : (a b : Bool) → (a && b) ≡ (b && a)
swapped true true = refl
swapped true false = refl
swapped false true = refl
swapped false false = refl

-- and it is in a pair with a type
paired_by : (words : List (List ℕ × List ℕ)) (ps : List (List ℕ × Keyword)) (kind text : List ℕ)
    → map (λ p. p.0) ps ≡ map (λ p. p.0) words → map (λ p. spelling p.1) ps ≡ map (λ p. Some p.1) words → has_pair words kind text ≡ is_paired ps kind (keyword_of text)
paired_by [] [] kind text d e = refl
paired_by [] (p ∷ ps) kind text d e = cc
paired_by (w ∷ ws) [] kind text d e = cc
paired_by (w ∷ ws) (p ∷ ps) kind text d e =
    let type : p.0 ≡ w.0 = cc in
    let types : map (λ q. q.0) ps ≡ map (λ q. q.0) ws = cc in
    let one : spelling p.1 ≡ Some w.1 = cc in
    let rest : map (λ q. spelling q.1) ps ≡ map (λ q. Some q.1) ws = cc in
    rw (swapped (bytes_eq w.0 kind) (bytes_eq w.1 text), word_is text w.1 p.1 one, ← type, paired_by ws ps kind text types rest) refl

-- a keyword that isn't needed is in no pair
unpaired : (words : List (List ℕ × List ℕ)) (kind text : List ℕ) → AllByRecursion (λ (p : List ℕ × List ℕ). may_be_needed (keyword_of p.1) ≡ true) words → may_be_needed (keyword_of text) ≡ false → has_pair words kind text ≡ false
unpaired [] kind text all none = refl
unpaired (w ∷ ws) kind text all none = by (bytes_eq w.0 kind) (bytes_eq w.1 text) refl (unpaired ws kind text all.1 none)
  where
    by : (a b : Bool) → bytes_eq w.1 text ≡ b → has_pair ws kind text ≡ false → ((a && b) || has_pair ws kind text) ≡ false
    by true true e rest = absurd (false≢true (sym none ∙ subst (λ x. may_be_needed (keyword_of x) ≡ true) ((bytes_eq-Decides w.1 text).0 e) all.0))
    by true false e rest = rest
    by false b e rest = rest

all_may : AllByRecursion (λ (p : List ℕ × List ℕ). may_be_needed (keyword_of p.1) ≡ true) substatements_needed
unfolding keyword_of
all_may = (refl, (refl, (refl, (refl, (refl, (refl, tt))))))

pub needs_none : (kind text : List ℕ) → may_be_needed (keyword_of text) ≡ false → has_pair substatements_needed kind text ≡ false
needs_none kind text none = unpaired substatements_needed kind text all_may none

-- the keywords of restrictions
abbrev pub restricting : List Keyword
restricting =
    word.Range ∷ word.FractionDigits ∷ word.Length ∷ word.Pattern ∷ word.Enum ∷ word.Bit ∷ word.Base ∷ word.Path ∷ word.RequireInstance ∷ word.Type ∷ []

pub restricts_by : (text : List ℕ) → is_among restrictions text ≡ is_one_of restricting (keyword_of text)
restricts_by text = among_by restrictions restricting text refl

-- those of which only built-in types take some
abbrev pub of_built_in_only : List Keyword
of_built_in_only = word.FractionDigits ∷ word.Path ∷ word.Base ∷ word.Type ∷ []

pub of_built_in_by : (text : List ℕ) → is_among of_built_in text ≡ is_one_of of_built_in_only (keyword_of text)
of_built_in_by text = among_by of_built_in of_built_in_only text refl

abbrev pub taken : List (List ℕ × Keyword)
taken =
    (codes "int8", word.Range) ∷
    (codes "int16", word.Range) ∷
    (codes "int32", word.Range) ∷
    (codes "int64", word.Range) ∷
    (codes "uint8", word.Range) ∷
    (codes "uint16", word.Range) ∷
    (codes "uint32", word.Range) ∷
    (codes "uint64", word.Range) ∷
    (codes "decimal64", word.Range) ∷
    (codes "decimal64", word.FractionDigits) ∷
    (codes "string", word.Length) ∷
    (codes "string", word.Pattern) ∷
    (codes "binary", word.Length) ∷
    (codes "enumeration", word.Enum) ∷
    (codes "bits", word.Bit) ∷
    (codes "identityref", word.Base) ∷
    (codes "leafref", word.Path) ∷
    (codes "leafref", word.RequireInstance) ∷
    (codes "union", word.Type) ∷
    (codes "instance-identifier", word.RequireInstance) ∷ []

pub taken_by : (kind text : List ℕ) → has_pair substatements_taken kind text ≡ is_paired taken kind (keyword_of text)
taken_by kind text = paired_by substatements_taken taken kind text refl refl

abbrev pub needed : List (List ℕ × Keyword)
needed =
    (codes "decimal64", word.FractionDigits) ∷
    (codes "enumeration", word.Enum) ∷
    (codes "bits", word.Bit) ∷
    (codes "identityref", word.Base) ∷
    (codes "leafref", word.Path) ∷
    (codes "union", word.Type) ∷ []

pub needed_by : (kind text : List ℕ) → has_pair substatements_needed kind text ≡ is_paired needed kind (keyword_of text)
needed_by kind text = paired_by substatements_needed needed kind text refl refl
