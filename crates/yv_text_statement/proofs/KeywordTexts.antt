-- A statement has a keyword exactly where its text is the keyword's.
use Rattle.std.proofs.Common.{◌≡◌, ℕ, Bool, true, false, ◌&&◌, List, [], ◌∷◌, Option, Some, None, refl, sym, ◌∙◌, ap, subst, if◌then◌else◌, nat_eq, IfSome}
use Rattle.std.proofs.lemmas.Bool.{false≢true}
use Rattle.std.specs.List.{list_all, list_any}
use Rattle.std.specs.Str.{bytes_eq}
use Rattle.std.proofs.lemmas.Slice.Eq.{bytes_eq-Decides}
use denote.Enum.Bare.{same_true}
use Rattle.yv_text_statement.specs.Keywords.{names, keyword_in, keyword_of, name_in, spelling, same}
use Rattle.yv_text_statement.specs.contracts.keyword.Keyword.{the_type}
use Rattle.yv_text_statement.specs.declared.keyword.Keyword.{Keyword}
use Rattle.yv_text_statement.specs.declared.keyword.Keyword.TheVariants as word

abbrev says : Option (List ℕ) → List ℕ → Bool
says None text = false
says (Some w) text = bytes_eq w text

-- each name is the one that its keyword is written by, and has that keyword
each_written : list_all (λ n. says (spelling n.1) n.0) names ≡ true
each_written = refl

each_read : list_all (λ n. same (keyword_of n.0) n.1) names ≡ true
unfolding keyword_of
each_read = refl

both : (a b : Bool) → (a && b) ≡ true → (a ≡ true) × (b ≡ true)
both true b h = (refl, h)
both false b h = absurd (false≢true h)

-- a keyword that is found is written by the text that it was found for
text_of : (ns : List (List ℕ × Keyword)) (text : List ℕ) (k : Keyword) → list_all (λ n. says (spelling n.1) n.0) ns ≡ true → keyword_in ns text ≡ k → (w : List ℕ) → spelling k ≡ Some w → bytes_eq w text ≡ true
text_of [] text k all found w is = absurd (let bad : spelling word.Unknown ≡ Some w = ap spelling found ∙ is in cc)
text_of (n ∷ ns) text k all found w is = by (bytes_eq n.0 text) refl found (λ later. text_of ns text k parts.1 later w is)
  where
    parts : (says (spelling n.1) n.0 ≡ true) × (list_all (λ n. says (spelling n.1) n.0) ns ≡ true)
    parts = both (says (spelling n.1) n.0) (list_all (λ n. says (spelling n.1) n.0) ns) all

    by : (b : Bool) → bytes_eq n.0 text ≡ b → (if b then n.1 else keyword_in ns text) ≡ k → (keyword_in ns text ≡ k → bytes_eq w text ≡ true) → bytes_eq w text ≡ true
    by true e found later =
        let said : bytes_eq w n.0 ≡ true = subst (λ o. says o n.0 ≡ true) (ap spelling found ∙ is) parts.0 in
        subst (λ x. bytes_eq x text ≡ true) (sym ((bytes_eq-Decides w n.0).0 said)) e
    by false e found later = later found

-- the name of a keyword is read as it
name_is_read : (ns : List (List ℕ × Keyword)) (k : Keyword) (w : List ℕ) → list_all (λ n. same (keyword_of n.0) n.1) ns ≡ true → name_in ns k ≡ Some w → same (keyword_of w) k ≡ true
name_is_read [] k w all is = absurd (let bad : None ≡ Some w = is in cc)
name_is_read (n ∷ ns) k w all is = by (same n.1 k) refl is (λ later. name_is_read ns k w parts.1 later)
  where
    parts : (same (keyword_of n.0) n.1 ≡ true) × (list_all (λ n. same (keyword_of n.0) n.1) ns ≡ true)
    parts = both (same (keyword_of n.0) n.1) (list_all (λ n. same (keyword_of n.0) n.1) ns) all

    by : (b : Bool) → same n.1 k ≡ b → (if b then Some n.0 else name_in ns k) ≡ Some w → (name_in ns k ≡ Some w → same (keyword_of w) k ≡ true) → same (keyword_of w) k ≡ true
    by true e is later =
        let one : n.0 ≡ w = cc in
        subst (λ x. same (keyword_of x) k ≡ true) one (subst (λ j. same (keyword_of n.0) j ≡ true) (same_true the_type tt n.1 k e) parts.0)
    by false e is later = later is

-- a keyword that a text has, and that is written in some way, isn't an extension's
found_in : (text w : List ℕ) (k : Keyword) → spelling k ≡ Some w → keyword_of text ≡ k → keyword_in names text ≡ k
unfolding keyword_of
found_in text w k is of = by (list_any (λ b. nat_eq b 58) text) of
  where
    by : (b : Bool) → (if b then word.Extended else keyword_in names text) ≡ k → keyword_in names text ≡ k
    by true of = absurd (let bad : spelling word.Extended ≡ Some w = ap spelling of ∙ is in cc)
    by false of = of

-- whether a text has a keyword, by the keyword's text
pub is_by_text : (text w : List ℕ) (k : Keyword) → spelling k ≡ Some w → same (keyword_of text) k ≡ bytes_eq text w
is_by_text text w k is = by (same (keyword_of text) k) (bytes_eq text w) refl refl
  where
    by : (a b : Bool) → same (keyword_of text) k ≡ a → bytes_eq text w ≡ b → a ≡ b
    by true true e f = refl
    by false false e f = refl
    by true false e f =
        let found : keyword_in names text ≡ k = found_in text w k is (same_true the_type tt (keyword_of text) k e) in
        let said : bytes_eq w text ≡ true = text_of names text k each_written found w is in
        let one : text ≡ w = sym ((bytes_eq-Decides w text).0 said) in
        sym ((bytes_eq-Decides text w).1 one) ∙ f
    by false true e f =
        let one : text ≡ w = (bytes_eq-Decides text w).0 f in
        sym e ∙ subst (λ x. same (keyword_of x) k ≡ true) (sym one) (name_is_read names k w each_read is)

pub has_text : (text : List ℕ) (k : Keyword) → IfSome (spelling k) (λ w. same (keyword_of text) k ≡ bytes_eq text w)
has_text text k = by (spelling k) refl
  where
    by : (o : Option (List ℕ)) → spelling k ≡ o → IfSome o (λ w. same (keyword_of text) k ≡ bytes_eq text w)
    by None e = tt
    by (Some w) e = is_by_text text w k e
