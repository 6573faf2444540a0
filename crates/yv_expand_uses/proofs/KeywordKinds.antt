-- What a statement gives, by what its keyword means.
use Rattle.std.proofs.Common.{◌≡◌, ◌⊎◌, inl, inr, ℕ, Bool, true, false, List, [], ◌∷◌, map, Option, None, Some, refl, sym, ◌∙◌, ap, if◌then◌else◌, nat_eq}
use Rattle.std.specs.List.{list_any}
use Rattle.std.specs.Str.{bytes_eq}
use Rattle.std.proofs.lemmas.Slice.Eq.{bytes_eq-Decides}
use Rattle.yv_text_statement.specs.declared.keyword.Keyword.{Keyword}
use Rattle.yv_text_statement.specs.declared.keyword.Keyword.TheVariants as word
use Rattle.yv_text_statement.specs.Keywords.{keyword_in, keyword_of, names}
use Rattle.yv_expand_statements.specs.declared.statement_kind.StatementKind.{StatementKind}
use Rattle.yv_expand_statements.specs.Kinds.{kind_in, kind_of_keyword, kinds}
use Rattle.yv_expand_uses.specs.InnerKinds.{kind_by}

-- what the table gives a text is what its keyword gives, if that is so of each word of the table
kind_found : (ks : List (List ℕ × StatementKind)) (text : List ℕ) (x : StatementKind) → map (λ k. kind_by (keyword_of k.0)) ks ≡ map (λ k. Some k.1) ks
    → kind_in ks text ≡ Some x → kind_by (keyword_of text) ≡ Some x
kind_found [] text x each is = absurd (let bad : None ≡ Some x = is in cc)
kind_found (k ∷ ks) text x each is = by (bytes_eq k.0 text) refl is (kind_found ks text x (let rest : map (λ j. kind_by (keyword_of j.0)) ks ≡ map (λ j. Some j.1) ks = cc in rest))
  where
    by : (b : Bool) → bytes_eq k.0 text ≡ b → (if b then Some k.1 else kind_in ks text) ≡ Some x → (kind_in ks text ≡ Some x → kind_by (keyword_of text) ≡ Some x) → kind_by (keyword_of text) ≡ Some x
    by true e is others =
        let first : kind_by (keyword_of k.0) ≡ Some k.1 = cc in
        ap (λ w. kind_by (keyword_of w)) (sym ((bytes_eq-Decides k.0 text).0 e)) ∙ first ∙ is
    by false e is others = others is

-- a keyword is unknown, or gives what the table gives its text, if that is so of each name
name_found : (ns : List (List ℕ × Keyword)) (text : List ℕ) → map (λ n. kind_of_keyword n.0) ns ≡ map (λ n. kind_by n.1) ns
    → (keyword_in ns text ≡ word.Unknown) ⊎ (kind_of_keyword text ≡ kind_by (keyword_in ns text))
name_found [] text each = inl refl
name_found (n ∷ ns) text each = by (bytes_eq n.0 text) refl (name_found ns text (let rest : map (λ m. kind_of_keyword m.0) ns ≡ map (λ m. kind_by m.1) ns = cc in rest))
  where
    by : (b : Bool) → bytes_eq n.0 text ≡ b → (keyword_in ns text ≡ word.Unknown) ⊎ (kind_of_keyword text ≡ kind_by (keyword_in ns text))
        → ((if b then n.1 else keyword_in ns text) ≡ word.Unknown) ⊎ (kind_of_keyword text ≡ kind_by (if b then n.1 else keyword_in ns text))
    by true e others =
        let first : kind_of_keyword n.0 ≡ kind_by n.1 = cc in
        inr (ap kind_of_keyword (sym ((bytes_eq-Decides n.0 text).0 e)) ∙ first)
    by false e others = others

names_agree : map (λ n. kind_of_keyword n.0) names ≡ map (λ n. kind_by n.1) names
unfolding kind_of_keyword
names_agree = refl

kinds_agree : map (λ k. kind_by (keyword_of k.0)) kinds ≡ map (λ k. Some k.1) kinds
unfolding keyword_of
kinds_agree = refl

found_kind : (text : List ℕ) (x : StatementKind) → kind_of_keyword text ≡ Some x → kind_by (keyword_of text) ≡ Some x
unfolding kind_of_keyword
found_kind text x is = kind_found kinds text x kinds_agree is

pub kind_by_keyword : (text : List ℕ) → kind_of_keyword text ≡ kind_by (keyword_of text)
unfolding keyword_of
kind_by_keyword text = by (kind_of_keyword text) refl
  where
    none : (b : Bool) → kind_of_keyword text ≡ None → kind_by (if b then word.Extended else keyword_in names text) ≡ None
    none true e = refl
    none false e = elim (name_found names text names_agree) [ inl u ↦ ap kind_by u | inr same ↦ sym same ∙ e ]

    by : (o : Option StatementKind) → kind_of_keyword text ≡ o → kind_of_keyword text ≡ kind_by (keyword_of text)
    by None e = e ∙ sym (none (list_any (λ b. nat_eq b 58) text) e)
    by (Some x) e = e ∙ sym (found_kind text x e)
