-- The keywords that have a prefix, and those of statements with names.
use Rattle.std.proofs.Common.{◌≡◌, ℕ, ◌+◌, ◌==◌, ◌||◌, ◌&&◌, ◌⊎◌, inl, inr, is_some, Bool, true, false, cond, List, [], ◌∷◌, take, Option, Some, None, refl, sym, ◌∙◌, ap}
use Rattle.std.proofs.lemmas.Bool.{false≢true}
use Rattle.std.specs.List.{list_all, list_any, position_from}
use Rattle.std.specs.Option.{option_map, unwrap_or}
use Rattle.std.specs.Str.{bytes_eq}
use Rattle.yv_text_statement.specs.Keywords.{keyword_of, spelling, same}
use Rattle.yv_text_statement.specs.declared.keyword.Keyword.{Keyword}
use Rattle.yv_text_statement.specs.declared.keyword.Keyword.TheVariants as word
use Rattle.yv_text_statement.specs.Tree.{Head}
use Rattle.yv_text_statement.proofs.KeywordTexts.{is_by_text}
use Rattle.yv_link_scopes.specs.Names.{prefix_of}
use Rattle.yv_link_scopes.specs.Rows.{is_extended}
use Rattle.yv_link_scopes.proofs.Keywords.{differs}
use Rattle.yv_link_modules.specs.Prefixes.{has_names}

none_from : (k : ℕ) (text : List ℕ) → is_extended text ≡ false → position_from (λ b. b == 58) k text ≡ None
none_from k [] h = refl
none_from k (x ∷ xs) h = by (x == 58) h (none_from (k + 1) xs)
  where
    by : (b : Bool) → (b || is_extended xs) ≡ false → (is_extended xs ≡ false → position_from (λ c. c == 58) (k + 1) xs ≡ None) → cond b (Some k) (position_from (λ c. c == 58) (k + 1) xs) ≡ None
    by true h more = absurd (false≢true (sym h))
    by false h more = more h

-- a text without a colon has no prefix
pub no_prefix : (text : List ℕ) → is_extended text ≡ false → prefix_of text ≡ None
no_prefix text h = ap (option_map (λ i. take i text)) (none_from 0 text h)

-- whether a keyword is one of these
abbrev pub is_one : List Keyword → Keyword → Bool
is_one ks found = list_any (λ k. same found k) ks

-- the texts of keywords
abbrev texts : List Keyword → List (List ℕ)
texts [] = []
texts (k ∷ ks) = unwrap_or (spelling k) [] ∷ texts ks

one_text : (text : List ℕ) (k : Keyword) → is_some (spelling k) ≡ true → same (keyword_of text) k ≡ bytes_eq text (unwrap_or (spelling k) [])
one_text text k some = by (spelling k) refl some
  where
    by : (o : Option (List ℕ)) → spelling k ≡ o → is_some o ≡ true → same (keyword_of text) k ≡ bytes_eq text (unwrap_or o [])
    by None e s = absurd (false≢true s)
    by (Some w) e s = is_by_text text w k e

both : (a b : Bool) → (a && b) ≡ true → (a ≡ true) × (b ≡ true)
both true b h = (refl, h)
both false b h = absurd (false≢true h)

-- a text is one of theirs exactly where its keyword is one of them
by_text : (text : List ℕ) (ks : List Keyword) → list_all (λ k. is_some (spelling k)) ks ≡ true → is_one ks (keyword_of text) ≡ list_any (λ word. bytes_eq text word) (texts ks)
by_text text [] all = refl
by_text text (k ∷ ks) all =
    let parts = both (is_some (spelling k)) (list_all (λ j. is_some (spelling j)) ks) all in
    ap (λ b. b || is_one ks (keyword_of text)) (one_text text k parts.0) ∙ ap (λ b. bytes_eq text (unwrap_or (spelling k) []) || b) (by_text text ks parts.1)

-- the statements with names, by their keywords
abbrev pub with_names : List Keyword
with_names =
    word.Type ∷ word.Uses ∷ word.Base ∷ word.IfFeature ∷ word.Augment ∷ word.Refine ∷ word.Key ∷ word.Unique ∷ word.Path ∷ []

pub names_by : (h : Head) (found : Keyword) → found ≡ keyword_of h.keyword → is_one with_names found ≡ has_names h
unfolding has_names
names_by h found e = ap (is_one with_names) e ∙ by_text h.keyword with_names refl

pub one_of_three : (ks : List Keyword) (a b c found : Keyword) → is_one ks a ≡ true → is_one ks b ≡ true → is_one ks c ≡ true → (found ≡ a) ⊎ ((found ≡ b) ⊎ (found ≡ c)) → true ≡ is_one ks found
one_of_three ks a b c found x y z (inl e) = sym (ap (is_one ks) e ∙ x)
one_of_three ks a b c found x y z (inr (inl e)) = sym (ap (is_one ks) e ∙ y)
one_of_three ks a b c found x y z (inr (inr e)) = sym (ap (is_one ks) e ∙ z)

abbrev pub IsNone : List Keyword → Keyword → Type 0
IsNone [] found = Unit {0}
IsNone (k ∷ ks) found = (found ≡ k → ⊥) × IsNone ks found

pub none_of : (ks : List Keyword) (found : Keyword) → IsNone ks found → is_one ks found ≡ false
none_of [] found unlike = refl
none_of (k ∷ ks) found unlike = ap (λ b. b || is_one ks found) (differs found k unlike.0) ∙ none_of ks found unlike.1
