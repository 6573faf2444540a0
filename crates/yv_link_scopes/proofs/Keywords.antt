-- The keywords of statements, by their texts.
use Rattle.std.proofs.Common.{◌≡◌, ℕ, ◌+◌, ◌&&◌, not, Bool, true, false, List, [], ◌∷◌, take, Some, Result, Ok, Err, OnOk, refl, sym, ◌∙◌, ap, if◌then◌else◌}
use Rattle.std.proofs.lemmas.Bool.{false≢true}
use Rattle.std.specs.List.{list_all, slice_get}
use Rattle.std.specs.Str.{bytes_eq}
use denote.Enum.Bare.{same_true}
use Rattle.yv_text_statement.specs.Keywords.{names, keyword_in, keyword_of, spelling, same}
use Rattle.yv_text_statement.specs.contracts.keyword.Keyword.{the_type}
use Rattle.yv_text_statement.specs.declared.keyword.Keyword.{Keyword}
use Rattle.yv_text_statement.specs.declared.keyword.Keyword.TheVariants as word
use Rattle.yv_text_statement.proofs.KeywordTexts.{is_by_text}
use Rattle.yv_link_scopes.specs.Rows.{Row, is_extended}
use Rattle.yv_link_scopes.specs.Tables.{table_of, word_of}
use Rattle.yv_link_scopes.specs.InnerPlaces.{AreFirst}
use Rattle.yv_link_scopes.specs.declared.kind.NameKind.{NameKind}
use Rattle.yv_link_scopes.specs.declared.places.NamePlaces.{NamePlaces}
use Rattle.yv_link_scopes.proofs.Firsts.{table_same}

both : (a b : Bool) → (a && b) ≡ true → (a ≡ true) × (b ≡ true)
both true b h = (refl, h)
both false b h = absurd (false≢true h)

not_so : (b : Bool) → not b ≡ true → b ≡ false
not_so true h = absurd (false≢true h)
not_so false h = refl

-- no name is that of extensions
no_name : (ns : List (List ℕ × Keyword)) (text : List ℕ) → list_all (λ n. not (same n.1 word.Extended)) ns ≡ true → same (keyword_in ns text) word.Extended ≡ false
no_name [] text all = refl
no_name (n ∷ ns) text all = by (bytes_eq n.0 text) (no_name ns text parts.1)
  where
    parts : (not (same n.1 word.Extended) ≡ true) × (list_all (λ m. not (same m.1 word.Extended)) ns ≡ true)
    parts = both (not (same n.1 word.Extended)) (list_all (λ m. not (same m.1 word.Extended)) ns) all

    by : (b : Bool) → same (keyword_in ns text) word.Extended ≡ false → same (if b then n.1 else keyword_in ns text) word.Extended ≡ false
    by true later = not_so (same n.1 word.Extended) parts.0
    by false later = later

-- a keyword is an extension's exactly where it has a colon
pub extended_by_colon : (text : List ℕ) → same (keyword_of text) word.Extended ≡ is_extended text
unfolding keyword_of
extended_by_colon text = by (is_extended text)
  where
    by : (b : Bool) → same (if b then word.Extended else keyword_in names text) word.Extended ≡ b
    by true = refl
    by false = no_name names text refl

pub differs : (a b : Keyword) → (a ≡ b → ⊥) → same a b ≡ false
differs a b unlike = by (same a b) refl
  where
    by : (s : Bool) → same a b ≡ s → s ≡ false
    by true e = absurd (unlike (same_true the_type tt a b e))
    by false e = refl

-- a statement with another keyword gives no name of the kind
pub other_word : (kind : NameKind) (k found : Keyword) (rows : List Row) (i : ℕ) (r : Row) (places : NamePlaces) → spelling k ≡ Some (word_of kind) → found ≡ keyword_of r.head.keyword → same found k ≡ false → slice_get rows i ≡ Some r → AreFirst kind (take i rows) places → AreFirst kind (take (i + 1) rows) places
other_word kind k found rows i r places is e other at before = table_same kind rows i r (table_of places) at (sym (is_by_text r.head.keyword (word_of kind) k is) ∙ ap (λ x. same x k) (sym e) ∙ other) before

pub on_ok : {A E : Type 0} {P Q : Type 0} (r : Result A E) → OnOk r P → (P → Q) → OnOk r Q
on_ok (Ok a) h f = f h
on_ok (Err e) h f = tt
