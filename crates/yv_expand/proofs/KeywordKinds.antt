-- What a statement counts, by what its keyword means.
use Rattle.std.proofs.Common.{◌≡◌, ℕ, Bool, true, false, ◌||◌, not, List, [], ◌∷◌, refl, sym, ◌∙◌, ap, if◌then◌else◌, nat_eq}
use Rattle.std.specs.List.{list_all, list_any}
use Rattle.std.specs.Str.{bytes_eq}
use Rattle.std.proofs.lemmas.Slice.Eq.{bytes_eq-Decides}
use Rattle.yv_text_statement.specs.declared.keyword.Keyword.{Keyword}
use Rattle.yv_text_statement.specs.declared.keyword.Keyword.TheVariants as word
use Rattle.yv_text_statement.specs.Keywords.{keyword_in, keyword_of, names}
use Rattle.yv_text_statement.specs.Words.{is_among}
use Rattle.yv_link_scopes.specs.Rows.{Row}
use Rattle.yv_expand_statements.specs.Units.{units_of, nodes, operations, keywords_passed}
use Rattle.yv_expand_statements.specs.StatementBlocks.{is_node_or_uses, is_operation}
use Rattle.yv_expand.specs.InnerKeywords.{is_item_keyword, is_node_keyword, is_operation_keyword, is_passed_keyword, units_by}
use Rattle.yv_expand.proofs.Words.{among_all, and_first, and_second, false_true}

-- a keyword that passes a test is that of one of these words, if that is so of each name
word_of : (P : Keyword → Bool) (words : List (List ℕ)) (ns : List (List ℕ × Keyword)) (text : List ℕ) → P word.Unknown ≡ false
    → list_all (λ n. not (P n.1) || is_among words n.0) ns ≡ true → P (keyword_in ns text) ≡ true → is_among words text ≡ true
word_of P words [] text unknown all is = absurd (false_true (sym unknown ∙ is))
word_of P words (n ∷ ns) text unknown all is =
    by (bytes_eq n.0 text) refl is (word_of P words ns text unknown (and_second (here) (list_all (λ m. not (P m.1) || is_among words m.0) ns) all))
  where
    here : Bool
    here = not (P n.1) || is_among words n.0

    among : (a b : Bool) → (not a || b) ≡ true → a ≡ true → b ≡ true
    among true b h e = h
    among false b h e = absurd (false_true e)

    by : (b : Bool) → bytes_eq n.0 text ≡ b → P (if b then n.1 else keyword_in ns text) ≡ true → (P (keyword_in ns text) ≡ true → is_among words text ≡ true) → is_among words text ≡ true
    by true e is others =
        ap (is_among words) (sym ((bytes_eq-Decides n.0 text).0 e)) ∙ among (P n.1) (is_among words n.0) (and_first here (list_all (λ m. not (P m.1) || is_among words m.0) ns) all) is
    by false e is others = others is

-- the texts among these words are those whose keyword passes a test, if that is so of each name
pub among_by_kind : (P : Keyword → Bool) (words : List (List ℕ)) (text : List ℕ) → list_all (λ w. P (keyword_of w)) words ≡ true
    → list_all (λ n. not (P n.1) || is_among words n.0) names ≡ true → P word.Extended ≡ false → P word.Unknown ≡ false
    → is_among words text ≡ P (keyword_of text)
unfolding keyword_of
among_by_kind P words text pass none extended unknown = by (is_among words text) (P (keyword_of text)) refl refl
  where
    found : (b : Bool) → P (if b then word.Extended else keyword_in names text) ≡ true → is_among words text ≡ true
    found true is = absurd (false_true (sym extended ∙ is))
    found false is = word_of P words names text unknown none is

    by : (a b : Bool) → is_among words text ≡ a → P (keyword_of text) ≡ b → a ≡ b
    by true true e f = refl
    by false false e f = refl
    by true false e f = sym (among_all (λ w. P (keyword_of w)) words text pass e) ∙ f
    by false true e f = sym e ∙ found (list_any (λ b. nat_eq b 58) text) f

node_words : (text : List ℕ) → is_among nodes text ≡ is_node_keyword (keyword_of text)
unfolding keyword_of
node_words text = among_by_kind is_node_keyword nodes text refl refl refl refl

operation_words : (text : List ℕ) → is_among operations text ≡ is_operation_keyword (keyword_of text)
unfolding keyword_of
operation_words text = among_by_kind is_operation_keyword operations text refl refl refl refl

passed_words : (text : List ℕ) → is_among keywords_passed text ≡ is_passed_keyword (keyword_of text)
unfolding keyword_of
passed_words text = among_by_kind is_passed_keyword keywords_passed text refl refl refl refl

pub units_by_kind : (text : List ℕ) → units_of text ≡ units_by (keyword_of text)
unfolding units_of
units_by_kind text = rw (node_words text, operation_words text, passed_words text) refl

pub operation_by_kind : (r : Row) → is_operation r ≡ is_operation_keyword (keyword_of r.head.keyword)
unfolding is_operation
operation_by_kind r = operation_words r.head.keyword

pub item_by_kind : (r : Row) → is_node_or_uses r ≡ is_item_keyword (keyword_of r.head.keyword)
unfolding is_node_or_uses
item_by_kind r = rw (node_words r.head.keyword, operation_words r.head.keyword) refl
