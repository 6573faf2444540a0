-- The first statement of a keyword at each place.
use Rattle.std.proofs.Common.{◌≡◌, ℕ, ◌+◌, ◌==◌, ◌&&◌, Bool, true, false, cond, List, [], ◌∷◌, ◌++◌, take, Option, None, Some, refl, IfSome, sym, ◌∙◌, ap}
use Rattle.std.specs.List.{find, slice_get}
use Rattle.std.specs.Option.{option_map, option_or}
use Rattle.std.proofs.lemmas.List.Folds.{find-append}
use Rattle.yv_text_statement.specs.Keywords.{spelling}
use Rattle.yv_text_statement.specs.declared.keyword.Keyword.{Keyword}
use Rattle.yv_link_scopes.specs.Files.{has_word}
use Rattle.yv_link_scopes.specs.Rows.{Row}
use Rattle.yv_link_scopes.specs.InnerPlaces.{first_some}
use Rattle.yv_link_scopes.proofs.Firsts.{first_more}
use Rattle.yv_link_definitions.specs.References.{is_at, number_at}
use Rattle.yv_link_definitions.specs.InnerPlaces.{keep_first}
use Rattle.yv_link_definitions.specs.Lookups.{is_there, lookup_in}
use Rattle.yv_link_definitions.specs.declared.place.Place.{Place}

chosen : (old : Option Place) (b : Bool) (p : Place) → option_map (λ q. q.number) (option_or old (cond b (Some p) None)) ≡ first_some (option_map (λ q. q.number) old) (cond b (Some p.number) None)
chosen None true p = refl
chosen None false p = refl
chosen (Some q) true p = refl
chosen (Some q) false p = refl

-- a place behind others
pub kept : (ps : List Place) (p : Place) (f o : ℕ) → lookup_in (ps ++ p ∷ []) f o ≡ keep_first (lookup_in ps) p.file p.offset p.number f o
kept ps p f o = ap (option_map (λ q. q.number)) (find-append (is_there f o) ps (p ∷ [])) ∙ chosen (find (is_there f o) ps) (is_there f o p) p

-- one more statement of the keyword
pub places_more : (rows : List Row) (word : List ℕ) (i : ℕ) (r : Row) (old new : ℕ → ℕ → Option ℕ) → slice_get rows i ≡ Some r → has_word word r.head ≡ true → ((f o : ℕ) → old f o ≡ number_at (take i rows) word f o) → ((f o : ℕ) → new f o ≡ keep_first old r.file r.head.offset i f o) → (f o : ℕ) → new f o ≡ number_at (take (i + 1) rows) word f o
places_more rows word i r old new at is before now f o =
    now f o
    ∙ ap (λ b. first_some b (cond ((r.file == f) && (r.head.offset == o)) (Some i) None)) (before f o)
    ∙ ap (λ t. first_some (number_at (take i rows) word f o) (cond (t && ((r.file == f) && (r.head.offset == o))) (Some i) None)) (sym is)
    ∙ sym (first_more (is_at word f o) i rows r at)

first_none : (o : Option ℕ) → o ≡ first_some o None
first_none None = refl
first_none (Some k) = refl

-- one of another keyword
pub places_same : (rows : List Row) (word : List ℕ) (i : ℕ) (r : Row) (old : ℕ → ℕ → Option ℕ) → slice_get rows i ≡ Some r → has_word word r.head ≡ false → ((f o : ℕ) → old f o ≡ number_at (take i rows) word f o) → (f o : ℕ) → old f o ≡ number_at (take (i + 1) rows) word f o
places_same rows word i r old at is before f o =
    before f o
    ∙ first_none (number_at (take i rows) word f o)
    ∙ ap (λ t. first_some (number_at (take i rows) word f o) (cond (t && ((r.file == f) && (r.head.offset == o))) (Some i) None)) (sym is)
    ∙ sym (first_more (is_at word f o) i rows r at)

-- for the text of a keyword, where it has one
pub with_word : (k : Keyword) {P Q : List ℕ → Type 0} → IfSome (spelling k) P → ((word : List ℕ) → P word → Q word) → IfSome (spelling k) Q
with_word k {P} {Q} h f = by (spelling k) h
  where
    by : (o : Option (List ℕ)) → IfSome o P → IfSome o Q
    by None u = tt
    by (Some word) p = f word p
