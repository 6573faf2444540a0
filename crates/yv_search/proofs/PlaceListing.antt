-- Statements are listed one by one, each with whether it is inside a typedef or a grouping.
use Rattle.std.proofs.Common.{◌≡◌, ◌||◌, Bool, true, false, cond, List, [], ◌∷◌, ◌++◌, map, refl, sym, ◌∙◌, ap, append_assoc}
use Rattle.std.proofs.lemmas.List.{append-nil, map-append}
use Rattle.yv_text_statement.specs.Tree.{Head, Forest, Then, End}
use Rattle.yv_link_scopes.specs.Rows.{is_extended}
use Rattle.yv_search.specs.Statements.{Place, is_lendable, places_in}
use Rattle.yv_search.specs.InnerEdges.{place}
use Rattle.yv_search.specs.declared.statements.Place.{Place as PlaceValue}

inner_of : Bool → Head → Forest → List Place
inner_of lent h c = cond (is_extended h.keyword) [] (record { head = h; lent = lent } ∷ places_in (lent || is_lendable h.keyword) c)

-- a statement, and then the others
places_then : (lent : Bool) (h : Head) (c o : Forest) → places_in lent (Then h c o) ≡ places_in lent (Then h c End) ++ places_in lent o
unfolding inner_of
places_then lent h c o = ap (λ xs. xs ++ places_in lent o) (sym (append-nil (inner_of lent h c)))

-- what is left to list completes the whole
pub record Lists (lent : Bool) (old now : List Place) (whole rest : Forest) : Type 0 where
  pub completes : now ++ places_in lent rest ≡ old ++ places_in lent whole

pub lists_step : {lent : Bool} {old now next : List Place} {whole rest after : Forest} (h : Head) (c : Forest) → Lists lent old now whole rest → rest ≡ Then h c after → next ≡ now ++ places_in lent (Then h c End) → Lists lent old next whole after
lists_step {lent} {old} {now} {next} {whole} {rest} {after} h c l e n = record {
  completes =
      let one : List Place = places_in lent (Then h c End) in
      ap (λ xs. xs ++ places_in lent after) n
      ∙ append_assoc now one (places_in lent after)
      ∙ ap (λ xs. now ++ xs) (sym (places_then lent h c after))
      ∙ ap (λ f. now ++ places_in lent f) (sym e)
      ∙ l.completes;
}

pub lists_end : {lent : Bool} {old now : List Place} {whole rest : Forest} → Lists lent old now whole rest → rest ≡ End → now ≡ old ++ places_in lent whole
lists_end {lent} {old} {now} {whole} {rest} l e = sym (append-nil now) ∙ ap (λ f. now ++ places_in lent f) (sym e) ∙ l.completes

cond_at : {X : Type 0} (b : Bool) (v : Bool) (x y : X) → b ≡ v → cond b x y ≡ cond v x y
cond_at b v x y e = ap (λ t. cond t x y) e

-- a statement and its block
pub listed_whole : (lent : Bool) (h : Head) (c : Forest) (old mid new : List Place) → is_extended h.keyword ≡ false → mid ≡ old ++ record { head = h; lent = lent } ∷ [] → new ≡ mid ++ places_in (lent || is_lendable h.keyword) c → new ≡ old ++ places_in lent (Then h c End)
listed_whole lent h c old mid new plain m n =
    let one : Place = record { head = h; lent = lent } in
    let inner : List Place = places_in (lent || is_lendable h.keyword) c in
    n
    ∙ ap (λ xs. xs ++ inner) m
    ∙ append_assoc old (one ∷ []) inner
    ∙ ap (λ xs. old ++ xs) (sym (append-nil (one ∷ inner)) ∙ ap (λ xs. xs ++ []) (sym (cond_at (is_extended h.keyword) false [] (one ∷ inner) plain)))

-- an extension's statement
pub listed_bare : (lent : Bool) (h : Head) (c : Forest) (old : List Place) → is_extended h.keyword ≡ true → old ≡ old ++ places_in lent (Then h c End)
listed_bare lent h c old bare =
    sym (append-nil old)
    ∙ ap (λ xs. old ++ (xs ++ [])) (sym (cond_at (is_extended h.keyword) true [] (record { head = h; lent = lent } ∷ places_in (lent || is_lendable h.keyword) c) bare))

-- one more statement of the code
pub pushed_place : (old new : List PlaceValue) (p : PlaceValue) → new ≡ old ++ p ∷ [] → map place new ≡ map place old ++ place p ∷ []
pushed_place old new p h = ap (map place) h ∙ map-append place old (p ∷ [])
