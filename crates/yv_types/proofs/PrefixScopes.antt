-- Scopes, as prefixes are added.
use Rattle.std.proofs.Common.{◌≡◌, ℕ, ◌+◌, ◌≤◌, Bool, true, false, cond, List, [], ◌∷◌, ◌++◌, length, map, take, refl, sym, ◌∙◌, ap, subst, Option, Some, None}
use Rattle.std.specs.List.{filter, slice_get}
use Rattle.std.specs.Option.{option_map}
use Rattle.std.proofs.lemmas.List.{append-nil, map-append, take_all}
use Rattle.std.proofs.lemmas.List.Elements.{filter-append}
use Rattle.std.proofs.lemmas.Option.{slice_get-map}
use Rattle.yv_link_scopes.specs.Files.{Brief, Briefs}
use Rattle.yv_link_scopes.specs.Rows.{Row}
use Rattle.yv_link_scopes.proofs.Firsts.{take_next}
use Rattle.yv_values.specs.Scopes.{PrefixBinding, Place, place_of}
use Rattle.yv_values.specs.declared.scope.Scope.{Scope}
use Rattle.yv_types.specs.Scopes.{binding_at, is_prefix_in, place_in}
use Rattle.yv_types.specs.InnerScopes.{AreScopesOf, bare, bind, declare, place_with}

-- no prefix yet
pub scopes_bare : (files : Briefs) (rows : List Row) (scopes : List Scope) → map place_of scopes ≡ map bare files → AreScopesOf files rows [] scopes
scopes_bare files rows scopes e n = sym (slice_get-map place_of scopes n) ∙ ap (λ (ps : List Place). slice_get ps n) e ∙ slice_get-map bare files n

module _ (rows : List Row) (n : ℕ) (r : Row) where
  -- a place with more prefixes
  abbrev with : Place → List PrefixBinding → Place
  with place bs = record { module_name = place.module_name; bindings = place.bindings ++ bs }

  alone : (b : Bool) → is_prefix_in n r ≡ b → map (binding_at rows) (filter (is_prefix_in n) (r ∷ [])) ≡ cond b (binding_at rows r ∷ []) []
  alone true e = ap (λ c. map (binding_at rows) (cond c (r ∷ []) [])) e
  alone false e = ap (λ c. map (binding_at rows) (cond c (r ∷ []) [])) e

  declares : (b : Bool) (place : Place) → cond b (bind (binding_at rows r) place) place ≡ with place (cond b (binding_at rows r ∷ []) [])
  declares true place = refl
  declares false place = ap (λ (bs : List PrefixBinding). let p : Place = record { module_name = place.module_name; bindings = bs } in p) (sym (append-nil place.bindings))

  -- a place with what one statement more declares
  place_more : (rs : List Row) (f : Brief) → declare rows n r (place_with rows rs n f) ≡ place_with rows (rs ++ r ∷ []) n f
  place_more rs f =
      let place : Place = place_with rows rs n f in
      let more : map (binding_at rows) (filter (is_prefix_in n) (rs ++ r ∷ [])) ≡ place.bindings ++ map (binding_at rows) (filter (is_prefix_in n) (r ∷ [])) =
      ap (map (binding_at rows)) (filter-append (is_prefix_in n) rs (r ∷ [])) ∙ map-append (binding_at rows) (filter (is_prefix_in n) rs) (filter (is_prefix_in n) (r ∷ [])) in
      declares (is_prefix_in n r) place
      ∙ ap (with place) (sym (alone (is_prefix_in n r) refl))
      ∙ ap (λ (bs : List PrefixBinding). let p : Place = record { module_name = f.module_name; bindings = bs } in p) (sym more)

  places_more : (rs : List Row) (o : Option Brief) → option_map (declare rows n r) (option_map (place_with rows rs n) o) ≡ option_map (place_with rows (rs ++ r ∷ []) n) o
  places_more rs None = refl
  places_more rs (Some f) = ap Some (place_more rs f)

-- one statement more
pub scopes_more : (files : Briefs) (rows : List Row) (i : ℕ) (r : Row) (old new : List Scope) → slice_get rows i ≡ Some r → ((n : ℕ) → place_in new n ≡ option_map (declare rows n r) (place_in old n)) → AreScopesOf files rows (take i rows) old → AreScopesOf files rows (take (i + 1) rows) new
scopes_more files rows i r old new at step before n =
    step n
    ∙ ap (option_map (declare rows n r)) (before n)
    ∙ places_more rows n r (take i rows) (slice_get files n)
    ∙ ap (λ (rs : List Row). option_map (place_with rows rs n) (slice_get files n)) (sym (take_next rows i r at))

-- all statements
pub scopes_all : (files : Briefs) (rows : List Row) (i : ℕ) (scopes : List Scope) → length rows ≤ i → AreScopesOf files rows (take i rows) scopes → AreScopesOf files rows rows scopes
scopes_all files rows i scopes past all = subst (λ (rs : List Row). AreScopesOf files rows rs scopes) (take_all i rows past) all
