-- A way as the walk keeps it, as its names and numbers spell it.
use Rattle.std.proofs.Common.{◌≡◌, ◌==◌, ℕ, List, [], ◌∷◌, ◌++◌, length, Bool, false, Option, Some, None, refl, ap, ◌∙◌}
use Rattle.std.proofs.Math.Dec.{eqb-suc-zero}
use Rattle.yv_nodes.specs.Rows.{Rows, row_at}
use Rattle.yv_data_leafrefs.specs.Place.{Place, step_name, under}
use Rattle.yv_data_faults.specs.InnerPath.{first_if, is_entry, Name, rest_if, places_of, trail_names, trail_numbers}
use Rattle.yv_data_faults.specs.Trails.{places}
use Rattle.yv_data_faults.specs.declared.trail.Trail.{Trail, Root, Below'}

-- in the entries on it, by the innermost of which it ends where it ends in one
pub outer_spelled : (s : Rows) (t : Trail) → places_of (trail_names s t) (rest_if (is_entry t) (trail_numbers t)) (first_if (is_entry t) (trail_numbers t)) ≡ places s t
outer_spelled s Root = refl
outer_spelled s (Below' p t id None) = ap (λ (ps : List Place). ps ++ record { member = step_name (row_at s id).label; item = None } ∷ []) (outer_spelled s t)
outer_spelled s (Below' p t id (Some n)) = ap (λ (ps : List Place). ps ++ record { member = step_name (row_at s id).label; item = Some n } ∷ []) (outer_spelled s t)

-- with a step more, by names and numbers that are the way's
pub more_spelled : (s : Rows) (t : Trail) (member : List ℕ) (item : Option ℕ) (names : List Name) (ns : List ℕ)
    → names ≡ record { member = member; is_in_entry = is_entry t } ∷ trail_names s t → ns ≡ trail_numbers t
    → places_of names ns item ≡ places s t ++ record { member = member; item = item } ∷ []
more_spelled s t member item names ns e f =
    ap (λ (ms : List Name). places_of ms ns item) e
    ∙ ap (λ (ms : List ℕ). places_of (record { member = member; is_in_entry = is_entry t } ∷ trail_names s t) ms item) f
    ∙ ap (λ (ps : List Place). ps ++ record { member = member; item = item } ∷ []) (outer_spelled s t)

-- the names of a way with a step more
pub names_more : (s : Rows) (t : Trail) (member m : List ℕ) (b : Bool) (before names : List Name) → names ≡ record { member = m; is_in_entry = b } ∷ before
    → m ≡ member → b ≡ is_entry t → before ≡ trail_names s t → names ≡ record { member = member; is_in_entry = is_entry t } ∷ trail_names s t
names_more s t member m b before names e f g h =
    e
    ∙ ap (λ (x : List ℕ). record { member = x; is_in_entry = b } ∷ before) f
    ∙ ap (λ (x : Bool). record { member = member; is_in_entry = x } ∷ before) g
    ∙ ap (λ (ns : List Name). record { member = member; is_in_entry = is_entry t } ∷ ns) h

-- a step behind others: there are some
pub some_spelled : (ps : List Place) (p : Place) → (length (ps ++ p ∷ []) == 0) ≡ false
some_spelled [] p = refl
some_spelled (q ∷ ps) p = eqb-suc-zero (length (ps ++ p ∷ []))
