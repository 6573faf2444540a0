-- Which paths lead to nodes, and where they stand among these.
use Rattle.std.proofs.Common.{◌≡◌, ℕ, ◌+◌, ◌==◌, zero, suc, Bool, true, false, cond, List, [], ◌∷◌, ◌++◌, length, map, filter, take, drop, get_or, Option, Some, None, refl, sym, ◌∙◌, ap, arith, eqb-true, eq-eqb}
use Rattle.std.specs.List.{slice_get}
use Rattle.std.specs.Option.{is_some, option_and_then, option_map}
use Rattle.std.proofs.lemmas.List.{drop_more, length-map, map-append, take_more}
use Rattle.std.proofs.lemmas.List.Elements.{filter-append}
use Rattle.std.proofs.lemmas.Option.{same_Some, slice_get-map, slice_get_within, get_or_from_slice_get}
use Rattle.yv_expand_rounds.specs.declared.arrivals.Arrival.{Arrival}
use Rattle.yv_expand_rounds.specs.declared.end.End.{End}
use Rattle.yv_expand_rounds.specs.declared.end.End.TheVariants.{Start}
use Rattle.yv_expand_rounds.specs.declared.label.Label.{Label}
use Rattle.yv_expand_rounds.specs.Arrivals.{AreArrivals, Arrives}
use Rattle.yv_expand_rounds.specs.Paths.{path_end}
use Rattle.yv_expand_rounds.specs.Turns.{State}
use Rattle.yv_expand_uses.specs.InnerLeadingPaths.{IsLed, first_from, is_led, paths_of, targets_of}
use Rattle.yv_expand_uses.specs.InnerPaths.{target_of_path}
use Rattle.yv_expand_uses.specs.declared.leading_paths.LeadingPaths.{LeadingPaths}
use Rattle.yv_expand_uses.specs.RefineTargets.{node_at}

-- one arrival more
pub taken_more : {B : Type 0} (f : Arrival → B) (arrivals : List Arrival) (i : ℕ) (a : Arrival) (old new : List B) → slice_get arrivals i ≡ Some a → new ≡ old ++ map f (filter is_led (a ∷ []))
    → old ≡ map f (filter is_led (take i arrivals)) → new ≡ map f (filter is_led (take (i + 1) arrivals))
taken_more f arrivals i a old new at now before =
    now ∙ ap (λ l. l ++ map f (filter is_led (a ∷ []))) before
    ∙ sym (map-append f (filter is_led (take i arrivals)) (filter is_led (a ∷ [])))
    ∙ ap (map f) (sym (filter-append is_led (take i arrivals) (a ∷ [])))
    ∙ ap (λ l. map f (filter is_led l)) (sym (take_more arrivals i a (slice_get_within arrivals i a at) ∙ ap (λ z. take i arrivals ++ z ∷ []) (get_or_from_slice_get arrivals i a a at)))

-- one path more, before the others
pub first_more : (paths : List ℕ) (k p : ℕ) (old new : ℕ → Option ℕ) → slice_get paths k ≡ Some p → ((path : ℕ) → old path ≡ first_from (k + 1) (drop (k + 1) paths) path)
    → ((path : ℕ) → new path ≡ cond (p == path) (Some k) (old path)) → (path : ℕ) → new path ≡ first_from k (drop k paths) path
first_more paths k p old new at before now path =
    now path
    ∙ ap (λ o. cond (p == path) (Some k) o) (before path)
    ∙ ap (λ l. first_from k l path) (sym (drop_more paths k p (slice_get_within paths k p at) ∙ ap (λ x. x ∷ drop (k + 1) paths) (get_or_from_slice_get paths k p p at)))

-- a path stands at its first place
pub first_stands : (n : ℕ) (ps : List ℕ) (path place : ℕ) → first_from n ps path ≡ Some place → (k : ℕ) × (place ≡ n + k) × (slice_get ps k ≡ Some path)
first_stands n [] path place e = absurd (let bad : None ≡ Some place = e in cc)
first_stands n (p ∷ ps) path place e = by (first_stands (n + 1) ps path place) (p == path) refl e
  where
    by : (first_from (n + 1) ps path ≡ Some place → (k : ℕ) × (place ≡ n + 1 + k) × (slice_get ps k ≡ Some path)) → (b : Bool) → (p == path) ≡ b → cond b (Some n) (first_from (n + 1) ps path) ≡ Some place → (k : ℕ) × (place ≡ n + k) × (slice_get (p ∷ ps) k ≡ Some path)
    by next true m h = (let same = same_Some n place h in (0, omega (arith, same), ap (λ x. Some x) (eqb-true p path m)))
    by next false m h = (let later = next h in (suc later.0, omega (arith, later.1), later.2))

-- where a path stands, it has a first place
pub first_there : (n : ℕ) (ps : List ℕ) (k path : ℕ) → slice_get ps k ≡ Some path → first_from n ps path ≡ None → ⊥
first_there n [] k path at e = (let bad : None ≡ Some path = at in cc)
first_there n (p ∷ ps) zero path at e =
    (let m : (p == path) ≡ true = eq-eqb p path (same_Some p path at) in
    let bad : Some n ≡ None = sym (ap (λ b. cond b (Some n) (first_from (n + 1) ps path)) m) ∙ e in cc)
first_there n (p ∷ ps) (suc k) path at e = by (first_there (n + 1) ps k path at) (p == path) e
  where
    by : (first_from (n + 1) ps path ≡ None → ⊥) → (b : Bool) → cond b (Some n) (first_from (n + 1) ps path) ≡ None → ⊥
    by next true h = (let bad : Some n ≡ None = h in cc)
    by next false h = next h

-- what is among those that pass, and what passes is
filter_from : {A : Type 0} (passes : A → Bool) (xs : List A) (k : ℕ) (x : A) → slice_get (filter passes xs) k ≡ Some x → (j : ℕ) × (slice_get xs j ≡ Some x)
filter_from passes [] k x at = absurd (let bad : None ≡ Some x = at in cc)
filter_from {A = A} passes (y ∷ ys) k x at = by (passes y) k at (filter_from passes ys)
  where
    later : (j : ℕ) × (slice_get ys j ≡ Some x) → (j : ℕ) × (slice_get (y ∷ ys) j ≡ Some x)
    later found = (suc found.0, found.1)

    by : (b : Bool) (k : ℕ) → slice_get (cond b (y ∷ filter passes ys) (filter passes ys)) k ≡ Some x → ((n : ℕ) (z : A) → slice_get (filter passes ys) n ≡ Some z → (j : ℕ) × (slice_get ys j ≡ Some z)) → (j : ℕ) × (slice_get (y ∷ ys) j ≡ Some x)
    by true zero h next = (0, h)
    by true (suc k) h next = later (next k x h)
    by false k h next = later (next k x h)

filter_to : {A : Type 0} (passes : A → Bool) (xs : List A) (j : ℕ) (x : A) → slice_get xs j ≡ Some x → passes x ≡ true → (k : ℕ) × (slice_get (filter passes xs) k ≡ Some x)
filter_to passes [] j x at ok = absurd (let bad : None ≡ Some x = at in cc)
filter_to passes (y ∷ ys) zero x at ok =
    let here : passes y ≡ true = ap passes (same_Some y x at) ∙ ok in
    (0, ap (λ b. slice_get (cond b (y ∷ filter passes ys) (filter passes ys)) 0) here ∙ at)
filter_to passes (y ∷ ys) (suc j) x at ok = by (passes y) (filter_to passes ys j x at ok)
  where
    by : (b : Bool) → (k : ℕ) × (slice_get (filter passes ys) k ≡ Some x) → (k : ℕ) × (slice_get (cond b (y ∷ filter passes ys) (filter passes ys)) k ≡ Some x)
    by true found = (suc found.0, found.1)
    by false found = found

-- what is made of an item of a list
made_of : {A B : Type 0} (f : A → B) (xs : List A) (k : ℕ) (y : B) → slice_get (map f xs) k ≡ Some y → (x : A) × (slice_get xs k ≡ Some x) × (f x ≡ y)
made_of f [] k y at = absurd (let bad : None ≡ Some y = at in cc)
made_of f (x ∷ xs) zero y at = (x, refl, same_Some (f x) y at)
made_of f (x ∷ xs) (suc k) y at = made_of f xs k y at

made_at : {A B : Type 0} (f : A → B) (xs : List A) (k : ℕ) (x : A) → slice_get xs k ≡ Some x → slice_get (map f xs) k ≡ Some (f x)
made_at f xs k x at = slice_get-map f xs k ∙ ap (option_map f) at

-- what is told of all arrivals is told of paths
module _ (labels : List Label) (st : State) (end group : ℕ) (all : List (List ℕ)) (arrivals : List Arrival) (leading_paths : LeadingPaths) (are : AreArrivals labels st.groups end group all arrivals)
    (paths : leading_paths.paths.items ≡ paths_of arrivals) (targets : leading_paths.targets.items ≡ targets_of arrivals) where
  to : Arrival → Option ℕ
  to a = node_at a.end

  leads_there : (a : Arrival) (steps : List ℕ) → Arrives labels st.groups end group all a → slice_get all a.path ≡ Some steps → node_at a.end ≡ target_of_path labels st end group steps
  leads_there a steps it of =
      let same : it.steps ≡ steps = same_Some it.steps steps (sym it.of ∙ of) in
      sym (ap (λ (s : List ℕ). target_of_path labels st end group s) (sym same) ∙ ap (option_and_then node_at) it.leads)

  leads : (place path : ℕ) (steps : List ℕ) → slice_get leading_paths.paths.items place ≡ Some path → slice_get all path ≡ Some steps → get_or leading_paths.targets.items place None ≡ target_of_path labels st end group steps
  unfolding to
  leads place path steps at of =
      let found = made_of (λ (a : Arrival). a.path) (filter is_led arrivals) place path (ap (λ l. slice_get l place) (sym paths) ∙ at) in
      let there = filter_from is_led arrivals place found.0 found.1 in
      let a : Arrival = found.0 in
      let here : slice_get leading_paths.targets.items place ≡ Some (node_at a.end) = ap (λ l. slice_get l place) targets ∙ made_at to (filter is_led arrivals) place a found.1 in
      get_or_from_slice_get leading_paths.targets.items place (node_at a.end) None here
      ∙ leads_there a steps (are.each there.0 a there.1) (ap (slice_get all) found.2 ∙ of)

  whole : (path item : ℕ) (steps : List ℕ) → slice_get all path ≡ Some steps → target_of_path labels st end group steps ≡ Some item → (place : ℕ) × (slice_get leading_paths.paths.items place ≡ Some path)
  whole path item steps of is = by (path_end labels st.groups end steps (Start group)) refl is
    where
      by : (o : Option End) → path_end labels st.groups end steps (Start group) ≡ o → option_and_then node_at o ≡ Some item → (place : ℕ) × (slice_get leading_paths.paths.items place ≡ Some path)
      by None e h = absurd (let bad : None ≡ Some item = h in cc)
      by (Some e) leads h =
          let a : Arrival = record { path = path; end = e } in
          let it : Arrives labels st.groups end group all a = record { steps = steps; of = of; leads = leads } in
          let at = are.all a it in
          let ok : is_led a ≡ true = ap is_some h in
          let kept = filter_to is_led arrivals at.0 a at.1 ok in
          (kept.0, ap (λ l. slice_get l kept.0) paths ∙ made_at (λ (x : Arrival). x.path) (filter is_led arrivals) kept.0 a kept.1)

  pub are_led : IsLed (target_of_path labels st end group) all leading_paths
  unfolding to
  are_led = record {
    each = ap length targets ∙ length-map (filter is_led arrivals) to ∙ sym (ap length paths ∙ length-map (filter is_led arrivals) (λ (a : Arrival). a.path));
    leads = leads;
    whole = whole;
  }
