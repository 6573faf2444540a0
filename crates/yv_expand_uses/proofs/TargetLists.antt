-- What refines aim at, and what copies mean by it.
use Rattle.std.proofs.Common.{◌≡◌, ℕ, ◌+◌, ◌<◌, ◌≤◌, zero, suc, Bool, true, false, cond, List, [], ◌∷◌, ◌++◌, ◌&&◌, not, ◌==◌, if◌then◌else◌, length, map, take, get_or, Option, None, Some, refl, sym, ◌∙◌, ap, subst, arith}
use Rattle.std.specs.List.{slice_get}
use Rattle.std.specs.Option.{unwrap_or}
use Rattle.std.specs.Ordering.{is_eq, nat_cmp}
use Rattle.std.specs.Cmp.{Equal-is}
use Rattle.std.specs.declared.alloc.Global.{Global}
use Rattle.std.specs.declared.cmp.Ordering.{Ordering}
use Rattle.std.specs.declared.vec.Vec.{Vec}
use Rattle.std.specs.BTreeMap.{BTreeMap, get, UpdatesBy}
use Rattle.std.proofs.lemmas.Map.Lookups.{CmpEqualImpliesEq, exact_pairs, exact_unsigned}
use Rattle.std.proofs.Math.Dec.{eqb-suc-zero}
use Rattle.std.proofs.lemmas.List.{get_or_past, map_push, take_more}
use Rattle.std.proofs.lemmas.Option.{same_Some}
use Rattle.yv_base_tables.specs.Fronts.{KeepPaths}
use Rattle.yv_expand_refines.specs.Targets.{RefineMeaning, targets_at, targets_of, meaning_of}
use Rattle.yv_expand_refines.specs.declared.targets.RefineTarget.{RefineTarget}
use Rattle.yv_expand_refines.specs.declared.targets.RefinedUses.{RefinedUses}
use Rattle.yv_expand_uses.specs.InnerRefineTargets.{StandWithin, key_cmp}
use Rattle.yv_expand_uses.specs.InnerLeadingPaths.{IsLed, first_from, place_aim}
use Rattle.yv_expand_uses.specs.declared.leading_paths.LeadingPaths.{LeadingPaths}
use Rattle.yv_expand_uses.proofs.NodePaths.{first_stands, first_there}
use Rattle.yv_expand_uses.proofs.ListGrowth.{get_last}

-- what holds of all that is known, and of what is added, holds of all that is known then
pub known_more : {K X : Type 0} (cmp : K → K → Ordering) → CmpEqualImpliesEq cmp → (P : K → X → Type 0) (old new : BTreeMap K X) (key : K) (x : X) → UpdatesBy cmp (cmp key) old new (Some x)
    → ((k : K) (y : X) → get cmp old k ≡ Some y → P k y) → P key x → (k : K) (y : X) → get cmp new k ≡ Some y → P k y
known_more {K = K} {X = X} cmp exact P old new key x updates before here k y at = by (is_eq (cmp key k)) refl
  where
    by : (same : Bool) → is_eq (cmp key k) ≡ same → P k y
    by true e =
        let is : key ≡ k = exact key k ((Equal-is (cmp key k)).0 e) in
        let found : Some x ≡ Some y = sym (updates.0 k ∙ ap (λ b. cond b (Some x) (get cmp old k)) e) ∙ at in
        subst (λ (z : X). P k z) (same_Some x y found) (subst (λ (j : K). P j x) is here)
    by false e = before k y (sym (updates.0 k ∙ ap (λ b. cond b (Some x) (get cmp old k)) e) ∙ at)

pub exact_key : CmpEqualImpliesEq key_cmp
exact_key = exact_pairs nat_cmp nat_cmp exact_unsigned exact_unsigned

-- the refine targets of the next place
pub aims_last : (refine_targets : List (Vec RefineTarget Global)) (v : Vec RefineTarget Global) → targets_at (refine_targets ++ v ∷ []) (length refine_targets) ≡ v.items
aims_last refine_targets v = ap targets_of (get_last refine_targets v)

-- the refine targets of one copy more stand there too
pub within_push : (places : ℕ) (us : List RefinedUses) (u : RefinedUses) → StandWithin places us → u.refine_targets < places → StandWithin places (us ++ u ∷ [])
within_push places [] u h less zero v at = subst (λ (x : RefinedUses). x.refine_targets < places) (same_Some u v at) less
within_push places [] u h less (suc k) v at = absurd (let e : None ≡ Some v = at in cc)
within_push places (x ∷ xs) u h less zero v at = h zero v at
within_push places (x ∷ xs) u h less (suc k) v at = within_push places xs u (λ j y e. h (suc j) y e) less k v at

-- there are more places
pub within_more : (old new : ℕ) (us : List RefinedUses) → old ≤ new → StandWithin old us → StandWithin new us
within_more old new us more h k u at = (let less = h k u at in omega (arith, less, more))

-- the paths of refine targets, when there are more
pub paths_keep : (old new : List (List ℕ)) (path_of : ℕ → List ℕ) (refine_targets : List RefineTarget) (refines : List ℕ) → KeepPaths old new
    → map (λ a. slice_get old a.path) refine_targets ≡ map (λ k. Some (path_of k)) refines → map (λ a. slice_get new a.path) refine_targets ≡ map (λ k. Some (path_of k)) refines
paths_keep old new path_of [] [] keep h = refl
paths_keep old new path_of [] (k ∷ ks) keep h = absurd (let e : [] ≡ Some (path_of k) ∷ map (λ j. Some (path_of j)) ks = h in cc)
paths_keep old new path_of (a ∷ bs) [] keep h = absurd (let e : slice_get old a.path ∷ map (λ b. slice_get old b.path) bs ≡ [] = h in cc)
paths_keep old new path_of (a ∷ bs) (k ∷ ks) keep h =
    let e : slice_get old a.path ∷ map (λ b. slice_get old b.path) bs ≡ Some (path_of k) ∷ map (λ j. Some (path_of j)) ks = h in
    let here : slice_get old a.path ≡ Some (path_of k) = cc in
    let others : map (λ b. slice_get old b.path) bs ≡ map (λ j. Some (path_of j)) ks = cc in
    ap (λ (o : Option (List ℕ)). o ∷ map (λ b. slice_get new b.path) bs) (keep a.path (path_of k) here)
    ∙ ap (λ (l : List (Option (List ℕ))). Some (path_of k) ∷ l) (paths_keep old new path_of bs ks keep others)

-- where the path of a number leads, by its place among those that lead somewhere
target_told : (lead : List ℕ → Option ℕ) (all : List (List ℕ)) (leading_paths : LeadingPaths) → IsLed lead all leading_paths → (n : ℕ) (steps : List ℕ) → slice_get all n ≡ Some steps
    → get_or leading_paths.targets.items (unwrap_or (first_from 0 leading_paths.paths.items n) (length leading_paths.paths.items)) None ≡ lead steps
target_told lead all leading_paths are n steps of = by (first_from 0 leading_paths.paths.items n) refl
  where
    nowhere : (t : Option ℕ) → lead steps ≡ t → first_from 0 leading_paths.paths.items n ≡ None → None ≡ t
    nowhere None to e = refl
    nowhere (Some item) to e = (let at = are.whole n item steps of to in absurd (first_there 0 leading_paths.paths.items at.0 n at.1 e))

    by : (o : Option ℕ) → first_from 0 leading_paths.paths.items n ≡ o → get_or leading_paths.targets.items (unwrap_or o (length leading_paths.paths.items)) None ≡ lead steps
    by None e = get_or_past leading_paths.targets.items (length leading_paths.paths.items) None (let each = are.each in omega (arith, each)) ∙ nowhere (lead steps) refl e
    by (Some place) e =
        let there = first_stands 0 leading_paths.paths.items n place e in
        let same : place ≡ there.0 = (let is = there.1 in omega (arith, is)) in
        ap (λ k. get_or leading_paths.targets.items k None) same ∙ are.leads there.0 n steps there.2 of

-- refine targets with these refines and paths mean where the paths of these refines lead
pub meant_told : (item : ℕ) (lead : List ℕ → Option ℕ) (all : List (List ℕ)) (leading_paths : LeadingPaths) (path_of : ℕ → List ℕ) → IsLed lead all leading_paths → (refine_targets : List RefineTarget) (refines : List ℕ) → map (λ a. a.refine) refine_targets ≡ refines
    → map (λ a. slice_get all a.path) refine_targets ≡ map (λ k. Some (path_of k)) refines
    → map (meaning_of item leading_paths.targets.items) (map (place_aim leading_paths.paths.items) refine_targets) ≡ map (λ k. record { item = item; refine = k; target = lead (path_of k) }) refines
meant_told item lead all leading_paths path_of are [] [] h g = refl
meant_told item lead all leading_paths path_of are [] (k ∷ ks) h g = absurd (let e : [] ≡ k ∷ ks = h in cc)
meant_told item lead all leading_paths path_of are (a ∷ bs) [] h g = absurd (let e : a.refine ∷ map (λ b. b.refine) bs ≡ [] = h in cc)
meant_told item lead all leading_paths path_of are (a ∷ bs) (k ∷ ks) h g =
    let e : a.refine ∷ map (λ b. b.refine) bs ≡ k ∷ ks = h in
    let f : slice_get all a.path ∷ map (λ b. slice_get all b.path) bs ≡ Some (path_of k) ∷ map (λ j. Some (path_of j)) ks = g in
    let is : a.refine ≡ k = cc in
    let at : slice_get all a.path ≡ Some (path_of k) = cc in
    let others : map (λ b. b.refine) bs ≡ ks = cc in
    let rest : map (λ b. slice_get all b.path) bs ≡ map (λ j. Some (path_of j)) ks = cc in
    let make : ℕ → Option ℕ → RefineMeaning = λ r t. record { item = item; refine = r; target = t } in
    let behind : List RefineMeaning = map (meaning_of item leading_paths.targets.items) (map (place_aim leading_paths.paths.items) bs) in
    let target : Option ℕ = get_or leading_paths.targets.items (unwrap_or (first_from 0 leading_paths.paths.items a.path) (length leading_paths.paths.items)) None in
    ap (λ (r : ℕ). make r target ∷ behind) is
    ∙ ap (λ (t : Option ℕ). make k t ∷ behind) (target_told lead all leading_paths are a.path (path_of k) at)
    ∙ ap (λ (l : List RefineMeaning). make k (lead (path_of k)) ∷ l) (meant_told item lead all leading_paths path_of are bs ks others rest)

-- one more refine target
pub aims_more : (refines : List ℕ) (i : ℕ) (old new : List RefineTarget) (a : RefineTarget) → i < length refines → a.refine ≡ get_or refines i 0 → new ≡ old ++ a ∷ []
    → map (λ b. b.refine) old ≡ take i refines → map (λ b. b.refine) new ≡ take (i + 1) refines
aims_more refines i old new a less is now before =
    ap (map (λ (b : RefineTarget). b.refine)) now ∙ map_push (λ (b : RefineTarget). b.refine) old a ∙ ap (λ (l : List ℕ). l ++ a.refine ∷ []) before
    ∙ ap (λ (r : ℕ). take i refines ++ r ∷ []) is ∙ sym (take_more refines i 0 less)

pub aimed_more : (refines : List ℕ) (path_of : ℕ → List ℕ) (i : ℕ) (old new : List RefineTarget) (a : RefineTarget) (first second : List (List ℕ)) → i < length refines → KeepPaths first second
    → slice_get second a.path ≡ Some (path_of (get_or refines i 0)) → new ≡ old ++ a ∷ []
    → map (λ b. slice_get first b.path) old ≡ map (λ k. Some (path_of k)) (take i refines) → map (λ b. slice_get second b.path) new ≡ map (λ k. Some (path_of k)) (take (i + 1) refines)
aimed_more refines path_of i old new a first second less keep at now before =
    let told : ℕ → Option (List ℕ) = λ k. Some (path_of k) in
    let led_by : RefineTarget → Option (List ℕ) = λ b. slice_get second b.path in
    ap (map led_by) now ∙ map_push led_by old a
    ∙ ap (λ (l : List (Option (List ℕ))). l ++ led_by a ∷ []) (paths_keep first second path_of old (take i refines) keep before)
    ∙ ap (λ (o : Option (List ℕ)). map told (take i refines) ++ o ∷ []) at
    ∙ sym (ap (map told) (take_more refines i 0 less) ∙ map_push told (take i refines) (get_or refines i 0))

-- an item that doesn't refine, and one that does
pub none_refined : {A : Type 0} (uses : Bool) (f : ℕ → A) (refines : List ℕ) → (uses && not (length refines == 0)) ≡ false → (if uses then map f refines else []) ≡ []
none_refined false f refines h = refl
none_refined true f [] h = refl
none_refined true f (k ∷ ks) h = absurd (let e = ap not (eqb-suc-zero (length ks)) in let bad : true ≡ false = sym e ∙ h in cc)

pub all_refined : {A : Type 0} (uses : Bool) (f : ℕ → A) (refines : List ℕ) → (uses && not (length refines == 0)) ≡ true → (if uses then map f refines else []) ≡ map f refines
all_refined false f refines h = absurd (let e : false ≡ true = h in cc)
all_refined true f refines h = refl
