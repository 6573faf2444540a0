-- A tree with one path more.
use Rattle.std.proofs.Common.{◌≡◌, ◌⊎◌, inl, inr, ℕ, ◌+◌, ◌≤◌, zero, suc, Bool, true, false, cond, List, [], ◌∷◌, ◌++◌, length, length-append, None, Some, refl, sym, ◌∙◌, ap, subst, arith}
use Rattle.std.specs.List.{slice_get}
use Rattle.std.specs.Prelude.{Result, Ok, Err}
use Rattle.std.specs.Result.{IsErr, MatchResult, OnErr}
use Rattle.std.specs.Cmp.{Equal-is, nat_cmp_total}
use Rattle.std.specs.Ordering.{is_eq, nat_cmp, ordering_then}
use Rattle.std.specs.BTreeMap.{BTreeMap, get, is_at, UpdatesBy}
use Rattle.std.specs.Map.{lookup}
use Rattle.std.specs.declared.cmp.Ordering.{Ordering}
use Rattle.std.specs.declared.cmp.Ordering.TheVariants.{Equal}
use Rattle.std.proofs.lemmas.Bool.{cases_eq}
use Rattle.std.proofs.lemmas.Cmp.{tied_itself}
use Rattle.std.proofs.lemmas.Map.Lookups.{CmpEqualImpliesEq, exact_pairs, exact_unsigned}
use Rattle.std.proofs.lemmas.Option.{same_Some, slice_get_within}
use Rattle.yv_base_tables.specs.Fronts.{GoesOn, HaveFronts, IsReached, StandsIn}
use Rattle.yv_base_tables.specs.InnerTree.{IsAdded, IsPathTree, Key, branches_at, key_cmp, known_in}
use Rattle.yv_base_tables.specs.declared.path_tree.PathTree.{PathTree}
use Rattle.yv_base_tables.proofs.Rows.{KeepRows, get_before}

pub get_last : {A : Type 0} (xs : List A) (y : A) → slice_get (xs ++ y ∷ []) (length xs) ≡ Some y
get_last [] y = refl
get_last (x ∷ xs) y = get_last xs y

pub keep_before : {A : Type 0} (xs : List A) (y : A) (k : ℕ) (x : A) → slice_get xs k ≡ Some x → slice_get (xs ++ y ∷ []) k ≡ Some x
keep_before xs y k x h = get_before xs y k (slice_get_within xs k x h) ∙ h

-- what stands there stood there before, or is the new one
pub last_or_before : {A : Type 0} (P : ℕ → Type 0) (xs : List A) (y x : A) (k : ℕ) → slice_get (xs ++ y ∷ []) k ≡ Some x → (slice_get xs k ≡ Some x → P k) → (k ≡ length xs → x ≡ y → P k) → P k
last_or_before P [] y x zero h before last = last refl (sym (same_Some y x h))
last_or_before P [] y x (suc k) h before last = absurd (let e : None ≡ Some x = h in cc)
last_or_before P (z ∷ zs) y x zero h before last = before h
last_or_before P (z ∷ zs) y x (suc k) h before last = last_or_before (λ n. P (suc n)) zs y x k h before (λ e is. last (ap suc e) is)

-- paths that end with a step are equal where what is before it and the step are
no_step : (xs : List ℕ) (x : ℕ) → xs ++ x ∷ [] ≡ [] → ⊥
no_step [] x h = cc
no_step (y ∷ ys) x h = absurd (let e : y ∷ (ys ++ x ∷ []) ≡ [] = h in cc)

pub same_end : (xs ys : List ℕ) (x y : ℕ) → xs ++ x ∷ [] ≡ ys ++ y ∷ [] → (xs ≡ ys) × (x ≡ y)
same_end [] [] x y h = (refl, (let e : x ∷ [] ≡ y ∷ [] = h in cc))
same_end [] (b ∷ others) x y h = absurd (no_step others y (let e : x ∷ [] ≡ b ∷ (others ++ y ∷ []) = h in cc))
same_end (a ∷ more) [] x y h = absurd (no_step more x (let e : a ∷ (more ++ x ∷ []) ≡ y ∷ [] = h in cc))
same_end (a ∷ more) (b ∷ others) x y h =
    let e : a ∷ (more ++ x ∷ []) ≡ b ∷ (others ++ y ∷ []) = h in
    let first : a ≡ b = cc in
    let both = same_end more others x y (cc) in
    (ap (λ (n : ℕ). n ∷ more) first ∙ ap (λ (l : List ℕ). b ∷ l) both.0, both.1)

-- what holds of all that is known, and of what is added, holds of all that is known then
pub known_more : {K X : Type 0} (cmp : K → K → Ordering) → CmpEqualImpliesEq cmp → (P : K → X → Type 0) (old new : BTreeMap K X) (key : K) (x : X) → UpdatesBy cmp (cmp key) old new (Some x)
    → ((k : K) (y : X) → get cmp old k ≡ Some y → P k y) → P key x → (k : K) (y : X) → get cmp new k ≡ Some y → P k y
known_more {K = K} {X = X} cmp exact P old new key x updates before here k y at = by (is_eq (cmp key k)) refl
  where
    by : (same : Bool) → is_eq (cmp key k) ≡ same → P k y
    by true e =
        let is : key ≡ k = exact key k ((Equal-is (cmp key k)).0 e) in
        let found : Some x ≡ Some y = sym (updates.0 k ∙ ap (λ b. cond b (Some x) (get cmp old k)) e) ∙ at in
        subst (λ (z : X). P k z) (same_Some x y found) (subst (λ (j : K). P j x) is here)
    by false e = before k y (sym (updates.0 k ∙ ap (λ b. cond b (Some x) (get cmp old k)) e) ∙ at)

pub exact_key : CmpEqualImpliesEq key_cmp
exact_key = exact_pairs nat_cmp nat_cmp exact_unsigned exact_unsigned

tied_key : (front step : ℕ) → key_cmp (front, step) (front, step) ≡ Equal
tied_key front step = ap (λ o. ordering_then o (nat_cmp step step)) (tied_itself nat_cmp_total front) ∙ tied_itself nat_cmp_total step

-- a new path goes on from one of the paths by a step by which none did, and stands behind all
module _ (paths : List (List ℕ)) (old new : PathTree) (front step path : ℕ) (steps : List ℕ)
    (is : IsPathTree paths old) (at : slice_get paths front ≡ Some steps) (absent : (p : ℕ) → GoesOn paths front step p → ⊥)
    (next : path ≡ length paths) (stepped : new.steps.items ≡ old.steps.items ++ step ∷ []) (rows : length new.branches.items ≡ length old.branches.items + 1)
    (here : branches_at new front ≡ branches_at old front ++ path ∷ []) (others : (k : ℕ) → (k ≡ front → ⊥) → branches_at new k ≡ branches_at old k)
    (updates : UpdatesBy key_cmp (key_cmp (front, step)) old.known new.known (Some path))
    (most : old.deepest ≤ new.deepest) (deep : length steps + 1 ≤ new.deepest) (which : (new.deepest ≡ old.deepest) ⊎ (new.deepest ≡ length steps + 1)) where
  abbrev added : List ℕ
  added = steps ++ step ∷ []

  abbrev all : List (List ℕ)
  all = paths ++ added ∷ []

  old_path : (number : ℕ) (some : List ℕ) → slice_get paths number ≡ Some some → slice_get all number ≡ Some some
  old_path number some there = keep_before paths added number some there

  new_path : slice_get all path ≡ Some added
  new_path = ap (slice_get all) next ∙ get_last paths added

  goes_on : (f s p : ℕ) → GoesOn paths f s p → GoesOn all f s p
  goes_on f s p g = record { steps = g.steps; before = old_path f g.steps g.before; whole = old_path p (g.steps ++ s ∷ []) g.whole }

  new_goes_on : GoesOn all front step path
  new_goes_on = record { steps = steps; before = old_path front steps at; whole = new_path }

  -- none of the paths is the new one
  no_added : (number : ℕ) → slice_get paths number ≡ Some added → ⊥
  no_added number there = absent number (record { steps = steps; before = at; whole = there })

  -- what goes on did so before, or is the new path
  new_or_old : (P : Type 0) (f s p : ℕ) → GoesOn all f s p → (GoesOn paths f s p → P) → (f ≡ front → s ≡ step → p ≡ path → P) → P
  new_or_old P f s p g before last =
      last_or_before (λ (k : ℕ). P) paths added (g.steps ++ s ∷ []) p g.whole
      (λ there. last_or_before (λ (k : ℕ). P) paths added g.steps f g.before
      (λ from. before (record { steps = g.steps; before = from; whole = there }))
      (λ behind is_added. absurd (
      let h = is.fronts.front p g.steps s there in
      let ends = same_end h.1.steps g.steps s s (same_Some (h.1.steps ++ s ∷ []) (g.steps ++ s ∷ []) (sym h.1.whole ∙ there)) in
      no_added h.0 (h.1.before ∙ ap Some (ends.0 ∙ is_added)))))
      (λ behind is_added.
      let ends = same_end g.steps steps s step is_added in
      last_or_before (λ (k : ℕ). P) paths added g.steps f g.before
      (λ from. last (is.differ f front steps (from ∙ ap Some ends.0) at) ends.1 (behind ∙ sym next))
      (λ far longer. absurd (
      let e : length steps ≡ length steps + 1 = ap length (sym ends.0 ∙ longer) ∙ length-append steps (step ∷ []) in
      omega (arith, e))))

  -- a number is the new one's, or stood there before
  numbered : (P : ℕ → Type 0) (some : List ℕ) (number : ℕ) → slice_get all number ≡ Some some → (slice_get paths number ≡ Some some → P number) → (number ≡ path → some ≡ added → P number) → P number
  numbered P some number there before last = last_or_before P paths added some number there before (λ behind is_added. last (behind ∙ sym next) is_added)

  fronts : HaveFronts all
  fronts = record {
    first = old_path 0 [] is.fronts.first;
    alone = λ number there. numbered (λ (k : ℕ). k ≡ 0) [] number there (λ before. is.fronts.alone number before) (λ last is_added. absurd (no_step steps step (sym is_added)));
    front = λ number some s there. numbered (λ (k : ℕ). (f : ℕ) × GoesOn all f s k) (some ++ s ∷ []) number there
        (λ before. (let h = is.fronts.front number some s before in (h.0, goes_on h.0 s number h.1)))
        (λ last is_added. (let ends = same_end some steps s step is_added in (front, subst (λ (k : ℕ). GoesOn all front s k) (sym last) (subst (λ (k : ℕ). GoesOn all front k path) (sym ends.1) new_goes_on))));
  }

  differ : (one other : ℕ) (some : List ℕ) → slice_get all one ≡ Some some → slice_get all other ≡ Some some → one ≡ other
  differ one other some here_one here_other =
      numbered (λ (k : ℕ). k ≡ other) some one here_one
      (λ before. numbered (λ (k : ℕ). one ≡ k) some other here_other (λ too. is.differ one other some before too) (λ last is_added. absurd (no_added one (before ∙ ap Some is_added))))
      (λ last is_added. numbered (λ (k : ℕ). one ≡ k) some other here_other (λ before. absurd (no_added other (before ∙ ap Some is_added))) (λ too same_too. last ∙ sym too))

  steps_then : (f s p : ℕ) → GoesOn all f s p → slice_get new.steps.items p ≡ Some s
  steps_then f s p g = new_or_old (slice_get new.steps.items p ≡ Some s) f s p g
      (λ before. ap (λ (l : List ℕ). slice_get l p) stepped ∙ keep_before old.steps.items step p s (is.step f s p before))
      (λ from by last. ap (λ (l : List ℕ). slice_get l p) stepped ∙ ap (slice_get (old.steps.items ++ step ∷ [])) (last ∙ next ∙ sym is.steps) ∙ get_last old.steps.items step ∙ ap Some (sym by))

  known_then : (f s p : ℕ) → known_in new f s ≡ Some p → GoesOn all f s p
  known_then f s p found = known_more key_cmp exact_key (λ (key : Key) (p' : ℕ). GoesOn all key.0 key.1 p') old.known new.known (front, step) path updates
      (λ key p' before. goes_on key.0 key.1 p' (is.known key.0 key.1 p' before)) new_goes_on (f, s) p found

  found_then : (f s : ℕ) (b : Bool) → is_eq (key_cmp (front, step) (f, s)) ≡ b → known_in new f s ≡ cond b (Some path) (known_in old f s)
  found_then f s b e = updates.0 (f, s) ∙ ap (λ (c : Bool). cond c (Some path) (known_in old f s)) e

  known_before : (f s p : ℕ) → GoesOn paths f s p → known_in new f s ≡ Some p
  known_before f s p g = by (is_eq (key_cmp (front, step) (f, s))) refl
    where
      by : (b : Bool) → is_eq (key_cmp (front, step) (f, s)) ≡ b → known_in new f s ≡ Some p
      by true e =
          let key : (front, step) ≡ (f, s) = exact_key (front, step) (f, s) ((Equal-is (key_cmp (front, step) (f, s))).0 e) in
          absurd (absent p (subst (λ (k : Key). GoesOn paths k.0 k.1 p) (sym key) g))
      by false e = found_then f s false e ∙ is.all_known f s p g

  all_known_then : (f s p : ℕ) → GoesOn all f s p → known_in new f s ≡ Some p
  all_known_then f s p g = new_or_old (known_in new f s ≡ Some p) f s p g (known_before f s p)
      (λ from by last. ap (λ (k : ℕ). known_in new k s) from ∙ ap (known_in new front) by ∙ found_then front step true (ap is_eq (tied_key front step)) ∙ ap Some (sym last))

  row_then : (f p : ℕ) → StandsIn (branches_at old f) p → StandsIn (branches_at new f) p
  row_then f p there = by (cases_eq f front)
    where
      by : (f ≡ front) ⊎ (f ≡ front → ⊥) → StandsIn (branches_at new f) p
      by (inl e) = record {
        place = there.place;
        at = ap (λ (k : ℕ). slice_get (branches_at new k) there.place) e ∙ ap (λ (l : List ℕ). slice_get l there.place) here
            ∙ keep_before (branches_at old front) path there.place p (ap (λ (k : ℕ). slice_get (branches_at old k) there.place) (sym e) ∙ there.at);
      }
      by (inr apart) = subst (λ (l : List ℕ). StandsIn l p) (sym (others f apart)) there

  all_branches_then : (f s p : ℕ) → GoesOn all f s p → StandsIn (branches_at new f) p
  all_branches_then f s p g = new_or_old (StandsIn (branches_at new f) p) f s p g (λ before. row_then f p (is.all_branches f s p before))
      (λ from by last. record {
        place = length (branches_at old front);
        at = ap (λ (k : ℕ). slice_get (branches_at new k) (length (branches_at old front))) from ∙ ap (λ (l : List ℕ). slice_get l (length (branches_at old front))) here
            ∙ get_last (branches_at old front) path ∙ ap Some (sym last);
      })

  went_on : (f p : ℕ) → StandsIn (branches_at old f) p → (s : ℕ) × GoesOn all f s p
  went_on f p there = (let h = is.branch f p there in (h.0, goes_on f h.0 p h.1))

  branch_then : (f p : ℕ) → StandsIn (branches_at new f) p → (s : ℕ) × GoesOn all f s p
  branch_then f p there = by (cases_eq f front)
    where
      by : (f ≡ front) ⊎ (f ≡ front → ⊥) → (s : ℕ) × GoesOn all f s p
      by (inl e) = last_or_before (λ (k : ℕ). (s : ℕ) × GoesOn all f s p) (branches_at old front) path p there.place
          (sym (ap (λ (k : ℕ). slice_get (branches_at new k) there.place) e ∙ ap (λ (l : List ℕ). slice_get l there.place) here) ∙ there.at)
          (λ before. went_on f p (record { place = there.place; at = ap (λ (k : ℕ). slice_get (branches_at old k) there.place) e ∙ before }))
          (λ behind last. (step, subst (λ (k : ℕ). GoesOn all k step p) (sym e) (subst (λ (k : ℕ). GoesOn all front step k) (sym last) new_goes_on)))
      by (inr apart) = went_on f p (subst (λ (l : List ℕ). StandsIn l p) (others f apart) there)

  deepest_then : (number : ℕ) (some : List ℕ) → slice_get all number ≡ Some some → length some ≤ new.deepest
  deepest_then number some there = numbered (λ (k : ℕ). length some ≤ new.deepest) some number there
      (λ before. let h = is.deepest number some before in omega (arith, h, most))
      (λ last is_added. let e : length some ≡ length steps + 1 = ap length is_added ∙ length-append steps (step ∷ []) in omega (arith, e, deep))

  reached_then : IsReached all new.deepest
  reached_then = by which
    where
      by : (new.deepest ≡ old.deepest) ⊎ (new.deepest ≡ length steps + 1) → IsReached all new.deepest
      by (inl same) = record { path = is.reached.path; steps = is.reached.steps; at = old_path is.reached.path is.reached.steps is.reached.at; long = is.reached.long ∙ sym same }
      by (inr longer) = record { path = path; steps = added; at = new_path; long = length-append steps (step ∷ []) ∙ sym longer }

  count : length all ≡ length paths + 1
  count = length-append paths (added ∷ [])

  pub grown : IsAdded paths (steps ++ step ∷ []) path new
  grown = record {
    all = all;
    tree = record {
      fronts = fronts;
      differ = differ;
      steps = ap length stepped ∙ length-append old.steps.items (step ∷ []) ∙ ap (λ (n : ℕ). n + 1) is.steps ∙ sym count;
      branches = rows ∙ ap (λ (n : ℕ). n + 1) is.branches ∙ sym count;
      step = steps_then;
      known = known_then;
      all_known = all_known_then;
      branch = branch_then;
      all_branches = all_branches_then;
      deepest = deepest_then;
      reached = reached_then;
    };
    kept = old_path;
    at = new_path;
  }

-- a tree that keeps the same has the same paths
pub same_tree : (paths : List (List ℕ)) (old new : PathTree) → IsPathTree paths old → new.steps.items ≡ old.steps.items → KeepRows old.branches.items new.branches.items
    → new.known.entries ≡ old.known.entries → new.deepest ≡ old.deepest → IsPathTree paths new
same_tree paths old new is steps rows entries deepest = record {
  fronts = is.fronts;
  differ = is.differ;
  steps = ap length steps ∙ is.steps;
  branches = rows.long ∙ is.branches;
  step = λ f s p g. ap (λ (l : List ℕ). slice_get l p) steps ∙ is.step f s p g;
  known = λ f s p h. is.known f s p (sym (same_known f s) ∙ h);
  all_known = λ f s p g. same_known f s ∙ is.all_known f s p g;
  branch = λ f p there. is.branch f p (subst (λ (l : List ℕ). StandsIn l p) (rows.each f) there);
  all_branches = λ f s p g. subst (λ (l : List ℕ). StandsIn l p) (sym (rows.each f)) (is.all_branches f s p g);
  deepest = λ path some there. let h = is.deepest path some there in omega (arith, h, deepest);
  reached = record { path = is.reached.path; steps = is.reached.steps; at = is.reached.at; long = is.reached.long ∙ sym deepest };
}
  where
    same_known : (f s : ℕ) → known_in new f s ≡ known_in old f s
    same_known f s = ap (λ (es : List (Key × ℕ)). lookup (is_at (key_cmp (f, s))) es) entries

-- what holds holds after an error
pub on_err : {A E P : Type 0} (r : Result A E) → P → OnErr r P
on_err (Ok a) p = tt
on_err (Err e) p = p

pub after_err : {A E Q : Type 0} (P : A → Type 0) (r : Result A E) → IsErr r → Q → MatchResult r P (λ (e : E). Q)
after_err P (Ok a) bad q = absurd (let no : false ≡ true = bad in cc)
after_err P (Err e) is q = q
