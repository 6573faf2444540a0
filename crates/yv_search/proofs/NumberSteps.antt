-- Modules get the numbers of their first files.
use Rattle.std.proofs.Common.{◌≡◌, ◌+◌, ◌<◌, ◌≤◌, ◌∙◌, ℕ, zero, suc, List, [], ◌∷◌, ◌++◌, not, Bool, true, false, refl, sym, ap, subst, if◌then◌else◌, take, length, arith, length-take-le, Option, Some, None}
use Rattle.std.specs.List.{slice_get, position_from}
use Rattle.std.specs.Option.{option_map, option_or}
use Rattle.std.specs.Str.{bytes_eq}
use Rattle.std.proofs.lemmas.Option.{slice_get_within}
use Rattle.std.proofs.lemmas.Slice.Eq.{bytes_eq-Decides}
use Rattle.yv_text_statement.specs.Tree.{Tree}
use Rattle.yv_text_statement.specs.Words.{is_among}
use Rattle.yv_link_scopes.specs.Names.{first_where}
use Rattle.yv_search.specs.Prefixes.{is_text}
use Rattle.yv_search.specs.Roles.{is_there}
use Rattle.yv_search.specs.InnerModules.{module_at, module_in, is_file_of, number_in, ref_at, ref_of, first_kept}
use Rattle.yv_search.specs.declared.table.ModuleRef.{ModuleRef}
use Rattle.yv_search.proofs.ListSteps.{take_next}

-- the first place in a list with one more item
push_from : {X : Type 0} (p : X → Bool) (k : ℕ) (xs : List X) (x : X) → position_from p k (xs ++ x ∷ []) ≡ option_or (position_from p k xs) (if p x then Some (k + length xs) else None)
push_from p k [] x = ap (λ n. if p x then Some n else None) (omega arith)
push_from p k (y ∷ xs) x = by (p y) (push_from p (k + 1) xs x)
  where
    e : (k + 1) + length xs ≡ k + length (y ∷ xs)
    e = omega arith

    by : (b : Bool) → position_from p (k + 1) (xs ++ x ∷ []) ≡ option_or (position_from p (k + 1) xs) (if p x then Some ((k + 1) + length xs) else None)
        → (if b then Some k else position_from p (k + 1) (xs ++ x ∷ [])) ≡ option_or (if b then Some k else position_from p (k + 1) xs) (if p x then Some (k + length (y ∷ xs)) else None)
    by true h = refl
    by false h = h ∙ ap (λ n. option_or (position_from p (k + 1) xs) (if p x then Some n else None)) e

numbered : (roots : List (Option Tree)) (i : ℕ) (root : Option Tree) (q : List ℕ) → slice_get roots i ≡ Some root → number_in (take (i + 1) roots) q ≡ option_or (number_in (take i roots) q) (if is_file_of q root then Some i else None)
numbered roots i root q at =
    let size : 0 + length (take i roots) ≡ i = let h : i < length roots = slice_get_within roots i root at in omega (arith, length-take-le i roots (omega arith)) in
    ap (first_where (is_file_of q)) (take_next roots i root at) ∙ push_from (is_file_of q) 0 (take i roots) root
    ∙ ap (λ n. option_or (number_in (take i roots) q) (if is_file_of q root then Some n else None)) size

-- one more file of a module
pub number_more : (roots : List (Option Tree)) (given : List (List ℕ)) (i : ℕ) (root : Option Tree) (name q : List ℕ) (there free : Bool) (old new : Option (Option ModuleRef))
    → slice_get roots i ≡ Some root → Some name ≡ module_at root → there ≡ is_there roots name → free ≡ not (is_among given name)
    → old ≡ option_map (λ n. Some (ref_at roots given q n)) (number_in (take i roots) q)
    → new ≡ first_kept old name (Some (record { number = i; is_there = there; is_free = free })) q
    → new ≡ option_map (λ n. Some (ref_at roots given q n)) (number_in (take (i + 1) roots) q)
number_more roots given i root name q there free old new at is is_there_ is_free_ before now =
    now
    ∙ ap (λ (m : ModuleRef). first_kept old name (Some m) q) (λ k. record { number = i; is_there = is_there_ k; is_free = is_free_ k })
    ∙ ap (λ o. first_kept o name (Some (ref_at roots given name i)) q) before
    ∙ by (number_in (take i roots) q) (bytes_eq name q) refl
    ∙ ap (λ (o : Option (List ℕ)). option_map (λ n. Some (ref_at roots given q n)) (option_or (number_in (take i roots) q) (if is_text q o then Some i else None))) is
    ∙ ap (option_map (λ n. Some (ref_at roots given q n))) (sym (numbered roots i root q at))
  where
    by : (o : Option ℕ) (b : Bool) → bytes_eq name q ≡ b → option_or (option_map (λ n. Some (ref_at roots given q n)) o) (if b then Some (Some (ref_at roots given name i)) else None) ≡ option_map (λ n. Some (ref_at roots given q n)) (option_or o (if b then Some i else None))
    by (Some n) b e = refl
    by None true e = ap (λ (w : List ℕ). Some (Some (ref_at roots given w i))) ((bytes_eq-Decides name q).0 e)
    by None false e = refl

-- a file of no module
pub number_same : (roots : List (Option Tree)) (given : List (List ℕ)) (i : ℕ) (root : Option Tree) (q : List ℕ) (old : Option (Option ModuleRef)) → slice_get roots i ≡ Some root → None ≡ module_at root
    → old ≡ option_map (λ n. Some (ref_at roots given q n)) (number_in (take i roots) q) → old ≡ option_map (λ n. Some (ref_at roots given q n)) (number_in (take (i + 1) roots) q)
number_same roots given i root q old at is before =
    before
    ∙ by (number_in (take i roots) q)
    ∙ ap (λ (o : Option (List ℕ)). option_map (λ n. Some (ref_at roots given q n)) (option_or (number_in (take i roots) q) (if is_text q o then Some i else None))) is
    ∙ ap (option_map (λ n. Some (ref_at roots given q n))) (sym (numbered roots i root q at))
  where
    by : (o : Option ℕ) → option_map (λ n. Some (ref_at roots given q n)) o ≡ option_map (λ n. Some (ref_at roots given q n)) (option_or o None)
    by None = refl
    by (Some n) = refl

-- the table of all files
pub numbers_all : (roots : List (Option Tree)) (given : List (List ℕ)) (q : List ℕ) (row : Option (Option ModuleRef)) → row ≡ option_map (λ n. Some (ref_at roots given q n)) (number_in roots q) → module_in row ≡ ref_of roots given q
numbers_all roots given q row is = ap module_in is ∙ by (number_in roots q)
  where
    by : (o : Option ℕ) → module_in (option_map (λ n. Some (ref_at roots given q n)) o) ≡ option_map (ref_at roots given q) o
    by None = refl
    by (Some n) = refl
