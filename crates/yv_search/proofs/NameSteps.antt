-- Names in a set, as lists are read.
use Rattle.std.proofs.Common.{◌≡◌, ◌+◌, ◌∙◌, ◌||◌, ℕ, List, [], ◌∷◌, ◌++◌, Bool, true, false, refl, sym, ap, take, Option, Some, None}
use Rattle.std.specs.List.{slice_get, list_any}
use Rattle.std.specs.Str.{bytes_eq}
use Rattle.std.proofs.lemmas.List.Folds.{list_any-append}
use Rattle.yv_text_statement.specs.Tree.{Tree}
use Rattle.yv_text_statement.specs.Words.{is_among}
use Rattle.yv_search.specs.Prefixes.{is_text}
use Rattle.yv_search.specs.Roles.{root_module, is_there}
use Rattle.yv_search.proofs.ListSteps.{take_next}

turned : (a b : Bool) → (a || b) ≡ (b || (a || false))
turned true true = refl
turned true false = refl
turned false true = refl
turned false false = refl

same : (b : Bool) → b ≡ (b || (false || false))
same true = refl
same false = refl

any_more : {X : Type 0} (p : X → Bool) (xs : List X) (i : ℕ) (x : X) → slice_get xs i ≡ Some x → list_any p (take (i + 1) xs) ≡ (list_any p (take i xs) || (p x || false))
any_more p xs i x at = ap (list_any p) (take_next xs i x at) ∙ list_any-append p (take i xs) (x ∷ [])

-- one more name
pub name_more : (names : List (List ℕ)) (i : ℕ) (name q : List ℕ) (old new : Bool) → slice_get names i ≡ Some name → old ≡ is_among (take i names) q → new ≡ (bytes_eq name q || old) → new ≡ is_among (take (i + 1) names) q
name_more names i name q old new at before now =
    now ∙ ap (λ b. bytes_eq name q || b) before ∙ turned (bytes_eq name q) (is_among (take i names) q) ∙ sym (any_more (λ word. bytes_eq word q) names i name at)

-- one more root of a module
pub root_more : (roots : List (Option Tree)) (i : ℕ) (root : Option Tree) (name q : List ℕ) (old new : Bool) → slice_get roots i ≡ Some root → Some name ≡ root_module root → old ≡ is_there (take i roots) q → new ≡ (bytes_eq name q || old) → new ≡ is_there (take (i + 1) roots) q
root_more roots i root name q old new at is before now =
    now ∙ ap (λ b. bytes_eq name q || b) before ∙ turned (bytes_eq name q) (is_there (take i roots) q)
    ∙ ap (λ o. is_there (take i roots) q || (is_text q o || false)) is
    ∙ sym (any_more (λ r. is_text q (root_module r)) roots i root at)

-- one more root that is none of a module
pub root_same : (roots : List (Option Tree)) (i : ℕ) (root : Option Tree) (q : List ℕ) (old : Bool) → slice_get roots i ≡ Some root → None ≡ root_module root → old ≡ is_there (take i roots) q → old ≡ is_there (take (i + 1) roots) q
root_same roots i root q old at is before =
    before ∙ same (is_there (take i roots) q)
    ∙ ap (λ o. is_there (take i roots) q || (is_text q o || false)) is
    ∙ sym (any_more (λ r. is_text q (root_module r)) roots i root at)
