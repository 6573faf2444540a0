-- Trees as lists.
use Rattle.std.proofs.Common.{◌≡◌, ℕ, ◌+◌, List, ◌∷◌, ◌++◌, length, Option, Some, refl, sym, ap, ◌∙◌, arith, append_assoc, length-append}
use Rattle.yv_expand.specs.declared.item.PlacedItem.{PlacedItem}
use Rattle.yv_expand.specs.Tree.{Forest, none, item, count, join, item_list}

module _ {A : Type 0} where
  pub length_listed : (parent : Option ℕ) (first : ℕ) (t : Forest A) → length (item_list parent first t) ≡ count t
  length_listed parent first none = refl
  length_listed parent first (item origin below behind) =
      omega (
        arith,
        length-append (item_list (Some first) (first + 1) below) (item_list parent (first + 1 + count below) behind),
        length_listed (Some first) (first + 1) below,
        length_listed parent (first + 1 + count below) behind,
      )

  pub count_joined : (t u : Forest A) → count (join t u) ≡ count t + count u
  count_joined none u = omega arith
  count_joined (item origin below behind) u = omega (arith, count_joined behind u)

  pub listed_joined : (parent : Option ℕ) (first : ℕ) (t u : Forest A)
      → item_list parent first (join t u) ≡ item_list parent first t ++ item_list parent (first + count t) u
  listed_joined parent first none u = ap (λ (n : ℕ). item_list parent n u) (omega arith)
  listed_joined parent first (item origin below behind) u =
      let here : PlacedItem A = record { origin = origin; parent = parent } in
      let inner : List (PlacedItem A) = item_list (Some first) (first + 1) below in
      let after : List (PlacedItem A) = item_list parent (first + 1 + count below) behind in
      let place : first + 1 + count below + count behind ≡ first + (1 + count below + count behind) = omega arith in
      let last : List (PlacedItem A) = item_list parent (first + (1 + count below + count behind)) u in
      let rest : item_list parent (first + 1 + count below) (join behind u) ≡ after ++ last =
      listed_joined parent (first + 1 + count below) behind u ∙ ap (λ (n : ℕ). after ++ item_list parent n u) place in
      ap (λ (xs : List (PlacedItem A)). here ∷ inner ++ xs) rest ∙ ap (λ (xs : List (PlacedItem A)). here ∷ xs) (sym (append_assoc inner after last))
