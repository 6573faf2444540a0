-- The nodes to which augments add.
use Rattle.std.proofs.Common.{◌≡◌, ℕ, zero, suc, ◌+◌, ◌==◌, Bool, true, false, List, [], ◌∷◌, if◌then◌else◌, Some, None, refl, ap, ◌∙◌, arith}
use Rattle.std.specs.List.{position_from, slice_get, slice_index_or}
use Rattle.std.specs.Option.{option_and_then}
use Rattle.std.proofs.lemmas.Bool.Decides.{nat_tests}
use Rattle.std.proofs.lemmas.Option.{same_Some}
use Rattle.yv_expand.specs.Tree.{Node}
use Rattle.yv_expand_tree.specs.Final.{spots_of}
use Rattle.yv_expand_tree.specs.FinalTree.{source_at, targets_of}
use Rattle.yv_schema.specs.InnerBasis.{NumberedBasis, nodes_in}
use Rattle.yv_schema.specs.InnerNotes.{node_of, target_of}

-- what passes a test alone is the first that does
only : {A : Type 0} (p : A → Bool) (i : ℕ) (xs : List A) (k : ℕ) (x : A) → slice_get xs k ≡ Some x → p x ≡ true
    → ((j : ℕ) (y : A) → slice_get xs j ≡ Some y → p y ≡ true → j ≡ k) → position_from p i xs ≡ Some (i + k)
only p i [] k x at is alone = cc
only p i (y ∷ ys) zero x at is alone = rw (ap p (same_Some y x at) ∙ is) (ap Some (omega (arith)))
only p i (y ∷ ys) (suc k) x at is alone =
    by (p y) refl (only p (i + 1) ys k x at is (λ j z there passes. let same = alone (suc j) z there passes in omega (arith, same)))
  where
    by : (b : Bool) → p y ≡ b → position_from p (i + 1) ys ≡ Some (i + 1 + k) → (if b then Some i else position_from p (i + 1) ys) ≡ Some (i + suc k)
    by true e others = let bad : 0 ≡ suc k = alone 0 y refl e in absurd (omega (arith, bad))
    by false e others = others ∙ ap Some (omega (arith))

module _ (b : NumberedBasis)
    (given : (place giver : ℕ) (x : Node) → slice_get (nodes_in b) place ≡ Some x → source_at (spots_of b.files b.final) b.final.augments x.origin ≡ Some giver
    → (target : ℕ) × (node : Node) × (x.parent ≡ Some target) × (slice_get (nodes_in b) target ≡ Some node)
    × (slice_index_or (targets_of b.files b.final) giver None ≡ Some node.origin))
    (once : (i k : ℕ) (x y : Node) → slice_get (nodes_in b) i ≡ Some x → slice_get (nodes_in b) k ≡ Some y → x.origin ≡ y.origin → i ≡ k) where
  -- the node of an item that is left
  node_at : (place : ℕ) (y : Node) → slice_get (nodes_in b) place ≡ Some y → node_of b y.origin ≡ Some place
  node_at place y at =
      only (λ (x : Node). x.origin == y.origin) 0 (nodes_in b) place y at (itself y.origin) (λ j z there passes. once j place z y there at (same z.origin y.origin passes))
      ∙ ap Some (omega (arith))
    where
      itself : (n : ℕ) → (n == n) ≡ true
      itself n = grind (arith, nat_tests)

      same : (m n : ℕ) → (m == n) ≡ true → m ≡ n
      same m n h = grind (arith, nat_tests)

  -- a node that an augment adds stands below the augment's target
  pub target_known : (n giver : ℕ) (x : Node) → slice_get (nodes_in b) n ≡ Some x → source_at (spots_of b.files b.final) b.final.augments x.origin ≡ Some giver
      → (q : ℕ) × (x.parent ≡ Some q) × (target_of b giver ≡ Some q)
  target_known n giver x at is =
      let found = given n giver x at is in
      (found.0, found.2, ap (option_and_then (node_of b)) found.4 ∙ node_at found.0 found.1 found.3)
