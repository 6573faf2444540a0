-- What is kept of statements, one after the other.
use Rattle.std.proofs.Common.{◌≡◌, ℕ, zero, suc, List, [], ◌∷◌, ◌++◌, length, Some, ◌⊎◌, inl, inr, refl, sym, ◌∙◌, subst, arith}
use Rattle.std.specs.List.{slice_get}
use Rattle.yv_link_scopes.specs.Files.{Files}
use Rattle.yv_node_statements.specs.declared.store.Store.{Store}
use Rattle.yv_node_statements.specs.Kinds.{TypeMeanings}
use Rattle.yv_node_statements.specs.InnerStore.{AreKept, IsKept}

-- what stands in a list with one more behind: in the list, or as the last
pub before_or_last : {X : Type 0} (xs : List X) (x : X) (k : ℕ) (y : X) → slice_get (xs ++ x ∷ []) k ≡ Some y
    → (slice_get xs k ≡ Some y) ⊎ ((k ≡ length xs) × (x ≡ y))
before_or_last [] x zero y h = inr (refl, cc)
before_or_last [] x (suc k) y h = cc
before_or_last (z ∷ zs) x zero y h = inl h
before_or_last (z ∷ zs) x (suc k) y h =
    elim (before_or_last zs x k y h) [ inl a ↦ inl a | inr b ↦ inr (let e : k ≡ length zs = b.0 in omega arith, b.1) ]

module _ (typing : TypeMeanings) (files : Files) where
  pub kept_none : AreKept typing files []
  kept_none number kept h = cc

  is_last : (n k : ℕ) (x y : Store) → IsKept typing files n x → n ≡ k → x ≡ y → IsKept typing files k y
  is_last n k x y h e f =
      let P : ℕ → Type 0 = λ m. IsKept typing files m x in
      let Q : Store → Type 0 = λ z. IsKept typing files k z in
      subst Q f (subst P e h)

  pub kept_more : (all : List Store) (x : Store) (n : ℕ) → n ≡ length all → IsKept typing files n x → AreKept typing files all
      → AreKept typing files (all ++ x ∷ [])
  kept_more all x n e last are = λ number kept h.
      elim (before_or_last all x number kept h) [ inl a ↦ are number kept a | inr b ↦ is_last n number x kept last (e ∙ sym b.0) b.1 ]
