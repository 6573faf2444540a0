-- What statements say, read one by one.
use Rattle.std.proofs.Common.{◌≡◌, ℕ, zero, suc, List, [], ◌∷◌, ◌++◌, length, Some, None, inl, inr, ◌⊎◌, refl, sym, ap, ◌∙◌}
use Rattle.std.specs.List.{slice_get}
use Rattle.yv_link_scopes.specs.Files.{Files}
use Rattle.yv_node_properties.specs.Marks.{stated_of}
use Rattle.yv_node_properties.specs.Properties.{said_at}
use Rattle.yv_node_properties.specs.declared.properties.StatedProperties.{StatedProperties}
use Rattle.yv_expand_changes.specs.InnerProperties.{AreSaid}

-- what stands in a list with one more at its end stood there, or is that one
at_end : {A : Type 0} (xs : List A) (x y : A) (k : ℕ) → slice_get (xs ++ x ∷ []) k ≡ Some y → (slice_get xs k ≡ Some y) ⊎ ((k ≡ length xs) × (x ≡ y))
at_end [] x y zero h = inr (refl, (let e : Some x ≡ Some y = h in cc))
at_end [] x y (suc k) h = absurd (let bad : None ≡ Some y = h in cc)
at_end (z ∷ xs) x y zero h = inl h
at_end (z ∷ xs) x y (suc k) h = elim (at_end xs x y k h) [ inl a ↦ inl a | inr b ↦ inr (ap suc b.0, b.1) ]

pub said_more : (files : Files) (each : List StatedProperties) (x : StatedProperties) (n : ℕ) → n ≡ length each → x ≡ stated_of (said_at files n) → AreSaid files each
    → AreSaid files (each ++ x ∷ [])
said_more files each x n long is are = λ k s at. elim (at_end each x s k at) [
  | inl there ↦ are k s there
  | inr last ↦ sym last.1 ∙ is ∙ ap (λ (m : ℕ). stated_of (said_at files m)) (long ∙ sym last.0)
]
