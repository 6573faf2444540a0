-- The numbers of lists, as types are put into a table.
use Rattle.std.proofs.Common.{◌≡◌, ◌<◌, ◌⊎◌, ℕ, ◌+◌, inl, inr, List, Option, Some, sym, ◌∙◌, ap, arith}
use Rattle.std.specs.Option.{option_map}
use Rattle.std.proofs.lemmas.Option.{same_Some}
use Rattle.yv_base_tables.specs.declared.table.Table.{Table}
use Rattle.yv_values.specs.Types.{Plain}
use Rattle.yv_types.specs.InnerTables.{AreBelow, AreNumbered, IsNewOrThere, entry_at, entry_of}
use Rattle.yv_types.specs.declared.table.SharedTypes.{SharedTypes}

module _ (old new : Table SharedTypes) (next : ℕ) (space : Option SharedTypes) where
  -- each place has what it had, or the new list
  abbrev pub IsPut : Type 0
  IsPut = (k : ℕ) → (entry_at new k ≡ entry_at old k) ⊎ (entry_at new k ≡ option_map entry_of space)

  -- what stands there stood somewhere before, or is new
  abbrev pub IsOld : ℕ × List Plain → Type 0
  IsOld x = (k : ℕ) × (entry_at old k ≡ Some x)

  abbrev pub IsNew : ℕ × List Plain → Type 0
  IsNew x = (x.0 ≡ next) × (option_map entry_of space ≡ Some x)

  there : (x : ℕ × List Plain) → (x.0 ≡ next) ⊎ ((k : ℕ) × (entry_at old k ≡ Some x)) → option_map entry_of space ≡ Some x → IsOld x ⊎ IsNew x
  there x (inl n) e = inr (n, e)
  there x (inr o) e = inl o

  origin : IsNewOrThere old next space → IsPut → (k : ℕ) (x : ℕ × List Plain) → entry_at new k ≡ Some x → IsOld x ⊎ IsNew x
  origin from is k x e = elim (is k) [
    | inl same ↦ inl (k, sym same ∙ e)
    | inr here ↦ let h : option_map entry_of space ≡ Some x = sym here ∙ e in there x (from x h) h
  ]

  one_of : AreNumbered old → AreBelow old next → (x y : ℕ × List Plain) → IsOld x ⊎ IsNew x → IsOld y ⊎ IsNew y → x.0 ≡ y.0 → x.1 ≡ y.1
  one_of are below x y (inl a) (inl b) e = are a.0 b.0 x y a.1 b.1 e
  one_of are below x y (inl a) (inr b) e = let l = below a.0 x a.1 in let n = b.0 in absurd (omega (arith, l, n, e))
  one_of are below x y (inr a) (inl b) e = let l = below b.0 y b.1 in let n = a.0 in absurd (omega (arith, l, n, e))
  one_of are below x y (inr a) (inr b) e = ap (λ (p : ℕ × List Plain). p.1) (same_Some x y (sym a.1 ∙ b.1))

  pub numbered_more : AreNumbered old → AreBelow old next → IsNewOrThere old next space → IsPut → AreNumbered new
  numbered_more are below from is j k x y f g e = one_of are below x y (origin from is j x f) (origin from is k y g) e

  below_of : AreBelow old next → (x : ℕ × List Plain) → IsOld x ⊎ IsNew x → x.0 < next + 1
  below_of below x (inl a) = let l = below a.0 x a.1 in omega (arith, l)
  below_of below x (inr a) = let n = a.0 in omega (arith, n)

  pub below_more : AreBelow old next → IsNewOrThere old next space → IsPut → AreBelow new (next + 1)
  below_more below from is k x f = below_of below x (origin from is k x f)
