-- Sets of steps.
use Rattle.std.proofs.Common.{◌≡◌, ℕ, List, Bool, true, false, ◌||◌, ◌&&◌, sym, ◌∙◌, ap, subst, inl, inr, Option, Some, None, refl, arith}
use Rattle.std.specs.BTreeSet.{BTreeSet, UpdatesBy}
use Rattle.std.specs.Cmp.Lexicographic.{slice_cmp}
use Rattle.std.specs.List.{list_any}
use Rattle.std.specs.Map.{AreApart, IsKeyTest}
use Rattle.std.specs.Set.{KeepsOthers}
use Rattle.std.specs.Option.{option_cmp}
use Rattle.std.specs.Ordering.{is_eq, nat_cmp, ordering_then}
use Rattle.std.specs.declared.cmp.Ordering.{Ordering}
use Rattle.std.specs.declared.cmp.Ordering.TheVariants.{Less, Equal, Greater}
use Rattle.std.specs.Rc.{rc_str_bytes}
use Rattle.std.specs.Str.{bytes_eq}
use Rattle.std.specs.declared.rc.RcStr.{RcStr}
use Rattle.std.specs.declared.alloc.Global.{Global}
use Rattle.std.proofs.lemmas.Bool.{cases_Bool}
use Rattle.std.proofs.lemmas.Bool.Decides.{nat_tests}
use Rattle.std.proofs.lemmas.Map.Text.{is_eq-slice_cmp}
use Rattle.std.proofs.lemmas.Slice.Eq.{bytes_eq-Decides}
use Rattle.yv_node_content.specs.Steps.{Step, is_module_file, is_step}
use Rattle.yv_node_content.specs.InnerNames.{has}

is_eq_then : (p q : Ordering) → is_eq (ordering_then p q) ≡ (is_eq p && is_eq q)
is_eq_then Less q = refl
is_eq_then Equal q = refl
is_eq_then Greater q = refl

module_file_is : (h g : Option ℕ) → is_eq (option_cmp nat_cmp h g) ≡ is_module_file h g
module_file_is None None = refl
module_file_is None (Some b) = refl
module_file_is (Some a) None = refl
module_file_is (Some a) (Some b) = grind (arith, nat_tests)

same_module_file : (h g : Option ℕ) → is_module_file h g ≡ true → h ≡ g
same_module_file None None e = refl
same_module_file None (Some b) e = cc
same_module_file (Some a) None e = cc
same_module_file (Some a) (Some b) e = let same : a ≡ b = grind (arith, nat_tests, e) in ap Some same

-- how a module and a name compare to others
abbrev compared : (h : Option ℕ) (n : List ℕ) (g : Option ℕ) (m : List ℕ) → Ordering
compared h n g m = ordering_then (slice_cmp nat_cmp n m) (option_cmp nat_cmp h g)

test_is : (h : Option ℕ) (n : List ℕ) (g : Option ℕ) (m : List ℕ) → is_eq (compared h n g m) ≡ (bytes_eq n m && is_module_file h g)
test_is h n g m =
    is_eq_then (slice_cmp nat_cmp n m) (option_cmp nat_cmp h g)
    ∙ ap (λ b. b && is_eq (option_cmp nat_cmp h g)) (is_eq-slice_cmp n m)
    ∙ ap (λ b. bytes_eq n m && b) (module_file_is h g)

both : (a b : Bool) → (a && b) ≡ true → (a ≡ true) × (b ≡ true)
both true b h = (refl, h)
both false b h = cc

parts : (h : Option ℕ) (n : List ℕ) (g : Option ℕ) (m : List ℕ) → (bytes_eq n m && is_module_file h g) ≡ true → (h ≡ g) × (n ≡ m)
parts h n g m e = let p = both (bytes_eq n m) (is_module_file h g) e in (same_module_file h g p.1, (bytes_eq-Decides n m).0 p.0)

module _ {K : Type 0} (eq : K → K → Bool) (test : K → Bool) where
  others_kept : (old new : List K) → KeepsOthers eq test old new → (other : K → Bool) → IsKeyTest eq other → AreApart test other → list_any other new ≡ list_any other old
  unfolding KeepsOthers
  others_kept old new h = h

-- what a set has where a step was added
pub put_step : (old new : BTreeSet (RcStr Global × Option ℕ)) (module_file : Option ℕ) (name : List ℕ)
    → UpdatesBy (λ x y. ordering_then (slice_cmp nat_cmp (rc_str_bytes x.0) (rc_str_bytes y.0)) (option_cmp nat_cmp x.1 y.1)) (λ k. ordering_then (slice_cmp nat_cmp name (rc_str_bytes k.0)) (option_cmp nat_cmp module_file k.1)) old new true
    → (h : Option ℕ) (n : List ℕ) → has new h n ≡ (is_step h n (Some (record { module_file = module_file; name = name })) || has old h n)
put_step old new module_file name u h n = elim (cases_Bool (bytes_eq n name && is_module_file h module_file)) [
  | inl same ↦
      let one = parts h n module_file name same in
      subst (λ (g : Option ℕ). has new g n ≡ true) (sym one.0) (subst (λ (t : List ℕ). has new module_file t ≡ true) (sym one.1) u.1)
      ∙ sym (ap (λ (b : Bool). b || has old h n) same)
  | inr differ ↦
      others_kept _ _ _ _ u.3 (λ k. is_eq (compared h n k.1 (rc_str_bytes k.0)))
      (λ x y e. let one = parts h n x.1 (rc_str_bytes x.0) (sym (test_is h n x.1 (rc_str_bytes x.0)) ∙ e) in
      ap (λ (g : Option ℕ). is_eq (compared g n y.1 (rc_str_bytes y.0))) one.0 ∙ ap (λ (t : List ℕ). is_eq (compared x.1 t y.1 (rc_str_bytes y.0))) one.1)
      (λ k e. let one = parts module_file name k.1 (rc_str_bytes k.0) (sym (test_is module_file name k.1 (rc_str_bytes k.0)) ∙ e) in
      ap (λ (g : Option ℕ). is_eq (compared h n g (rc_str_bytes k.0))) (sym one.0) ∙ ap (λ (t : List ℕ). is_eq (compared h n module_file t)) (sym one.1) ∙ test_is h n module_file name ∙ differ)
      ∙ sym (ap (λ (b : Bool). b || has old h n) differ)
]
