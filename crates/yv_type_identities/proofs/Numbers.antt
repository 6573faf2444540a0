-- Numbers in sets.
use Rattle.std.proofs.Common.{◌≡◌, ℕ, ◌==◌, ◌||◌, Bool, true, false, cond, [], refl, sym, ◌∙◌, ap, eqb-true, eq-eqb}
use Rattle.std.specs.Bool.{one_answer}
use Rattle.std.specs.Ordering.{nat_cmp, is_eq}
use Rattle.std.specs.declared.cmp.Ordering.TheVariants.{Equal}
use Rattle.std.specs.Cmp.{Equal-is, nat_cmp_is}
use Rattle.std.specs.BTreeMap.{is_at}
use Rattle.std.specs.List.{list_any}
use Rattle.std.specs.BTreeSet.{BTreeSet, UpdatesBy, contains}
use Rattle.std.proofs.lemmas.Map.Lookups.{exact_unsigned}

pub is_eq_nat : (a b : ℕ) → is_eq (nat_cmp a b) ≡ (a == b)
is_eq_nat a b = one_answer (is_eq (nat_cmp a b)) (a == b)
    (λ h. exact_unsigned a b ((Equal-is (nat_cmp a b)).0 h), λ e. (Equal-is (nat_cmp a b)).1 (sym (nat_cmp_is a b Equal e)))
    (λ h. eqb-true a b h, λ e. eq-eqb a b e)

pub either : (b old : Bool) → cond b true old ≡ (old || b)
either true true = refl
either true false = refl
either false true = refl
either false false = refl

pub number_added : (old new : BTreeSet ℕ) (n : ℕ) → UpdatesBy nat_cmp (nat_cmp n) old new true → (number : ℕ) → contains nat_cmp new number ≡ (contains nat_cmp old number || (n == number))
number_added old new n u number =
    u.0 number
    ∙ ap (λ b. cond b true (contains nat_cmp old number)) (is_eq_nat n number)
    ∙ either (n == number) (contains nat_cmp old number)

pub none_in : (set : BTreeSet ℕ) (number : ℕ) → set.keys ≡ [] → contains nat_cmp set number ≡ false
none_in set number e = ap (list_any (is_at (nat_cmp number))) e
