-- The order of values in a row.
use Rattle.std.proofs.Common.{◌≡◌, ℕ, ◌+◌, List, [], ◌∷◌, length, drop, map, Ordering, refl, sym, ◌∙◌, ap, pos, min, arith, length-drop}
use Rattle.std.specs.Bool.{Decides}
use Rattle.std.specs.Cmp.Lexicographic.{slice_cmp, lists_total}
use Rattle.std.specs.Cmp.{nat_cmp_total, nat_cmp_is, tied_itself, tied_then, second_so}
use Rattle.std.specs.Ordering.{nat_cmp, ordering_then, is_eq}
use Rattle.std.specs.declared.cmp.Ordering.TheVariants.{Less, Equal, Greater}
use Rattle.yv_base_numbers.specs.declared.integer.Integer.TheVariants.{Natural, Below}
use Rattle.yv_values.specs.contracts.value.AtomOrd.TheImpl.{cmp-value}
use Rattle.yv_values.specs.declared.value.Atom.{Atom}
use Rattle.yv_values.specs.declared.value.Atom.TheVariants as atom
use Rattle.yv_values.specs.Values.{Val, whole, value_of}
use Rattle.yv_values.specs.InnerKeys.{number_of, numbers_of, row_cmp}
use Rattle.yv_values.proofs.Same.{same_keys}

-- ---- the loop over the numbers
abbrev by_numbers : List Atom → List Atom → Ordering
by_numbers xs ys = slice_cmp nat_cmp (numbers_of xs) (numbers_of ys)

ended_by : (us vs : List Atom) (m n i : ℕ) → m ≡ length us + i → n ≡ length vs + i → i ≡ min m n → nat_cmp m n ≡ by_numbers us vs
ended_by [] [] m n i e f h = sym (nat_cmp_is m n Equal (omega (arith, e, f)))
ended_by [] (v ∷ vs) m n i e f h = sym (nat_cmp_is m n Less (omega (arith, e, f)))
ended_by (u ∷ us) [] m n i e f h = sym (nat_cmp_is m n Greater (omega (arith, e, f)))
ended_by (u ∷ us) (v ∷ vs) m n i e f h = absurd (omega (arith, e, f, h))

-- one of the two rows is at its end
pub ended : (xs ys : List Atom) (i : ℕ) → i ≡ min (length xs) (length ys) → nat_cmp (length xs) (length ys) ≡ by_numbers (drop i xs) (drop i ys)
ended xs ys i h = ended_by (drop i xs) (drop i ys) (length xs) (length ys) i (omega (arith, h, length-drop i xs)) (omega (arith, h, length-drop i ys)) h

-- ---- the same by their order
abbrev number_in : Val → ℕ
number_in (whole (pos n)) = n
number_in _ = 0

number_is : (a : Atom) → number_of a ≡ number_in (value_of a)
number_is (atom.Whole (Natural n)) = refl
number_is (atom.Whole (Below n)) = refl
number_is (atom.Decimal d n) = refl
number_is (atom.DecimalBelow d n) = refl
number_is (atom.Text s) = refl
number_is (atom.Boolean b) = refl
number_is (atom.Name s) = refl
number_is (atom.Bits ss) = refl
number_is (atom.Binary v) = refl
number_is (atom.Identity s m) = refl
number_is atom.Empty = refl

numbers_are : (xs : List Atom) → numbers_of xs ≡ map number_in (map value_of xs)
numbers_are [] = refl
numbers_are (x ∷ xs) = λ i. number_is x i ∷ numbers_are xs i

tied : (xs ys : List Atom) → map value_of xs ≡ map value_of ys → by_numbers xs ys ≡ Equal
tied xs ys same =
    let one : numbers_of xs ≡ numbers_of ys = numbers_are xs ∙ ap (map number_in) same ∙ sym (numbers_are ys) in
    ap (λ ns. slice_cmp nat_cmp ns (numbers_of ys)) one ∙ tied_itself (lists_total nat_cmp_total) (numbers_of ys)

equal_then : (o r : Ordering) → o ≡ Equal → is_eq (ordering_then o r) ≡ is_eq r
equal_then o r e = ap (λ x. is_eq (ordering_then x r)) e

pub same_rows : (xs ys : List Atom) → Decides (is_eq (row_cmp xs ys)) (map value_of xs ≡ map value_of ys)
same_rows xs ys =
    let by_all = same_keys xs ys in
    (λ t. by_all.0 (second_so _ _ (tied_then (by_numbers xs ys) (slice_cmp cmp-value.it xs ys) ∙ t)), λ same. equal_then (by_numbers xs ys) (slice_cmp cmp-value.it xs ys) (tied xs ys same) ∙ by_all.1 same)
