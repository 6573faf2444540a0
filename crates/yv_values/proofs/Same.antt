-- The comparison of atoms tells whether they are the same value.
use Rattle.std.proofs.Common.{◌≡◌, ◌<◌, ◌≤◌, Bool, true, false, ◌&&◌, List, [], ◌∷◌, length, get_or, refl, sym, ◌∙◌, ap, map, pos, negsuc, Ordering, subst, eqb, arith}
use Rattle.std.specs.Bool.{Decides}
use mathlib.Core.Bool.{beq}
use Rattle.std.specs.Cmp.Lexicographic.{pointwise, slice_cmp}
use Rattle.std.specs.Ordering.{is_eq, ordering_then}
use Rattle.std.specs.declared.cmp.Ordering.TheVariants.{Less, Equal, Greater}
use Rattle.std.specs.declared.alloc.Global.{Global}
use Rattle.std.specs.Rc.{rc_str_bytes, rc_slice_items}
use Rattle.std.specs.declared.rc.RcStr.{RcStr}
use Rattle.std.proofs.lemmas.Slice.Eq.{bytes_eq-Decides}
use Rattle.std.proofs.lemmas.Bool.Decides.{Decides-eqb}
use Rattle.yv_values.specs.Values.{whole, text, boolean, name, bits, binary, value_of, texts}
use Rattle.yv_base_numbers.specs.Numbers.{integer}
use Rattle.yv_base_numbers.specs.declared.integer.Integer.{Integer}
use Rattle.yv_base_numbers.specs.declared.integer.Integer.TheVariants.{Natural, Below}
use Rattle.yv_values.specs.declared.value.Atom.{Atom}
use Rattle.yv_values.specs.declared.value.Atom.TheVariants as atom
use Rattle.yv_base_numbers.specs.contracts.integer.IntegerPartialEq.TheImpl.{eq-value as integer_eq}
use Rattle.yv_values.specs.contracts.value.AtomPartialEq.TheImpl.{eq-value}
use Rattle.yv_values.specs.contracts.value.AtomOrd.TheImpl.{cmp-value}
use Rattle.yv_values.specs.contracts.value.AtomOrd.TheImpl.Laws.{matches_eq-law}

pub along : {P Q : Type 0} (b : Bool) → Decides b P → (P → Q) → (Q → P) → Decides b Q
along b d f g = (λ t. f (d.0 t), λ q. d.1 (g q))

pub both : {P Q : Type 0} (a b : Bool) → Decides a P → Decides b Q → Decides (a && b) (P × Q)
both true true d e = (λ t. (d.0 t, e.0 t), λ q. refl)
both true false d e = (λ t. (d.0 refl, e.0 t), λ q. e.1 q.1)
both false b d e = (λ t. absurd (cc), λ q. d.1 q.0)

pub same_bools : (a b : Bool) → Decides (beq a b) (boolean a ≡ boolean b)
same_bools true true = (λ _. refl, λ _. refl)
same_bools true false = (λ t. cc, λ t. cc)
same_bools false true = (λ t. cc, λ t. cc)
same_bools false false = (λ _. refl, λ _. refl)

pub same_integers : (m n : Integer) → Decides (integer_eq.it m n) (integer m ≡ integer n)
same_integers (Natural m) (Natural n) = along _ (Decides-eqb m n) (λ e. ap pos e) (λ e. cc)
same_integers (Below m) (Below n) = along _ (Decides-eqb m n) (λ e. ap negsuc e) (λ e. cc)
same_integers (Natural m) (Below n) = (λ t. cc, λ t. cc)
same_integers (Below m) (Natural n) = (λ t. cc, λ t. cc)

same_texts : (xs ys : List (RcStr Global)) → Decides (pointwise (λ x y. pointwise eqb (rc_str_bytes x) (rc_str_bytes y)) xs ys) (texts xs ≡ texts ys)
same_texts [] [] = (λ _. refl, λ _. refl)
same_texts [] (y ∷ ys) = (λ t. cc, λ t. cc)
same_texts (x ∷ xs) [] = (λ t. cc, λ t. cc)
same_texts (x ∷ xs) (y ∷ ys) =
    along _ (both _ _ (bytes_eq-Decides (rc_str_bytes x) (rc_str_bytes y)) (same_texts xs ys)) (λ e. let f = e.0 in let g = e.1 in cc) (λ e. (cc, cc))

pub same_atoms : (a b : Atom) → Decides (eq-value.it a b) (value_of a ≡ value_of b)
same_atoms (atom.Whole x) (atom.Whole y) = along _ (same_integers x y) (λ e. ap whole e) (λ e. cc)
same_atoms (atom.Decimal d x) (atom.Decimal e y) = along _ (both _ _ (Decides-eqb d e) (Decides-eqb x y)) (λ p. let f = p.0 in let g = p.1 in cc) (λ p. (cc, cc))
same_atoms (atom.DecimalBelow d x) (atom.DecimalBelow e y) = along _ (both _ _ (Decides-eqb d e) (Decides-eqb x y)) (λ p. let f = p.0 in let g = p.1 in cc) (λ p. (cc, cc))
same_atoms (atom.Text x) (atom.Text y) = along _ (bytes_eq-Decides (rc_str_bytes x) (rc_str_bytes y)) (λ e. ap text e) (λ e. cc)
same_atoms (atom.Boolean x) (atom.Boolean y) = same_bools x y
same_atoms (atom.Name x) (atom.Name y) = along _ (bytes_eq-Decides (rc_str_bytes x) (rc_str_bytes y)) (λ e. ap name e) (λ e. cc)
same_atoms (atom.Bits x) (atom.Bits y) = along _ (same_texts (rc_slice_items x) (rc_slice_items y)) (λ e. ap bits e) (λ e. cc)
same_atoms (atom.Binary x) (atom.Binary y) = along _ (bytes_eq-Decides (rc_slice_items x) (rc_slice_items y)) (λ e. ap binary e) (λ e. cc)
same_atoms (atom.Identity x m) (atom.Identity y n) =
    along _ (both _ _ (bytes_eq-Decides (rc_str_bytes x) (rc_str_bytes y)) (bytes_eq-Decides (rc_str_bytes m) (rc_str_bytes n))) (λ p. let f = p.0 in let g = p.1 in cc) (λ p. (cc, cc))
same_atoms atom.Empty atom.Empty = (λ _. refl, λ _. refl)
same_atoms _ _ = (λ t. cc, λ t. cc)

pub then_equal : (o r : Ordering) → is_eq (ordering_then o r) ≡ (is_eq o && is_eq r)
then_equal Less r = refl
then_equal Equal r = refl
then_equal Greater r = refl

-- the same by the order of atoms
ordered_atoms : (a b : Atom) → Decides (is_eq (cmp-value.it a b)) (value_of a ≡ value_of b)
ordered_atoms a b = subst (λ t. Decides t (value_of a ≡ value_of b)) (matches_eq-law a b) (same_atoms a b)

pub same_keys : (xs ys : List Atom) → Decides (is_eq (slice_cmp cmp-value.it xs ys)) (map value_of xs ≡ map value_of ys)
same_keys [] [] = (λ _. refl, λ _. refl)
same_keys [] (y ∷ ys) = (λ t. cc, λ t. cc)
same_keys (x ∷ xs) [] = (λ t. cc, λ t. cc)
same_keys (x ∷ xs) (y ∷ ys) =
    rw then_equal (along _ (both _ _ (ordered_atoms x y) (same_keys xs ys)) (λ p. let f = p.0 in let g = p.1 in cc) (λ p. (cc, cc)))

-- a key of one atom
pub one_atom : (xs : List Atom) (a b : Atom) (t : Bool) → 1 ≤ length xs → length xs < 2 → a ≡ get_or xs 0 a → t ≡ eq-value.it a b → Decides t (map value_of xs ≡ value_of b ∷ [])
one_atom [] a b t low high is e = absurd (omega (arith, low))
one_atom (x ∷ []) a b t low high is e =
    let same : Decides t (value_of a ≡ value_of b) = subst (λ (u : Bool). Decides u (value_of a ≡ value_of b)) (sym e) (same_atoms a b) in
    along t same (λ h. ap (λ (y : Atom). value_of y ∷ []) (sym is) ∙ ap (λ v. v ∷ []) h) (λ h. ap value_of is ∙ (let g : value_of x ≡ value_of b = cc in g))
one_atom (x ∷ y ∷ ys) a b t low high is e = absurd (omega (arith, high))
