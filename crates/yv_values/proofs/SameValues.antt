-- The comparison of values tells whether they are the same.
use Rattle.std.proofs.Common.{◌≡◌, ℕ, List, [], ◌∷◌, refl, ap}
use Rattle.std.specs.Bool.{Decides}
use Rattle.std.specs.Cmp.Lexicographic.{pointwise}
use Rattle.std.specs.Str.{bytes_eq}
use Rattle.std.proofs.lemmas.Slice.Eq.{bytes_eq-Decides}
use Rattle.std.proofs.lemmas.Bool.Decides.{Decides-eqb, Decides-int_eq}
use Rattle.yv_values.specs.Same.{same_value, same_values}
use Rattle.yv_values.specs.Values.{Val, whole, decimal, text, boolean, name, bits, binary, identity, empty}
use Rattle.yv_values.proofs.Same.{along, both, same_bools}

same_names : (xs ys : List (List ℕ)) → Decides (pointwise bytes_eq xs ys) (xs ≡ ys)
same_names [] [] = (λ _. refl, λ _. refl)
same_names [] (y ∷ ys) = (λ t. cc, λ t. cc)
same_names (x ∷ xs) [] = (λ t. cc, λ t. cc)
same_names (x ∷ xs) (y ∷ ys) = along _ (both _ _ (bytes_eq-Decides x y) (same_names xs ys)) (λ e. let f = e.0 in let g = e.1 in cc) (λ e. (cc, cc))

pub same_value-Decides : (v w : Val) → Decides (same_value v w) (v ≡ w)
same_value-Decides (whole x) (whole y) = along _ (Decides-int_eq x y) (λ e. ap whole e) (λ e. cc)
same_value-Decides (decimal d x) (decimal e y) = along _ (both _ _ (Decides-eqb d e) (Decides-int_eq x y)) (λ p. let f = p.0 in let g = p.1 in cc) (λ p. (cc, cc))
same_value-Decides (text x) (text y) = along _ (bytes_eq-Decides x y) (λ e. ap text e) (λ e. cc)
same_value-Decides (boolean x) (boolean y) = same_bools x y
same_value-Decides (name x) (name y) = along _ (bytes_eq-Decides x y) (λ e. ap name e) (λ e. cc)
same_value-Decides (bits xs) (bits ys) = along _ (same_names xs ys) (λ e. ap bits e) (λ e. cc)
same_value-Decides (binary x) (binary y) = along _ (bytes_eq-Decides x y) (λ e. ap binary e) (λ e. cc)
same_value-Decides (identity m x) (identity n y) =
    along _ (both _ _ (bytes_eq-Decides m n) (bytes_eq-Decides x y)) (λ p. let f = p.0 in let g = p.1 in cc) (λ p. (cc, cc))
same_value-Decides empty empty = (λ _. refl, λ _. refl)
same_value-Decides _ _ = (λ t. cc, λ t. cc)

pub same_values-Decides : (vs ws : List Val) → Decides (same_values vs ws) (vs ≡ ws)
same_values-Decides [] [] = (λ _. refl, λ _. refl)
same_values-Decides [] (y ∷ ys) = (λ t. cc, λ t. cc)
same_values-Decides (x ∷ xs) [] = (λ t. cc, λ t. cc)
same_values-Decides (x ∷ xs) (y ∷ ys) = along _ (both _ _ (same_value-Decides x y) (same_values-Decides xs ys)) (λ p. let f = p.0 in let g = p.1 in cc) (λ p. (cc, cc))
