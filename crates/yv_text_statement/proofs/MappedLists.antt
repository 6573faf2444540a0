-- Tests of lists that are views of others.
use Rattle.std.proofs.Common.{◌≡◌, List, [], ◌∷◌, ◌||◌, map, Bool, ap, refl}
use Rattle.std.specs.List.{list_any}

-- a test of the views is a test of the elements
pub any_mapped : {X Y : Type 0} (p : Y → Bool) (h : X → Y) (xs : List X) → list_any p (map h xs) ≡ list_any (λ x. p (h x)) xs
any_mapped p h [] = refl
any_mapped p h (x ∷ xs) = ap (λ b. p (h x) || b) (any_mapped p h xs)
