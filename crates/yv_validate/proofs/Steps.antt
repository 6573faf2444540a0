-- How counts that stop add up, and lists that grow.
use Rattle.std.proofs.Common.{◌≡◌, ℕ, ◌+◌, List, [], ◌∷◌, ◌++◌, sym, ap, ◌∙◌, append_assoc, arith}
use Rattle.std.specs.List.{sum_by}
use Rattle.std.proofs.lemmas.List.Sums.{sum_by-cons}
use Rattle.yv_values.specs.Count.{count_up}

-- one more turn of a loop
pub steps_on : (old new here from left all : ℕ) → count_up new ≡ count_up (old + here) → from ≡ here + left → count_up (old + from) ≡ all → count_up (new + left) ≡ all
steps_on old new here from left all p e q = omega (arith, p, e, q)

-- two parts, one after the other
pub steps_both : (old mid new first second : ℕ) → count_up mid ≡ count_up (old + first) → count_up new ≡ count_up (mid + second) → count_up new ≡ count_up (old + (first + second))
steps_both old mid new first second p q = omega (arith, p, q)

-- what was added, and what is left to add
pub joins : {X : Type 0} (old here rest : List X) {new from all : List X} → new ≡ old ++ here → from ≡ here ++ rest → old ++ from ≡ all → new ++ rest ≡ all
joins old here rest added split whole = ap (λ xs. xs ++ rest) added ∙ append_assoc old here rest ∙ ap (λ xs. old ++ xs) (sym split) ∙ whole

-- two parts, one after the other
pub told_both : {X : Type 0} (old first second : List X) {mid new : List X} → mid ≡ old ++ first → new ≡ mid ++ second → new ≡ old ++ (first ++ second)
told_both old first second told rest = rest ∙ ap (λ xs. xs ++ second) told ∙ append_assoc old first second

-- two sums at once
pub sum_of_both : {X : Type 0} (f g : X → ℕ) (xs : List X) → sum_by (λ x. f x + g x) xs ≡ sum_by f xs + sum_by g xs
sum_of_both f g [] = omega arith
sum_of_both f g (x ∷ xs) = omega (arith, sum_by-cons (λ y. f y + g y) x xs, sum_by-cons f x xs, sum_by-cons g x xs, sum_of_both f g xs)

-- nothing more
pub plus_none : (old here : ℕ) → count_up (old + here) ≡ count_up (old + (here + 0))
plus_none old here = omega arith
