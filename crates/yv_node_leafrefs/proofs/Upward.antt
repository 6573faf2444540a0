-- Ways from their ends up.
use Rattle.std.proofs.Common.{◌≡◌, ℕ, suc, ◌+◌, ◌-◌, ◌<◌, ◌≤◌, List, [], ◌∷◌, ◌++◌, map, reverse, refl, sym, ap, arith, Option, Some, None}
use Rattle.std.proofs.lemmas.List.{append-nil, append_assoc}
use Rattle.std.specs.List.{slice_index_or}
use Rattle.std.specs.Option.{option_map}
use mathlib.Core.List.{reverse_aux}
use Rattle.yv_node_leafrefs.specs.InnerWays.{upwards}

map-onto : {A B : Type 0} (f : A → B) (xs ys : List A) → map f (reverse_aux xs ys) ≡ reverse_aux (map f xs) (map f ys)
map-onto f [] ys = refl
map-onto f (x ∷ xs) ys = map-onto f xs (x ∷ ys)

pub map-reverse : {A B : Type 0} (f : A → B) (xs : List A) → map f (reverse xs) ≡ reverse (map f xs)
map-reverse f xs = map-onto f xs []

-- what so many nodes are behind those that were found
abbrev pub behind : List ℕ → Option (List ℕ) → Option (List ℕ)
behind xs o = option_map (λ cs. xs ++ cs) o

behind_one : (xs : List ℕ) (x : ℕ) (o : Option (List ℕ)) → behind (xs ++ x ∷ []) o ≡ behind xs (option_map (λ cs. x ∷ cs) o)
behind_one xs x None = refl
behind_one xs x (Some cs) = ap Some (append_assoc xs (x ∷ []) cs)

module _ (above : List (Option ℕ)) (k i : ℕ) where
  pub ended : (xs : List ℕ) (whole : Option (List ℕ)) → i < k → behind xs (upwards above (k - i) None) ≡ whole → whole ≡ None
  ended xs whole l = rw (let e : k - i ≡ suc (k - (i + 1)) = omega arith in e) (λ h. sym h)

  pub further : (xs : List ℕ) (c : ℕ) → i < k
      → behind (xs ++ c ∷ []) (upwards above (k - (i + 1)) (slice_index_or above c None)) ≡ behind xs (upwards above (k - i) (Some c))
  further xs c l =
      rw (let e : k - i ≡ suc (k - (i + 1)) = omega arith in e)
      (behind_one xs c (upwards above (k - (i + 1)) (slice_index_or above c None)))

  pub whole : (xs : List ℕ) (place : Option ℕ) → k ≤ i → behind xs (upwards above (k - i) place) ≡ Some xs
  whole xs place l = rw (let e : k - i ≡ 0 = omega arith in e) (ap Some (append-nil xs))
