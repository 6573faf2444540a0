-- Rows that get their types one by one, from the last one on.
use Rattle.std.proofs.Common.{◌≡◌, ◌≢◌, ℕ, zero, suc, ◌+◌, ◌≤◌, List, [], ◌∷◌, ◌++◌, length, length-append, map, Option, Some, None, option_map, slice_get, refl, sym, ap, ap₂, ◌∙◌, arith}
use Rattle.std.proofs.lemmas.Option.{slice_get_past}
use Rattle.yv_values.specs.Types.{Plain}
use Rattle.yv_nodes.specs.declared.node.NodeId.{NodeId}
use Rattle.yv_nodes.specs.Rows.{Row, blank_row, root}
use Rattle.yv_nodes.specs.NodeTypes.{typed_row, typed_rows, types_at, types_from}
use Rattle.yv_nodes.specs.InnerTypes.{with_own_types}

same : (b : Option Row) → option_map (λ (r : Row). r) b ≡ b
same None = refl
same (Some r) = refl

-- the last of these types are given to the row of their number: the others are still to be given
pub last_given : (lists : List (List Plain)) (types : List Plain) (n : ℕ) (a b : Option Row)
    → (n ≡ length lists → a ≡ option_map (typed_row types) b) → (n ≢ length lists → a ≡ b)
    → option_map (with_own_types lists n) a ≡ option_map (with_own_types (lists ++ types ∷ []) n) b
last_given [] types zero a b here elsewhere = same a ∙ here refl
last_given [] types (suc m) a b here elsewhere = ap (option_map (λ (r : Row). r)) (elsewhere (λ e. omega (arith, e)))
last_given (first ∷ lists) types zero a b here elsewhere = ap (option_map (typed_row first)) (elsewhere (λ e. omega (arith, e)))
last_given (first ∷ lists) types (suc m) a b here elsewhere =
    last_given lists types m a b (λ e. here (ap suc e)) (λ n. elsewhere (λ e. n (omega (arith, e))))

-- where none is left, all are given
pub all_given : (n : ℕ) (a : Option Row) → option_map (with_own_types [] n) a ≡ a
all_given n a = ap (λ (t : Option (List Plain)). option_map (λ (row : Row). elim t [ None ↦ row | Some types ↦ typed_row types row ]) a) (slice_get_past [] n (omega arith)) ∙ same a

some_one : (a b : Row) → Some a ≡ Some b → a ≡ b
some_one a b e = let h : Some a ≡ Some b = e in cc

-- rows that are these row by row
pub by_number : (types : ℕ → List Plain) (first : ℕ) (lists : List (List Plain)) (old new : List Row) → length lists ≡ length old → length new ≡ length old
    → ((n : ℕ) (t : List Plain) → slice_get lists n ≡ Some t → t ≡ types (first + n))
    → ((n : ℕ) → slice_get new n ≡ option_map (with_own_types lists n) (slice_get old n)) → new ≡ typed_rows types first old
by_number types first [] [] [] long short told each = refl
by_number types first (t ∷ lists) (o ∷ old) (n ∷ new) long short told each =
    ap₂ (λ (r : Row) (rs : List Row). r ∷ rs)
    (some_one n (typed_row (types first) o) (each 0 ∙ ap (λ (l : List Plain). Some (typed_row l o)) (told 0 t refl ∙ ap types (omega arith))))
    (by_number types (first + 1) lists old new (omega (arith, long)) (omega (arith, short)) (λ k l at. told (suc k) l at ∙ ap types (omega arith)) (λ k. each (suc k)))
by_number types first [] (o ∷ old) new long short told each = absurd (omega (arith, long))
by_number types first (t ∷ lists) [] new long short told each = absurd (omega (arith, long))
by_number types first [] [] (n ∷ new) long short told each = absurd (omega (arith, short))
by_number types first (t ∷ lists) (o ∷ old) [] long short told each = absurd (omega (arith, short))

pub empty : {A : Type 0} (xs : List A) → length xs ≡ 0 → xs ≡ []
empty [] none = refl
empty (x ∷ xs) none = absurd (omega (arith, none))

told_in : (rows : List Row) (origins : List NodeId) (n : ℕ) (t : List Plain) → slice_get (map (λ (o : NodeId). types_at rows o.0) origins) n ≡ Some t
    → t ≡ types_from rows origins n
told_in rows [] n t at = absurd (let bad : None ≡ Some t = sym (slice_get_past [] n (omega arith)) ∙ at in cc)
told_in rows (o ∷ origins) zero t at = let h : Some (types_at rows o.0) ≡ Some t = at in cc
told_in rows (o ∷ origins) (suc n) t at = told_in rows origins n t at

pub told_by : (rows : List Row) (origins : List NodeId) (lists : List (List Plain)) → lists ≡ map (λ (o : NodeId). types_at rows o.0) origins
    → (n : ℕ) (t : List Plain) → slice_get lists n ≡ Some t → t ≡ types_from rows origins (0 + n)
told_by rows origins lists are n t at =
    told_in rows origins n t (ap (λ ls. slice_get ls n) (sym are) ∙ at) ∙ ap (types_from rows origins) (omega arith)
