-- The paths that go on from each, as rows.
use Rattle.std.proofs.Common.{◌≡◌, ℕ, ◌<◌, ◌≤◌, zero, suc, List, [], ◌∷◌, ◌++◌, length, get_or, set, take, Some, refl, sym, ◌∙◌, ap, subst, arith}
use Rattle.std.specs.List.{slice_get}
use Rattle.std.specs.Vec.{with_items}
use Rattle.std.specs.declared.alloc.Global.{Global}
use Rattle.std.specs.declared.vec.Vec.{Vec}
use Rattle.std.proofs.Math.Seq.{take-length}
use Rattle.std.proofs.lemmas.List.{take-append-le}
use Rattle.std.proofs.lemmas.Option.{slice_get-get_or, slice_get_past}
use Rattle.yv_base_tables.specs.InnerTree.{HasRoom, branches_of, branches_in}

-- one more stands behind all
pub get_before : {A : Type 0} (xs : List A) (y : A) (k : ℕ) → k < length xs → slice_get (xs ++ y ∷ []) k ≡ slice_get xs k
get_before [] y k h = absurd (omega arith)
get_before (x ∷ xs) y zero h = refl
get_before (x ∷ xs) y (suc k) h = get_before xs y k (omega arith)

pub row_at : (rows : List (Vec ℕ Global)) (row : Vec ℕ Global) (k : ℕ) → k < length rows → row ≡ get_or rows k row → branches_in rows k ≡ row.items
row_at rows row k less is = ap branches_of (slice_get-get_or rows k row less ∙ ap Some (sym is))

pub no_row : (rows : List (Vec ℕ Global)) (k : ℕ) → length rows ≤ k → branches_in rows k ≡ []
no_row rows k past = ap branches_of (slice_get_past rows k past)

-- a row more that has nothing is as none
pub empty_row : (rows : List (Vec ℕ Global)) (row : Vec ℕ Global) (k : ℕ) → row.items ≡ [] → branches_in (rows ++ row ∷ []) k ≡ branches_in rows k
empty_row [] row zero h = h
empty_row [] row (suc k) h = refl
empty_row (r ∷ rs) row zero h = refl
empty_row (r ∷ rs) row (suc k) h = empty_row rs row k h

-- a row that is written stands there, and the others stay
pub row_set : (rows : List (Vec ℕ Global)) (row : Vec ℕ Global) (k : ℕ) → k < length rows → branches_in (set rows k row) k ≡ row.items
row_set [] row k less = absurd (omega arith)
row_set (r ∷ rs) row zero less = refl
row_set (r ∷ rs) row (suc k) less = row_set rs row k (omega arith)

pub rows_left : (rows : List (Vec ℕ Global)) (row : Vec ℕ Global) (k other : ℕ) → (other ≡ k → ⊥) → branches_in (set rows k row) other ≡ branches_in rows other
rows_left [] row k other apart = refl
rows_left (r ∷ rs) row zero zero apart = absurd (apart refl)
rows_left (r ∷ rs) row zero (suc other) apart = refl
rows_left (r ∷ rs) row (suc k) zero apart = refl
rows_left (r ∷ rs) row (suc k) (suc other) apart = rows_left rs row k other (λ e. apart (ap suc e))

-- rows that are written as a whole
pub rows_written : (rows more : List (Vec ℕ Global)) (count : ℕ) → count ≡ length rows → take count (rows ++ more) ≡ rows
rows_written rows more count is = ap (λ (n : ℕ). take n (rows ++ more)) is ∙ take-append-le (length rows) rows more (omega arith) ∙ take-length rows

-- the same paths go on from each
pub record KeepRows (old new : List (Vec ℕ Global)) : Type 0 where
  pub long : length new ≡ length old
  pub each : (k : ℕ) → branches_in new k ≡ branches_in old k

pub keep_written : (old : Vec (Vec ℕ Global) Global) (lent rows : List (Vec ℕ Global)) → lent ≡ old.items → length rows ≡ length lent
    → ((k : ℕ) → branches_in rows k ≡ branches_in lent k) → ((with_items old rows).items ≡ rows) × KeepRows old.items (with_items old rows).items
keep_written old lent rows was same kept =
    let long : length rows ≡ length old.items = same ∙ ap length was in
    let made : (with_items old rows).items ≡ rows = rows_written rows _ old.len (omega (arith, long, old.ok.0)) in (
      made,
      record {
        long = ap length made ∙ long;
        each = λ k. ap (λ (l : List (Vec ℕ Global)). branches_in l k) made ∙ kept k ∙ ap (λ (l : List (Vec ℕ Global)). branches_in l k) was;
      },
    )

-- rows that are the same keep the same
pub keep_same : (old rows new : List (Vec ℕ Global)) → KeepRows old rows → new ≡ rows → KeepRows old new
keep_same old rows new keep same = subst (KeepRows old) (sym same) keep

-- room for one more path is still there, where a row stands behind all
pub room_before : (rows : List (Vec ℕ Global)) (row : Vec ℕ Global) (front : ℕ) → front < length rows → HasRoom rows front → HasRoom (rows ++ row ∷ []) front
room_before rows row front less room = λ r at. room r (sym (get_before rows row front less) ∙ at)
