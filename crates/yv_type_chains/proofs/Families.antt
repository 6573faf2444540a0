-- The types in each block, as numbers by their places.
use Rattle.std.proofs.Common.{◌≡◌, ℕ, ◌+◌, ◌<◌, ◌≤◌, ◌==◌, ◌&&◌, inl, inr, nat_lt, zero, suc, Bool, true, false, cond, List, [], ◌∷◌, ◌++◌, length, take, get_or, refl, sym, ◌∙◌, ap, arith, Option, Some, None, add-one, eqb-true, length-append}
use Rattle.std.specs.List.{slice_get}
use Rattle.std.proofs.lemmas.Bool.{cases_lt, ltb-true}
use Rattle.std.proofs.lemmas.Option.{same_Some}
use Rattle.yv_base_tables.specs.Families.{by_place, is_place, numbers_at, numbers_from}
use Rattle.yv_link_scopes.specs.Rows.{Row}
use Rattle.yv_link_definitions.specs.Refers.{is_type}
use Rattle.yv_type_chains.specs.Types.{is_inner, types_from, types_in}
use Rattle.yv_type_chains.specs.InnerBlocks.{block_of, blocks_from}

blocks_next : (n i : ℕ) (rows : List Row) (r : Row) → slice_get rows i ≡ Some r → blocks_from n (take (suc i) rows) ≡ blocks_from n (take i rows) ++ block_of (n + i) r ∷ []
blocks_next n i [] r at = cc
blocks_next n zero (s ∷ rows) r at =
    let k : n ≡ n + 0 = omega arith in
    ap (λ x. block_of n x ∷ []) (same_Some s r at) ∙ ap (λ m. block_of m r ∷ []) k
blocks_next n (suc i) (s ∷ rows) r at =
    let k : n + 1 + i ≡ n + suc i = omega arith in
    ap (λ xs. block_of n s ∷ xs) (blocks_next (n + 1) i rows r at)
    ∙ ap (λ m. block_of n s ∷ (blocks_from (n + 1) (take i rows) ++ block_of m r ∷ [])) k

-- one more statement
pub blocks_more : (i : ℕ) (rows : List Row) (r : Row) → slice_get rows i ≡ Some r → blocks_from 0 (take (i + 1) rows) ≡ blocks_from 0 (take i rows) ++ block_of i r ∷ []
blocks_more i rows r at =
    let k : 0 + i ≡ i = omega arith in
    ap (λ m. blocks_from 0 (take m rows)) (add-one i) ∙ blocks_next 0 i rows r at ∙ ap (λ m. blocks_from 0 (take i rows) ++ block_of m r ∷ []) k

chosen : (b : Bool) (scope block n : ℕ) (xs ys : List ℕ) → xs ≡ ys → cond (is_place block (cond b (Some scope) None)) (n ∷ xs) xs ≡ cond (b && (scope == block)) (n ∷ []) [] ++ ys
chosen true scope block n xs ys e = by (scope == block)
  where
    by : (t : Bool) → cond t (n ∷ xs) xs ≡ cond t (n ∷ []) [] ++ ys
    by true = ap (λ l. n ∷ l) e
    by false = e
chosen false scope block n xs ys e = e

numbers_are : (block n : ℕ) (rows : List Row) → numbers_from block n (blocks_from n rows) ≡ types_from block n rows
numbers_are block n [] = refl
numbers_are block n (r ∷ rows) =
    chosen (is_inner n r) r.scope block n (numbers_from block (n + 1) (blocks_from (n + 1) rows)) (types_from block (n + 1) rows) (numbers_are block (n + 1) rows)

not_in : (t : Bool) (scope block n : ℕ) → n ≤ block → ((t && nat_lt scope n) && (scope == block)) ≡ false
not_in false scope block n h = refl
not_in true scope block n h = by (nat_lt scope n) (scope == block) refl refl
  where
    by : (a b : Bool) → nat_lt scope n ≡ a → (scope == block) ≡ b → (a && b) ≡ false
    by false b e f = refl
    by true false e f = refl
    by true true e f =
        let less = ltb-true scope n e in
        let same = eqb-true scope block f in
        absurd (omega (arith, h, less, same))

-- no type stands in a block that isn't there
none_past : (block n : ℕ) (rows : List Row) → n + length rows ≤ block → types_from block n rows ≡ []
none_past block n [] h = refl
none_past block n (r ∷ rows) h =
    ap (λ b. cond b (n ∷ []) [] ++ types_from block (n + 1) rows) (not_in (is_type r) r.scope block n (omega (arith, h)))
    ∙ none_past block (n + 1) rows (omega (arith, h))

length_blocks : (n : ℕ) (rows : List Row) → length (blocks_from n rows) ≡ length rows
length_blocks n [] = refl
length_blocks n (r ∷ rows) = ap suc (length_blocks (n + 1) rows)

length_by : (places : List (Option ℕ)) (count : ℕ) → length (by_place places count) ≡ count
length_by places zero = refl
length_by places (suc count) = length-append (by_place places count) (numbers_at places count ∷ []) ∙ (let e = length_by places count in omega (arith, e))

past_end : (xs : List (List ℕ)) (k : ℕ) → length xs ≤ k → get_or xs k [] ≡ []
past_end [] k h = refl
past_end (x ∷ xs) zero h = absurd (omega (arith, h))
past_end (x ∷ xs) (suc k) h = past_end xs k (omega (arith, h))

-- the numbers at the place of a block are the types in it
pub family : (rows : List Row) (blocks : List (Option ℕ)) (count : ℕ) (families : List (List ℕ))
    → ((places : List (Option ℕ)) (count place : ℕ) → place < count → get_or (by_place places count) place [] ≡ numbers_at places place)
    → blocks ≡ blocks_from 0 rows → count ≡ length blocks → families ≡ by_place blocks count → (block : ℕ) → get_or families block [] ≡ types_in rows block
family rows blocks count families law is each made block =
    let few : count ≡ length rows = each ∙ ap length is ∙ length_blocks 0 rows in
    ap (λ (xs : List (List ℕ)). get_or xs block []) made ∙ elim (cases_lt block count) [
      | inl low ↦ law blocks count block low ∙ ap (λ (ps : List (Option ℕ)). numbers_at ps block) is ∙ numbers_are block 0 rows
      | inr up ↦ past_end (by_place blocks count) block (let e = length_by blocks count in omega (arith, e, up)) ∙ sym (none_past block 0 rows (omega (arith, few, up)))
    ]
