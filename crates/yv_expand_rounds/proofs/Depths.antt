-- How deep the items on the stack of a listing stand: each by one below an item that is listed
-- already.
use Rattle.std.proofs.Common.{◌≡◌, ℕ, ◌+◌, ◌≤◌, List, [], ◌∷◌, ◌++◌, length, reverse, sym, ◌∙◌, ap, subst, arith, length-append, Option, Some, None}
use Rattle.std.proofs.lemmas.List.{reverse-append}
use Rattle.yv_expand_rounds.specs.declared.row.ItemRow.{ItemRow}
use Rattle.yv_expand_rounds.specs.InnerTreeList.{under}

-- no row is deeper than this
pub data NoDeeper (n : ℕ) : List ItemRow → Type 0 where
  no_row : NoDeeper n []
  one_row : {w : ItemRow} {others : List ItemRow} → w.depth ≤ n → NoDeeper n others → NoDeeper n (w ∷ others)

both : (n : ℕ) (xs ys : List ItemRow) → NoDeeper n xs → NoDeeper n ys → NoDeeper n (xs ++ ys)
both n [] ys no_row q = q
both n (x ∷ xs) ys (one_row h p) q = one_row h (both n xs ys p q)

firsts : (n : ℕ) (xs ys : List ItemRow) → NoDeeper n (xs ++ ys) → NoDeeper n xs
firsts n [] ys p = no_row
firsts n (x ∷ xs) ys (one_row h p) = one_row h (firsts n xs ys p)

last : (n : ℕ) (xs : List ItemRow) (w : ItemRow) → NoDeeper n (xs ++ w ∷ []) → w.depth ≤ n
last n [] w (one_row h p) = h
last n (x ∷ xs) w (one_row h p) = last n xs w p

more : (n m : ℕ) (xs : List ItemRow) → n ≤ m → NoDeeper n xs → NoDeeper m xs
more n m [] l no_row = no_row
more n m (x ∷ xs) l (one_row h p) = one_row (omega (arith, h, l)) (more n m xs l p)

back : (n : ℕ) (xs : List ItemRow) → NoDeeper n xs → NoDeeper n (reverse xs)
back n [] no_row = no_row
back n (x ∷ xs) (one_row h p) = subst (NoDeeper n) (sym (reverse-append (x ∷ []) xs)) (both n (reverse xs) (x ∷ []) (back n xs p) (one_row h no_row))

all_under : (n : ℕ) (parent : Option ℕ) (depth : ℕ) (items : List ℕ) → depth ≤ n → NoDeeper n (under parent depth items)
all_under n parent depth [] l = no_row
all_under n parent depth (i ∷ items) l = one_row l (all_under n parent depth items l)

-- the first items stand at depth 1
pub no_deeper_start : (empty stack : List ItemRow) (items : List ℕ) (rows : List ItemRow) → empty ≡ [] → stack ≡ empty ++ reverse (under None 1 items)
    → NoDeeper (length rows + 1) stack
no_deeper_start empty stack items rows none is =
    subst (NoDeeper (length rows + 1)) (sym (is ∙ ap (λ l. l ++ reverse (under None 1 items)) none))
    (back (length rows + 1) (under None 1 items) (all_under (length rows + 1) None 1 items (omega arith)))

-- the item on top
pub depth_on_top : (n : ℕ) (stack popped : List ItemRow) (w : ItemRow) → stack ≡ popped ++ w ∷ [] → NoDeeper n stack → w.depth ≤ n
depth_on_top n stack popped w is p = last n popped w (subst (NoDeeper n) is p)

-- the item on top is listed, and what stands below it is put on the stack
pub no_deeper_step : (rows new_rows stack popped new : List ItemRow) (w : ItemRow) (items : List ℕ) → stack ≡ popped ++ w ∷ [] → new_rows ≡ rows ++ w ∷ []
    → new ≡ popped ++ reverse (under (Some w.number) (w.depth + 1) items) → NoDeeper (length rows + 1) stack → NoDeeper (length new_rows + 1) new
no_deeper_step rows new_rows stack popped new w items is rows_are put p =
    let whole : NoDeeper (length rows + 1) (popped ++ w ∷ []) = subst (NoDeeper (length rows + 1)) is p in
    let top : w.depth ≤ length rows + 1 = last (length rows + 1) popped w whole in
    let longer : length new_rows ≡ length rows + 1 = ap length rows_are ∙ length-append rows (w ∷ []) in
    let popped_fit : NoDeeper (length new_rows + 1) popped =
    more (length rows + 1) (length new_rows + 1) popped (omega (arith, longer)) (firsts (length rows + 1) popped (w ∷ []) whole) in
    let below_fit : NoDeeper (length new_rows + 1) (reverse (under (Some w.number) (w.depth + 1) items)) =
    back (length new_rows + 1) (under (Some w.number) (w.depth + 1) items)
    (all_under (length new_rows + 1) (Some w.number) (w.depth + 1) items (omega (arith, longer, top))) in
    subst (NoDeeper (length new_rows + 1)) (sym put) (both (length new_rows + 1) popped (reverse (under (Some w.number) (w.depth + 1) items)) popped_fit below_fit)
