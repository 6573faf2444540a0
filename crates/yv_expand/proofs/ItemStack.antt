-- Items on a stack, whose parents are listed already, and the expansion as it grows.
use Rattle.std.proofs.Common.{◌≡◌, ℕ, ◌+◌, ◌<◌, ◌≤◌, List, [], ◌∷◌, ◌++◌, length, reverse, sym, ◌∙◌, ap, subst, arith, append_assoc, length-append, Option, Some, None}
use Rattle.std.proofs.lemmas.List.{reverse-append, reverse-reverse, append-nil, length-map, length-reverse}
use Rattle.std.specs.Result.{OnErr}
use Rattle.std.specs.Prelude.{Result, Ok, Err}
use Rattle.std.proofs.lemmas.Option.{same_Some}
use Rattle.yv_link_scopes.specs.Files.{Briefs}
use Rattle.yv_link_scopes.specs.Rows.{Row}
use Rattle.yv_expand_statements.specs.declared.origin.Origin.{Origin}
use Rattle.yv_expand_statements.specs.declared.origin.Origin.TheVariants.{Statement}
use Rattle.yv_expand.specs.Tree.{Tree, Item, count, item_list}
use Rattle.yv_expand.specs.InnerItems.{Give, no_more, one_more, StandBelow, items_below, origins, item_at}
use Rattle.yv_expand.proofs.Listing.{longer}
use Rattle.yv_expand.proofs.PendingItems.{Pends, pends_start, pends_step}

abbrev pub Lengths : Type 0
Lengths = (parent : Option ℕ) (first : ℕ) (t : Tree) → length (item_list parent first t) ≡ count t

pub on_err_of : {A E P : Type 0} (r : Result A E) → P → OnErr r P
on_err_of (Ok a) p = tt
on_err_of (Err e) p = p

pub length_origins : (numbers : List ℕ) → length (origins numbers) ≡ length numbers
length_origins numbers = length-map numbers Statement

abbrev pub IsBelow : ℕ → Option ℕ → Type 0
IsBelow n parent = (p : ℕ) → parent ≡ Some p → p < n

-- the parents of all have numbers below this
pub data ParentsBelow (n : ℕ) : List Item → Type 0 where
  no_one : ParentsBelow n []
  one_item : {a : Item} {others : List Item} → IsBelow n a.parent → ParentsBelow n others → ParentsBelow n (a ∷ others)

below_both : (n : ℕ) (xs ys : List Item) → ParentsBelow n xs → ParentsBelow n ys → ParentsBelow n (xs ++ ys)
below_both n [] ys no_one q = q
below_both n (x ∷ xs) ys (one_item h p) q = one_item h (below_both n xs ys p q)

below_first : (n : ℕ) (xs ys : List Item) → ParentsBelow n (xs ++ ys) → ParentsBelow n xs
below_first n [] ys p = no_one
below_first n (x ∷ xs) ys (one_item h p) = one_item h (below_first n xs ys p)

below_last : (n : ℕ) (xs : List Item) (a : Item) → ParentsBelow n (xs ++ a ∷ []) → IsBelow n a.parent
below_last n [] a (one_item h p) = h
below_last n (x ∷ xs) a (one_item h p) = below_last n xs a p

below_more : (n m : ℕ) (xs : List Item) → n ≤ m → ParentsBelow n xs → ParentsBelow m xs
below_more n m [] l no_one = no_one
below_more n m (x ∷ xs) l (one_item h p) = one_item (λ q e. omega (arith, h q e, l)) (below_more n m xs l p)

below_back : (n : ℕ) (xs : List Item) → ParentsBelow n xs → ParentsBelow n (reverse xs)
below_back n [] no_one = no_one
below_back n (x ∷ xs) (one_item h p) =
    subst (ParentsBelow n) (sym (reverse-append (x ∷ []) xs)) (below_both n (reverse xs) (x ∷ []) (below_back n xs p) (one_item h no_one))

below_items : (n : ℕ) (parent : Option ℕ) (these : List Origin) → IsBelow n parent → ParentsBelow n (items_below parent these)
below_items n parent [] h = no_one
below_items n parent (o ∷ os) h = one_item h (below_items n parent os h)

none_below : (n : ℕ) → IsBelow n None
none_below n p e = absurd (let bad : None ≡ Some p = e in cc)

-- the first items
pub below_start : (n : ℕ) (these : List Origin) (empty stack : List Item) → empty ≡ [] → stack ≡ empty ++ reverse (items_below None these) → ParentsBelow n stack
below_start n these empty stack none is =
    subst (ParentsBelow n) (sym (is ∙ ap (λ l. l ++ reverse (items_below None these)) none)) (below_back n (items_below None these) (below_items n None these (none_below n)))

-- the item on top
pub below_top : (n : ℕ) (stack popped : List Item) (a : Item) → stack ≡ popped ++ a ∷ [] → ParentsBelow n stack → IsBelow n a.parent
below_top n stack popped a is p = below_last n popped a (subst (ParentsBelow n) is p)

-- those that are left, with those below the item
pub below_step : (n m : ℕ) (stack popped new : List Item) (a : Item) (these : List Origin) → m ≡ n + 1 → stack ≡ popped ++ a ∷ [] → new ≡ popped ++ reverse (items_below (Some n) these) → ParentsBelow n stack → ParentsBelow m new
below_step n m stack popped new a these next is more p =
    let left : ParentsBelow m popped = below_more n m popped (omega (arith, next)) (below_first n popped (a ∷ []) (subst (ParentsBelow n) is p)) in
    let parent : IsBelow m (Some n) = λ q e. (let same : n ≡ q = same_Some n q e in omega (arith, same, next)) in
    subst (ParentsBelow m) (sym more) (below_both m popped (reverse (items_below (Some n) these)) left (below_back m (items_below (Some n) these) (below_items m (Some n) these parent)))

back_put : (popped new xs : List Item) → new ≡ popped ++ reverse xs → reverse new ≡ xs ++ reverse popped
back_put popped new xs e = ap reverse e ∙ reverse-append popped (reverse xs) ∙ ap (λ l. l ++ reverse popped) (reverse-reverse xs)

module _ (files : Briefs) (rows : List Row) where
  -- what was listed with what is still to be listed is the whole
  abbrev pub Whole : List Item → List Item → List Item → Type 0
  Whole stack items whole = (rest : List Item) × Pends files rows (reverse stack) (length items) rest × (items ++ rest ≡ whole)

  pub whole_start : (these : List Origin) (t : Tree) (empty stack items : List Item) → empty ≡ [] → stack ≡ empty ++ reverse (items_below None these)
      → Give files rows these t → Whole stack items (items ++ item_list None (length items) t)
  whole_start these t empty stack items none is g =
      let order : reverse stack ≡ items_below None these ++ [] =
      back_put empty stack (items_below None these) is ∙ ap (λ l. items_below None these ++ reverse l) none in
      let rest : List Item = item_list None (length items) t in
      let pends : Pends files rows (items_below None these ++ []) (length items) (rest ++ []) = pends_start files rows these t (length items) g in (
        rest ++ [],
        subst (λ (l : List Item). Pends files rows l (length items) (rest ++ [])) (sym order) pends,
        ap (λ l. items ++ l) (append-nil rest),
      )

  pub whole_step : (a : Item) (items items' whole stack popped new : List Item) → stack ≡ popped ++ a ∷ [] → items' ≡ items ++ a ∷ []
      → ((these : List Origin) → StandBelow files rows a.origin these → new ≡ popped ++ reverse (items_below (Some (length items)) these))
      → Whole stack items whole → Whole new items' whole
  whole_step a items items' whole stack popped new pop added put (rest, pends, same) =
      let order : reverse stack ≡ a ∷ reverse popped = ap reverse pop ∙ reverse-append popped (a ∷ []) in
      let now : Pends files rows (a ∷ reverse popped) (length items) rest = subst (λ (l : List Item). Pends files rows l (length items) rest) order pends in
      let (inner, stands, more, later, split) = pends_step files rows a (length items) (reverse popped) rest now in
      let next : length items + 1 ≡ length items' = sym (ap length added ∙ longer items a) in
      let turned : reverse new ≡ items_below (Some (length items)) inner ++ reverse popped =
      back_put popped new (items_below (Some (length items)) inner) (put inner stands) in (
        more,
        subst (λ (l : List Item). Pends files rows l (length items') more) (sym turned)
            (subst (λ (n : ℕ). Pends files rows (items_below (Some (length items)) inner ++ reverse popped) n more) next later),
        ap (λ l. l ++ more) added ∙ append_assoc items (a ∷ []) more ∙ ap (λ l. items ++ l) (sym split) ∙ same,
      )

  -- where an item is still to be listed, the whole has room for it
  pub whole_room : Lengths → (a : Item) (items old stack popped : List Item) (t : Tree) → stack ≡ popped ++ a ∷ []
      → Whole stack items (old ++ item_list None (length old) t) → length items < length old + count t
  whole_room lengths a items old stack popped t pop (rest, pends, same) =
      let order : reverse stack ≡ a ∷ reverse popped = ap reverse pop ∙ reverse-append popped (a ∷ []) in
      let now : Pends files rows (a ∷ reverse popped) (length items) rest = subst (λ (l : List Item). Pends files rows l (length items) rest) order pends in
      let (inner, stands, more, later, split) = pends_step files rows a (length items) (reverse popped) rest now in
      let long : length items + length rest ≡ length old + length (item_list None (length old) t) =
      sym (length-append items rest) ∙ ap length same ∙ length-append old (item_list None (length old) t) in
      let one : length rest ≡ length (a ∷ more) = ap length split in
      let all : length (item_list None (length old) t) ≡ count t = lengths None (length old) t in
      omega (arith, long, one, all)

  -- as many items are still to be listed as pend
  pends_many : (xs : List Item) (i : ℕ) (items : List Item) → Pends files rows xs i items → length xs ≤ length items
  pends_many [] i items none = omega arith
  pends_many (a ∷ others) i items (inner, below, rest, s, g, p, same) =
      let long : length items ≡ length (a ∷ (item_list (Some i) (i + 1) below ++ rest)) = ap length same in
      omega (arith, pends_many others (i + 1 + count below) rest p, long, length-append (item_list (Some i) (i + 1) below) rest)

  -- those at the top are no more than all
  pub give_many : (these : List Origin) (t : Tree) → Give files rows these t → length these ≤ count t
  give_many [] t no_more = omega arith
  give_many (o ∷ os) t (one_more {inner = inner} {below = below} {behind = behind} s g h) = omega (arith, give_many os behind h)

  -- where an item is taken from the stack, the whole has room for what is left there with what
  -- stands below it
  pub stack_room : Lengths → (a : Item) (items old stack popped : List Item) (t : Tree) → stack ≡ popped ++ a ∷ []
      → Whole stack items (old ++ item_list None (length old) t)
      → (inner : List Origin) × StandBelow files rows a.origin inner × (length popped + length inner < length old + count t)
  stack_room lengths a items old stack popped t pop (rest, pends, same) =
      let order : reverse stack ≡ a ∷ reverse popped = ap reverse pop ∙ reverse-append popped (a ∷ []) in
      let now : Pends files rows (a ∷ reverse popped) (length items) rest = subst (λ (l : List Item). Pends files rows l (length items) rest) order pends in
      let (inner, stands, more, later, split) = pends_step files rows a (length items) (reverse popped) rest now in
      let long : length items + length rest ≡ length old + length (item_list None (length old) t) =
      sym (length-append items rest) ∙ ap length same ∙ length-append old (item_list None (length old) t) in
      let one : length rest ≡ length (a ∷ more) = ap length split in
      let all : length (item_list None (length old) t) ≡ count t = lengths None (length old) t in
      let many = pends_many (items_below (Some (length items)) inner ++ reverse popped) (length items + 1) more later in
      let both = length-append (items_below (Some (length items)) inner) (reverse popped) in
      (inner, stands, omega (arith, long, one, all, many, both, length-map inner (item_at (Some (length items))), length-reverse popped))
