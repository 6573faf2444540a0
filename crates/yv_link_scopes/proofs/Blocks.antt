-- The statement at the number of a statement's block is the one round it.
use Rattle.std.proofs.Common.{◌≡◌, ℕ, ◌+◌, ◌≤◌, ◌⊎◌, inl, inr, zero, suc, Bool, true, false, cond, List, [], ◌∷◌, ◌++◌, length, map, Some, refl, sym, ◌∙◌, ap, arith}
use Rattle.std.specs.List.{slice_get}
use Rattle.std.specs.Option.{option_map}
use Rattle.std.proofs.lemmas.Option.{same_Some, slice_get-map}
use Rattle.yv_text_statement.specs.Tree.{Head, Tree, Forest, Then, End, trees}
use Rattle.yv_link_scopes.specs.Files.{Files, brief_of, module_file_in, module_file_at}
use Rattle.yv_link_scopes.specs.Rows.{Row, row_list, is_extended}
use Rattle.yv_link_scopes.specs.RowList.{roots_from, bodies, body_of, rows_of, statements_in, inner_statements, statements_of}
use Rattle.yv_link_scopes.specs.Blocks.{StandsAtTop, StandsBelow, StandsIn}

-- these stand in the whole from this place on
abbrev Sits : {X : Type 0} → ℕ → List X → List X → Type 0
Sits {X} n xs whole = (i : ℕ) (x : X) → slice_get xs i ≡ Some x → slice_get whole (n + i) ≡ Some x

get_left : {X : Type 0} (xs ys : List X) (i : ℕ) (x : X) → slice_get xs i ≡ Some x → slice_get (xs ++ ys) i ≡ Some x
get_left [] ys i x e = cc
get_left (y ∷ xs) ys zero x e = e
get_left (y ∷ xs) ys (suc i) x e = get_left xs ys i x e

get_right : {X : Type 0} (xs ys : List X) (i k : ℕ) → k ≡ length xs + i → slice_get (xs ++ ys) k ≡ slice_get ys i
get_right [] ys i k e = let same : k ≡ i = omega (arith, e) in ap (slice_get ys) same
get_right (x ∷ xs) ys i zero e = absurd (omega (arith, e))
get_right (x ∷ xs) ys i (suc k) e = get_right xs ys i k (omega (arith, e))

module _ {X : Type 0} (whole : List X) where
  sits_head : (n : ℕ) (x : X) (xs : List X) → Sits n (x ∷ xs) whole → slice_get whole n ≡ Some x
  sits_head n x xs h = let same : n ≡ n + 0 = omega arith in ap (slice_get whole) same ∙ h 0 x refl

  sits_tail : (n : ℕ) (x : X) (xs : List X) → Sits n (x ∷ xs) whole → Sits (n + 1) xs whole
  sits_tail n x xs h = λ i y e. let same : n + 1 + i ≡ n + suc i = omega arith in ap (slice_get whole) same ∙ h (suc i) y e

  sits_left : (n : ℕ) (xs ys : List X) → Sits n (xs ++ ys) whole → Sits n xs whole
  sits_left n xs ys h = λ i x e. h i x (get_left xs ys i x e)

  sits_right : (n m : ℕ) (xs ys : List X) → m ≡ n + length xs → Sits n (xs ++ ys) whole → Sits m ys whole
  sits_right n m xs ys k h = λ i x e.
      let same : m + i ≡ n + (length xs + i) = omega (arith, k) in
      ap (slice_get whole) same ∙ h (length xs + i) x (get_right xs ys i (length xs + i) refl ∙ e)

-- as many of the one as of the other, and this holds of each two
abbrev Pairs : (Row → Tree → Type 0) → List Row → List Tree → Type 0
Pairs P [] [] = Unit {0}
Pairs P [] (t ∷ ts) = ⊥
Pairs P (r ∷ rs) [] = ⊥
Pairs P (r ∷ rs) (t ∷ ts) = P r t × Pairs P rs ts

module _ (P : Row → Tree → Type 0) where
  pairs_append : (rs ss : List Row) (ts us : List Tree) → Pairs P rs ts → Pairs P ss us → Pairs P (rs ++ ss) (ts ++ us)
  pairs_append [] ss [] us h g = g
  pairs_append [] ss (t ∷ ts) us h g = absurd h
  pairs_append (r ∷ rs) ss [] us h g = absurd h
  pairs_append (r ∷ rs) ss (t ∷ ts) us h g = (h.0, pairs_append rs ss ts us h.1 g)

  pairs_length : (rs : List Row) (ts : List Tree) → Pairs P rs ts → length ts ≡ length rs
  pairs_length [] [] h = refl
  pairs_length [] (t ∷ ts) h = absurd h
  pairs_length (r ∷ rs) [] h = absurd h
  pairs_length (r ∷ rs) (t ∷ ts) h = omega (arith, pairs_length rs ts h.1)

  pairs_get : (rs : List Row) (ts : List Tree) (i : ℕ) (r : Row) (t : Tree) → Pairs P rs ts → slice_get rs i ≡ Some r → slice_get ts i ≡ Some t → P r t
  pairs_get [] ts i r t h e f = cc
  pairs_get (x ∷ rs) [] i r t h e f = cc
  pairs_get (x ∷ rs) (y ∷ ts) zero r t h e f = rw (← same_Some x r e, ← same_Some y t f) h.0
  pairs_get (x ∷ rs) (y ∷ ts) (suc i) r t h e f = pairs_get rs ts i r t h.1 e f

module _ (files : Files) where
  abbrev Stands : Row → Tree → Type 0
  Stands r t = StandsAtTop files r t ⊎ StandsBelow files r t

  -- what stands in a block, where the number of the block is right, and all sits where it is
  -- numbered
  abbrev AreRight : ℕ → ℕ → ℕ → Forest → Type 0
  AreRight file scope number f =
      ((i : ℕ) (t : Tree) (h : Head) → slice_get (trees f) i ≡ Some t → Stands (record { file = file; scope = scope; head = h }) t)
      → length files ≤ number
      → Sits number (row_list file scope number f) (rows_of files)
      → Sits number (statements_in f) (statements_of files)
      → Pairs Stands (row_list file scope number f) (statements_in f)

  inner_stands : (b : Bool) (n : ℕ) (rs : List Row) (ts : List Tree) → Sits n (cond b [] rs) (rows_of files) → Sits n (cond b [] ts) (statements_of files) → (Sits n rs (rows_of files) → Sits n ts (statements_of files) → Pairs Stands rs ts) → Pairs Stands (cond b [] rs) (cond b [] ts)
  inner_stands true n rs ts h g both = tt
  inner_stands false n rs ts h g both = both h g

  block_stands : (file scope number : ℕ) (f : Forest) → AreRight file scope number f
  block_stands file scope number End = λ right past rows told. tt
  block_stands file scope number (Then h c o) = λ right past rows told.
      let b : Bool = is_extended h.keyword in
      let r : Row = record { file = file; scope = scope; head = h } in
      let s : Tree = record { head = h; children = c } in
      let inner : List Row = cond b [] (row_list file number (number + 1) c) in
      let below : List Tree = cond b [] (statements_in c) in
      let rest : List Row = row_list file scope (number + 1 + length inner) o in
      let row_at : slice_get (rows_of files) number ≡ Some r = sits_head (rows_of files) number r (inner ++ rest) rows in
      let tree_at : slice_get (statements_of files) number ≡ Some s = sits_head (statements_of files) number s (below ++ statements_in o) told in
      let rows_behind : Sits (number + 1) (inner ++ rest) (rows_of files) = sits_tail (rows_of files) number r (inner ++ rest) rows in
      let told_behind : Sits (number + 1) (below ++ statements_in o) (statements_of files) = sits_tail (statements_of files) number s (below ++ statements_in o) told in
      let inside : Pairs Stands inner below =
      inner_stands b (number + 1) (row_list file number (number + 1) c) (statements_in c)
      (sits_left (rows_of files) (number + 1) inner rest rows_behind)
      (sits_left (statements_of files) (number + 1) below (statements_in o) told_behind)
      (block_stands file number (number + 1) c (λ i t k e. inr (r, s, row_at, tree_at, (i, e), refl, past)) (omega (arith, past))) in (
        right 0 s h refl,
        pairs_append Stands inner rest below (statements_in o) inside
            (block_stands file scope (number + 1 + length inner) o
            (λ i t k e. right (suc i) t k e)
            (omega (arith, past))
            (sits_right (rows_of files) (number + 1) (number + 1 + length inner) inner rest refl rows_behind)
            (sits_right (statements_of files) (number + 1) (number + 1 + length inner) below (statements_in o) (let n : length below ≡ length inner = pairs_length Stands inner below inside in omega (arith, n)) told_behind)),
      )

  module_file_is : (n : ℕ) (t : Tree) → slice_get files n ≡ Some t → module_file_in (map brief_of files) n (Some (brief_of t)) ≡ module_file_at (map brief_of files) n
  module_file_is n t e = ap (module_file_in (map brief_of files) n) (sym (slice_get-map brief_of files n ∙ ap (option_map brief_of) e))

  bodies_stand : (number n : ℕ) (ts : Files) → Sits n ts files → length files ≤ number → Sits number (bodies (map brief_of files) number n ts) (rows_of files) → Sits number (inner_statements ts) (statements_of files) → Pairs Stands (bodies (map brief_of files) number n ts) (inner_statements ts)
  bodies_stand number n [] here past rows told = tt
  bodies_stand number n (t ∷ ts) here past rows told =
      let body : List Row = body_of (map brief_of files) number n t in
      let rest : List Row = bodies (map brief_of files) (number + length body) (n + 1) ts in
      let at : slice_get files n ≡ Some t = sits_head files n t ts here in
      let one : Pairs Stands body (statements_in t.children) =
      block_stands n (module_file_in (map brief_of files) n (Some (brief_of t))) number t.children
      (λ i u k e. inl (t, at, (i, e), module_file_is n t at))
      past
      (sits_left (rows_of files) number body rest rows)
      (sits_left (statements_of files) number (statements_in t.children) (inner_statements ts) told) in
      pairs_append Stands body rest (statements_in t.children) (inner_statements ts) one
      (bodies_stand (number + length body) (n + 1) ts (sits_tail files n t ts here) (omega (arith, past))
      (sits_right (rows_of files) number (number + length body) body rest refl rows)
      (sits_right (statements_of files) number (number + length body) (statements_in t.children) (inner_statements ts) (let m : length (statements_in t.children) ≡ length body = pairs_length Stands body (statements_in t.children) one in omega (arith, m)) told))

count_roots : (n : ℕ) (ts : Files) → length (roots_from n ts) ≡ length ts
count_roots n [] = refl
count_roots n (t ∷ ts) = omega (arith, count_roots (n + 1) ts)

past_roots : (k n : ℕ) → n ≤ k → (i : ℕ) × (k ≡ n + i)
past_roots k zero h = (k, omega arith)
past_roots zero (suc n) h = absurd (omega (arith, h))
past_roots (suc k) (suc n) h = let p = past_roots k n (omega (arith, h)) in (p.0, omega (arith, p.1))

-- each statement but the roots stands in the block of the one round it
pub statements_stand : (files : Files) (k : ℕ) → length files ≤ k → StandsIn files k
statements_stand files k past = λ r t e f.
    let roots : List Row = roots_from 0 files in
    let rest : List Row = bodies (map brief_of files) (length files) 0 files in
    let as_many : length roots ≡ length files = count_roots 0 files in
    let p = past_roots k (length files) past in
    let pairs : Pairs (Stands files) rest (inner_statements files) =
    bodies_stand files (length files) 0 files
    (λ i x e. let same : 0 + i ≡ i = omega arith in ap (slice_get files) same ∙ e)
    (omega arith)
    (λ i x e. get_right roots rest i (length files + i) (omega (arith, as_many)) ∙ e)
    (λ i x e. get_right files (inner_statements files) i (length files + i) refl ∙ e) in
    pairs_get (Stands files) rest (inner_statements files) p.0 r t pairs
    (sym (get_right roots rest p.0 k (omega (arith, p.1, as_many))) ∙ e)
    (sym (get_right files (inner_statements files) p.0 k p.1) ∙ f)
