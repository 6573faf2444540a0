-- The augments of modules are in the order of their numbers, and which statements stand at the tops
-- of files and in the blocks of augments.
use Rattle.std.proofs.Common.{inl, inr, ◌≡◌, ◌≢◌, ℕ, zero, suc, ◌+◌, ◌<◌, ◌≤◌, ◌==◌, ◌&&◌, not, cond, Bool, true, false, if◌then◌else◌, List, [], ◌∷◌, ◌++◌, length, map, get_or, refl, sym, ◌∙◌, ap, subst, arith, eqb-true, eq-eqb, Some, None}
use Rattle.std.specs.List.{Contains, filter, position_from, slice_get}
use Rattle.std.proofs.lemmas.Bool.{cases_lt, false≢true, ne_eqb}
use Rattle.std.proofs.lemmas.List.Elements.{Contains-append_cases}
use Rattle.std.proofs.lemmas.Option.{same_Some, slice_get_within}
use Rattle.yv_text_statement.specs.Tree.{Forest, Then, End}
use Rattle.yv_link_scopes.specs.Files.{Briefs, Files, brief_of, module_file_at, module_file_in}
use Rattle.yv_link_scopes.specs.RowList.{bodies, body_of, roots_from, rows_of}
use Rattle.yv_link_scopes.specs.Rows.{Row, is_extended, row_list}
use Rattle.yv_link_scopes.proofs.Within.{rows_of_roots}
use Rattle.yv_expand_statements.specs.StatementBlocks.{given_at, given_before, block_of, stands_in, top_of, augments_of, is_at, is_augment}
use Rattle.yv_expand_statements.specs.StatementBlocks as blocks
use Rattle.yv_expand_uses.specs.AugmentOrder.{place_of}
use Rattle.yv_expand_tree.proofs.BlockFiles.{block_file}
use Rattle.yv_expand_tree.proofs.NodePositions.{in_lists}
use Rattle.yv_expand_laws.proofs.BlockStatements.{block_scope, filter_in, left_is, numbered_in, right_is, row_at}
use Rattle.yv_expand_laws.proofs.FoundItems.{not_none, there_first, there_later}
use Rattle.yv_expand_laws.proofs.FrameSequences.{nothing_stands}
use Rattle.yv_expand_laws.proofs.LabelsAndPaths.{there_is}

-- each number is less than all behind it
abbrev pub Rises : List ℕ → Type 0
Rises [] = Unit {0}
Rises (x ∷ xs) = ((y : ℕ) → Contains xs y → x < y) × Rises xs

pub at_there : (xs : List ℕ) (i a : ℕ) → slice_get xs i ≡ Some a → Contains xs a
at_there [] i a at = absurd (not_none at)
at_there (x ∷ xs) zero a at = subst (λ (n : ℕ). Contains (x ∷ xs) n) (same_Some x a at) (there_first x xs)
at_there (x ∷ xs) (suc i) a at = there_later x a xs (at_there xs i a at)

rises_at : (xs : List ℕ) → Rises xs → (i j a b : ℕ) → slice_get xs i ≡ Some a → slice_get xs j ≡ Some b → i < j → a < b
rises_at [] R i j a b at to l = absurd (not_none at)
rises_at (x ∷ xs) R i zero a b at to l = absurd (omega (arith, l))
rises_at (x ∷ xs) R zero (suc j) a b at to l = (let same : x ≡ a = same_Some x a at in let h = R.0 b (at_there xs j b to) in omega (arith, same, h))
rises_at (x ∷ xs) R (suc i) (suc j) a b at to l = rises_at xs R.1 i j a b at to (omega (arith, l))

-- no number is there twice
pub rises_one : (xs : List ℕ) → Rises xs → (i j a : ℕ) → slice_get xs i ≡ Some a → slice_get xs j ≡ Some a → i ≡ j
rises_one xs R i j a at to = elim (cases_lt i j) [
  | inl l ↦ (let h = rises_at xs R i j a a at to l in absurd (omega (arith, h)))
  | inr l ↦ elim (cases_lt j i) [ inl m ↦ (let h = rises_at xs R j i a a to at m in absurd (omega (arith, h))) | inr m ↦ omega (arith, l, m) ]
]

pub rises_back : (xs : List ℕ) → Rises xs → (i j a b : ℕ) → slice_get xs i ≡ Some a → slice_get xs j ≡ Some b → a < b → i < j
rises_back xs R i j a b at to less = elim (cases_lt i j) [
  | inl l ↦ l
  | inr l ↦ elim (cases_lt j i) [
    | inl m ↦ (let h = rises_at xs R j i b a to at m in absurd (omega (arith, h, less)))
    | inr m ↦ (let same : j ≡ i = omega (arith, l, m) in
        let one : a ≡ b = same_Some a b (sym at ∙ (ap (slice_get xs) (sym same) ∙ to)) in absurd (omega (arith, one, less)))
  ]
]

rises_filter : (p : ℕ → Bool) (xs : List ℕ) → Rises xs → Rises (filter p xs)
rises_filter p [] R = tt
rises_filter p (x ∷ xs) R = by (p x) (rises_filter p xs R.1)
  where
    by : (b : Bool) → Rises (filter p xs) → Rises (cond b (x ∷ filter p xs) (filter p xs))
    by true later = (λ y h. R.0 y (filter_in p xs y h).0, later)
    by false later = later

rises_append : (xs ys : List ℕ) → Rises xs → Rises ys → ((x y : ℕ) → Contains xs x → Contains ys y → x < y) → Rises (xs ++ ys)
rises_append [] ys R S less = S
rises_append (x ∷ xs) ys R S less = (
  λ y h. elim (Contains-append_cases xs ys y h) [ inl a ↦ R.0 y a | inr b ↦ less x y (there_first x xs) b ],
  rises_append xs ys R.1 S (λ a b ha hb. less a b (there_later x a xs ha) hb),
)

rises_numbers : (passes : ℕ → Row → Bool) (n : ℕ) (rs : List Row) → Rises (blocks.numbers_from passes n rs)
rises_numbers passes n [] = tt
rises_numbers passes n (r ∷ rs) = by (passes n r) (rises_numbers passes (n + 1) rs)
  where
    by : (b : Bool) → Rises (blocks.numbers_from passes (n + 1) rs) → Rises (if b then n ∷ blocks.numbers_from passes (n + 1) rs else blocks.numbers_from passes (n + 1) rs)
    by true later = (λ y h. (let x = numbered_in passes (n + 1) rs y h in let e = x.2 in omega (arith, e)), later)
    by false later = later

-- the place of a number
place_from : (n : ℕ) (xs : List ℕ) → Rises xs → (i a : ℕ) → slice_get xs i ≡ Some a → position_from (λ (x : ℕ). x == a) n xs ≡ Some (n + i)
place_from n [] R i a at = absurd (not_none at)
place_from n (x ∷ xs) R zero a at =
    ap (λ (b : Bool). cond b (Some n) (position_from (λ (y : ℕ). y == a) (n + 1) xs)) (eq-eqb x a (same_Some x a at)) ∙ ap (λ (m : ℕ). Some m) (let e : n ≡ n + 0 = omega arith in e)
place_from n (x ∷ xs) R (suc i) a at =
    let less = R.0 a (at_there xs i a at) in
    ap (λ (b : Bool). cond b (Some n) (position_from (λ (y : ℕ). y == a) (n + 1) xs)) (ne_eqb x a (λ e. omega (arith, e, less)))
    ∙ (place_from (n + 1) xs R.1 i a at ∙ ap (λ (m : ℕ). Some m) (let e : n + 1 + i ≡ n + suc i = omega arith in e))

pub place_is : (xs : List ℕ) → Rises xs → (i a : ℕ) → slice_get xs i ≡ Some a → place_of xs a ≡ Some i
place_is xs R i a at = place_from 0 xs R i a at ∙ ap (λ (m : ℕ). Some m) (let e : 0 + i ≡ i = omega arith in e)

none_from : (n : ℕ) (xs : List ℕ) (a : ℕ) → (Contains xs a → ⊥) → position_from (λ (x : ℕ). x == a) n xs ≡ None
none_from n [] a never = refl
none_from n (x ∷ xs) a never =
    ap (λ (b : Bool). cond b (Some n) (position_from (λ (y : ℕ). y == a) (n + 1) xs)) (ne_eqb x a (λ e. never (subst (λ (m : ℕ). Contains (x ∷ xs) m) e (there_first x xs))))
    ∙ none_from (n + 1) xs a (λ h. never (there_later x a xs h))

pub place_none : (xs : List ℕ) (a : ℕ) → (Contains xs a → ⊥) → place_of xs a ≡ None
place_none xs a never = none_from 0 xs a never

-- all that is listed of a file is of it
listed_file : (file scope number : ℕ) (f : Forest) (i : ℕ) (r : Row) → slice_get (row_list file scope number f) i ≡ Some r → r.file ≡ file
listed_file file scope number End i r at = absurd (not_none at)
listed_file file scope number (Then h c o) zero r at = sym (ap (λ (y : Row). y.file) (same_Some (record { file = file; scope = scope; head = h }) r at))
listed_file file scope number (Then h c o) (suc i) r at =
    let block : List Row = row_list file number (number + 1) c in
    let inner : List Row = if is_extended h.keyword then [] else block in
    elim (in_lists inner (row_list file scope (number + 1 + length inner) o) i r at) [
      | inl x ↦ by (is_extended h.keyword) x (λ at. listed_file file number (number + 1) c i r at)
      | inr x ↦ listed_file file scope (number + 1 + length inner) o x.0 r x.2
    ]
  where
    by : (b : Bool) → slice_get (if b then [] else row_list file number (number + 1) c) i ≡ Some r → (slice_get (row_list file number (number + 1) c) i ≡ Some r → r.file ≡ file) → r.file ≡ file
    by true at later = absurd (not_none at)
    by false at later = later at

body_from : (briefs : Briefs) (number n : ℕ) (ts : Files) (i : ℕ) (r : Row) → slice_get (bodies briefs number n ts) i ≡ Some r → n ≤ r.file
body_from briefs number n [] i r at = absurd (not_none at)
body_from briefs number n (t ∷ ts) i r at =
    elim (in_lists (body_of briefs number n t) (bodies briefs (number + length (body_of briefs number n t)) (n + 1) ts) i r at) [
      | inl x ↦ (let e = listed_file n (module_file_in briefs n (Some (brief_of t))) number t.children i r x in omega (arith, e))
      | inr x ↦ (let l = body_from briefs (number + length (body_of briefs number n t)) (n + 1) ts x.0 r x.2 in omega (arith, l))
    ]

-- what is of an earlier file comes before what is of a later one
bodies_follow : (briefs : Briefs) (number n : ℕ) (ts : Files) (i j : ℕ) (r q : Row) → slice_get (bodies briefs number n ts) i ≡ Some r → slice_get (bodies briefs number n ts) j ≡ Some q
    → r.file < q.file → i < j
bodies_follow briefs number n [] i j r q at to less = absurd (not_none at)
bodies_follow briefs number n (t ∷ ts) i j r q at to less =
    let body : List Row = body_of briefs number n t in
    let rest : List Row = bodies briefs (number + length body) (n + 1) ts in
    elim (in_lists body rest i r at) [
      | inl x ↦ elim (in_lists body rest j q to) [
        | inl y ↦ (
            let e = listed_file n (module_file_in briefs n (Some (brief_of t))) number t.children i r x in
            let f = listed_file n (module_file_in briefs n (Some (brief_of t))) number t.children j q y in absurd (omega (arith, e, f, less)))
        | inr y ↦ (let l = slice_get_within body i r x in let e = y.1 in omega (arith, l, e))
      ]
      | inr x ↦ elim (in_lists body rest j q to) [
        | inl y ↦ (
            let f = listed_file n (module_file_in briefs n (Some (brief_of t))) number t.children j q y in
            let l = body_from briefs (number + length body) (n + 1) ts x.0 r x.2 in absurd (omega (arith, f, l, less)))
        | inr y ↦ (
            let l = bodies_follow briefs (number + length body) (n + 1) ts x.0 y.0 r q x.2 y.2 less in
            let e = x.1 in let f = y.1 in omega (arith, l, e, f))
      ]
    ]

roots_long : (n : ℕ) (ts : Files) → length (roots_from n ts) ≡ length ts
roots_long n [] = refl
roots_long n (t ∷ ts) = (let e = roots_long (n + 1) ts in omega (arith, e))

module _ (files : Files) where
  abbrev briefs : Briefs
  briefs = map brief_of files

  abbrev rows : List Row
  rows = rows_of files

  -- a statement that stands in another's block is no root
  pub past_roots : (k : ℕ) (r : Row) → slice_get rows k ≡ Some r → r.scope ≢ k → length files ≤ k
  past_roots k r at other = elim (cases_lt k (length files)) [
    | inl l ↦ (
        let t = there_is files k l in
        absurd (other (ap (λ (y : Row). y.scope) (same_Some r (record { file = k; scope = k; head = t.0.head }) (sym at ∙ rows_of_roots files k t.0 t.1)))))
    | inr l ↦ l
  ]

  rows_follow : (j k : ℕ) (r q : Row) → slice_get rows j ≡ Some r → slice_get rows k ≡ Some q → length files ≤ j → length files ≤ k → r.file < q.file → j < k
  rows_follow j k r q at to past past' less =
      let roots : List Row = roots_from 0 files in
      let rest : List Row = bodies briefs (length files) 0 files in
      let long = roots_long 0 files in
      elim (in_lists roots rest j r at) [
        | inl x ↦ (let l = slice_get_within roots j r x in absurd (omega (arith, l, long, past)))
        | inr x ↦ elim (in_lists roots rest k q to) [
          | inl y ↦ (let l = slice_get_within roots k q y in absurd (omega (arith, l, long, past')))
          | inr y ↦ (
              let l = bodies_follow briefs (length files) 0 files x.0 y.0 r q x.2 y.2 less in
              let e = x.1 in let f = y.1 in omega (arith, l, e, f))
        ]
      ]

  -- a statement at the top of a file is of it, and stands in the block of its module's root
  pub record IsAtTop (file k : ℕ) : Type 0 where
    pub row : Row
    pub at : slice_get rows k ≡ Some row
    pub of : row.file ≡ file
    pub scope : row.scope ≡ module_file_at briefs file
    pub other : row.scope ≢ k

  pub top_in : (file k : ℕ) → Contains (top_of briefs rows file) k → IsAtTop file k
  top_in file k h =
      let x = numbered_in (λ k r. stands_in (module_file_at briefs file) k r && (r.file == file)) 0 rows k h in
      let r = x.1 in
      let inside : (stands_in (module_file_at briefs file) k r) ≡ true = left_is (stands_in (module_file_at briefs file) k r) (r.file == file) x.4 in
      record {
        row = r;
        at = ap (slice_get rows) (let e = x.2 in let f : k ≡ x.0 = omega (arith, e) in f) ∙ x.3;
        of = eqb-true r.file file (right_is (stands_in (module_file_at briefs file) k r) (r.file == file) x.4);
        scope = eqb-true r.scope (module_file_at briefs file) (left_is (r.scope == module_file_at briefs file) (not (r.scope == k)) inside);
        other = λ e. no (r.scope == k) (right_is (r.scope == module_file_at briefs file) (not (r.scope == k)) inside) (eq-eqb r.scope k e);
      }
    where
      no : (b : Bool) → not b ≡ true → b ≡ true → ⊥
      no true h e = false≢true h
      no false h e = false≢true e

  module _ (marks : List Bool) where
    given_in : (file k : ℕ) → Contains (given_at briefs rows marks file) k → Contains (top_of briefs rows file) k
    given_in file k = by (get_or marks file false)
      where
        by : (b : Bool) → Contains (if b then top_of briefs rows file else []) k → Contains (top_of briefs rows file) k
        by true h = h
        by false h = absurd (nothing_stands k h)

    before_in : (n k : ℕ) → Contains (given_before briefs rows marks n) k → (file : ℕ) × (file < n) × IsAtTop file k
    before_in zero k h = absurd (nothing_stands k h)
    before_in (suc n) k h = elim (Contains-append_cases (given_before briefs rows marks n) (given_at briefs rows marks n) k h) [
      | inl x ↦ (let r = before_in n k x in let l = r.1 in (r.0, omega (arith, l), r.2))
      | inr x ↦ (n, omega arith, top_in n k (given_in n k x))
    ]

    rises_given : (file : ℕ) → Rises (given_at briefs rows marks file)
    rises_given file = by (get_or marks file false)
      where
        by : (b : Bool) → Rises (if b then top_of briefs rows file else [])
        by true = rises_numbers (λ k r. stands_in (module_file_at briefs file) k r && (r.file == file)) 0 rows
        by false = tt

    rises_before : (n : ℕ) → Rises (given_before briefs rows marks n)
    rises_before zero = tt
    rises_before (suc n) = rises_append (given_before briefs rows marks n) (given_at briefs rows marks n) (rises_before n) (rises_given n) (λ x y hx hy. less x y (before_in n x hx) (top_in n y (given_in n y hy)))
      where
        less : (x y : ℕ) → (file : ℕ) × (file < n) × IsAtTop file x → IsAtTop n y → x < y
        less x y (file, l, p) q =
            let e = p.of in let f = q.of in
            rows_follow x y p.row q.row p.at q.at (past_roots x p.row p.at p.other) (past_roots y q.row q.at q.other) (omega (arith, e, f, l))

    abbrev augments : List ℕ
    augments = augments_of briefs rows marks

    -- the augments of modules are in order
    pub augments_rise : Rises (augments_of briefs rows marks)
    augments_rise = rises_filter (is_at is_augment rows) (given_before briefs rows marks (length briefs)) (rises_before (length briefs))

    -- each stands at the top of a file, and is an augment
    pub record IsModuleAugment (a : ℕ) : Type 0 where
      pub row : Row
      pub at : slice_get rows a ≡ Some row
      pub is : is_augment row ≡ true
      pub past : length files ≤ a

    pub augment_in : (a : ℕ) → Contains (augments_of briefs rows marks) a → IsModuleAugment a
    augment_in a h =
        let x = filter_in (is_at is_augment rows) (given_before briefs rows marks (length briefs)) a h in
        let r = row_at is_augment rows a x.1 in
        let t = (before_in (length briefs) a x.0).2 in
        record { row = r.0; at = r.1; is = r.2; past = past_roots a t.row t.at t.other }

    -- what stands in its block is of its file
    pub block_of_file : (a k : ℕ) (q r : Row) → slice_get rows a ≡ Some q → length files ≤ a → Contains (block_of rows a) k → slice_get rows k ≡ Some r → (r.scope ≡ a) × (r.file ≡ q.file)
    block_of_file a k q r at past h row =
        let b = block_scope rows a k h in
        let scope : r.scope ≡ a = ap (λ (z : Row). z.scope) (same_Some r b.0 (sym row ∙ b.1)) ∙ b.2 in
        (scope, block_file files a k q r past at row scope)
