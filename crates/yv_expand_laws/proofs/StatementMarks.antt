-- The marks of statements are those of their numbered conditions.
use Rattle.std.proofs.Common.{inl, inr, ◌⊎◌, ◌≡◌, ◌≢◌, ℕ, zero, suc, ◌+◌, ◌<◌, ◌≤◌, ◌==◌, ◌&&◌, ◌||◌, not, Bool, true, false, if◌then◌else◌, List, [], ◌∷◌, ◌++◌, length, map, length-append, refl, sym, ◌∙◌, ap, subst, arith, codes, eqb-true, eq-eqb, Option, Some, None}
use Rattle.std.specs.List.{list_all, slice_get}
use Rattle.std.specs.Option.{option_map}
use Rattle.std.proofs.lemmas.Bool.{cases_lt, false≢true}
use Rattle.std.proofs.lemmas.Option.{same_Some, slice_get-map, slice_get_within}
use Rattle.yv_text_statement.specs.Tree.{End, Forest, Head, Then, Tree, name_of, trees}
use Rattle.yv_link_scopes.specs.Files.{Briefs, Files, brief_of, has_word, module_file_at, module_file_in}
use Rattle.yv_link_scopes.specs.RowList.{bodies, body_of, inner_statements, roots_from, rows_of, statements_in, statements_of}
use Rattle.yv_link_scopes.specs.Rows.{Row, is_extended, row_list, name_in}
use Rattle.yv_link_scopes.proofs.Blocks.{statements_stand}
use Rattle.yv_link_scopes.proofs.Bodies.{module_file_at_within}
use Rattle.yv_link_scopes.proofs.StatementTraversal.{heads_same}
use Rattle.yv_link_scopes.proofs.Within.{rows_of_roots}
use Rattle.yv_link_features.specs.On.{AllHoldBy}
use Rattle.yv_base_graph.specs.Marks.{is_marked}
use Rattle.yv_expand_statements.specs.Truth.{Truth}
use Rattle.yv_expand_changes.specs.IfFeatures.{is_on, marks_of}
use Rattle.yv_expand_tree.proofs.BlockFiles.{block_file}
use Rattle.yv_expand_tree.proofs.NodePositions.{in_lists}
use Rattle.yv_expand_laws.specs.Conditions.{MarksAreConditions}
use Rattle.yv_expand_laws.proofs.BlockStatements.{left_is, right_is}
use Rattle.yv_expand_laws.proofs.FoundItems.{not_none}
use Rattle.yv_expand_laws.proofs.LabelsAndPaths.{there_is}

-- as many rows as statements
abbrev inner_of : {A : Type 0} → Bool → List A → List A
inner_of b xs = if b then [] else xs

as_many : (file scope number : ℕ) (f : Forest) → length (row_list file scope number f) ≡ length (statements_in f)
as_many file scope number End = refl
as_many file scope number (Then h c o) = by (is_extended h.keyword) (as_many file number (number + 1) c) (λ n. as_many file scope n o)
  where
    by : (b : Bool) → length (row_list file number (number + 1) c) ≡ length (statements_in c)
        → ((n : ℕ) → length (row_list file scope n o) ≡ length (statements_in o))
        → suc (length (inner_of b (row_list file number (number + 1) c) ++ row_list file scope (number + 1 + length (inner_of b (row_list file number (number + 1) c))) o))
        ≡ suc (length (inner_of b (statements_in c) ++ statements_in o))
    by true below beside = (let e = beside (number + 1 + 0) in omega (arith, e))
    by false below beside =
        let a = length-append (row_list file number (number + 1) c) (row_list file scope (number + 1 + length (row_list file number (number + 1) c)) o) in
        let b = length-append (statements_in c) (statements_in o) in
        let e = beside (number + 1 + length (row_list file number (number + 1) c)) in
        omega (arith, a, b, e, below)

module _ (whole : List Row) where
  -- these stand in the whole from a number on
  abbrev Sits : ℕ → List Row → Type 0
  Sits n rs = (i : ℕ) (r : Row) → slice_get rs i ≡ Some r → slice_get whole (n + i) ≡ Some r

  sits_first : (n : ℕ) (xs ys : List Row) → Sits n (xs ++ ys) → Sits n xs
  sits_first n xs ys sits i r at = sits i r (left xs i at)
    where
      left : (xs : List Row) (i : ℕ) → slice_get xs i ≡ Some r → slice_get (xs ++ ys) i ≡ Some r
      left [] i at = absurd (not_none at)
      left (x ∷ xs) zero at = at
      left (x ∷ xs) (suc i) at = left xs i at

  sits_second : (n m : ℕ) (xs ys : List Row) → m ≡ n + length xs → Sits n (xs ++ ys) → Sits m ys
  sits_second n m xs ys same sits i r at =
      ap (slice_get whole) (let e : m + i ≡ n + (length xs + i) = omega (arith, same) in e) ∙ sits (length xs + i) r (right xs i at)
    where
      right : (xs : List Row) (i : ℕ) → slice_get ys i ≡ Some r → slice_get (xs ++ ys) (length xs + i) ≡ Some r
      right [] i at = ap (slice_get ys) (let e : 0 + i ≡ i = omega arith in e) ∙ at
      right (x ∷ xs) i at =
          ap (slice_get (x ∷ xs ++ ys)) (let e : suc (length xs) + i ≡ suc (length xs + i) = omega arith in e) ∙ right xs i at

  -- a statement with this head stands in a block
  abbrev Child : (block : ℕ) → Head → Type 0
  Child block h = (i : ℕ) × (q : Row) × (slice_get whole i ≡ Some q) × (q.scope ≡ block) × (q.head ≡ h)

  -- what stands in the block of a statement that is no extension's is numbered
  abbrev IsNumbered : (number : ℕ) → Row → Tree → Type 0
  IsNumbered number r t =
      is_extended r.head.keyword ≡ false → (j : ℕ) (c : Tree) → slice_get (trees t.children) j ≡ Some c → Child number c.head

  heads_listed : (file scope number : ℕ) (f : Forest) → Sits number (row_list file scope number f) → (j : ℕ) (t : Tree)
      → slice_get (trees f) j ≡ Some t → Child scope t.head
  heads_listed file scope number End sits j t at = absurd (not_none at)
  heads_listed file scope number (Then h c o) sits zero t at = (
    number + 0,
    record { file = file; scope = scope; head = h },
    sits 0 (record { file = file; scope = scope; head = h }) refl,
    refl,
    ap (λ (z : Tree). z.head) (same_Some (record { head = h; children = c }) t at),
  )
  heads_listed file scope number (Then h c o) sits (suc j) t at =
      let inner : List Row = inner_of (is_extended h.keyword) (row_list file number (number + 1) c) in
      let next : ℕ = number + 1 + length inner in
      heads_listed file scope next o
      (sits_second number next (record { file = file; scope = scope; head = h } ∷ inner) (row_list file scope next o) (omega arith) sits) j t at

  apart : (xs : List Row) (ts : List Tree) (ys : List Row) (us : List Tree) (k : ℕ) (r : Row) (t : Tree) → length xs ≡ length ts
      → slice_get (xs ++ ys) k ≡ Some r → slice_get (ts ++ us) k ≡ Some t
      → ((slice_get xs k ≡ Some r) × (slice_get ts k ≡ Some t)) ⊎ ((i : ℕ) × (k ≡ length xs + i) × (slice_get ys i ≡ Some r) × (slice_get us i ≡ Some t))
  apart xs ts ys us k r t same at there = elim (in_lists xs ys k r at) [
    | inl a ↦ elim (in_lists ts us k t there) [
      | inl b ↦ inl (a, b)
      | inr b ↦ (let l = slice_get_within xs k r a in let e = b.1 in absurd (omega (arith, l, e, same)))
    ]
    | inr a ↦ elim (in_lists ts us k t there) [
      | inl b ↦ (let l = slice_get_within ts k t b in let e = a.1 in absurd (omega (arith, l, e, same)))
      | inr b ↦ inr (a.0, a.1, a.2, ap (slice_get us) (let e = a.1 in let f = b.1 in let g : a.0 ≡ b.0 = omega (arith, e, f, same) in g) ∙ b.2)
    ]
  ]

  in_listed : (file scope number : ℕ) (f : Forest) → Sits number (row_list file scope number f) → (k : ℕ) (r : Row) (t : Tree)
      → slice_get (row_list file scope number f) k ≡ Some r
      → slice_get (statements_in f) k ≡ Some t → IsNumbered (number + k) r t
  in_listed file scope number End sits k r t at there = absurd (not_none at)
  in_listed file scope number (Then h c o) sits zero r t at there = λ plain j child is.
      first (is_extended h.keyword) (ap (λ (z : Row). is_extended z.head.keyword) same ∙ plain) (sits_second number (number + 1) (own ∷ []) _ (omega arith) sits) j child
      (ap (λ z. slice_get (trees z) j) block ∙ is)
    where
      own : Row
      own = record { file = file; scope = scope; head = h }

      same : own ≡ r
      same = same_Some own r at

      block : c ≡ t.children
      block = ap (λ (z : Tree). z.children) (same_Some (record { head = h; children = c }) t there)

      first : (b : Bool) → b ≡ false
          → Sits (number + 1) (inner_of b (row_list file number (number + 1) c) ++ row_list file scope (number + 1 + length (inner_of b (row_list file number (number + 1) c))) o) → (j : ℕ)
          (child : Tree) → slice_get (trees c) j ≡ Some child → Child (number + 0) child.head
      first true e s j child at = absurd (false≢true (sym e))
      first false e s j child at =
          subst (λ (n : ℕ). Child n child.head) (let e : number ≡ number + 0 = omega arith in e)
          (heads_listed file number (number + 1) c (sits_first (number + 1) (row_list file number (number + 1) c) _ s) j child at)
  in_listed file scope number (Then h c o) sits (suc k) r t at there =
      by (is_extended h.keyword) (sits_second number (number + 1) (record { file = file; scope = scope; head = h } ∷ []) _ (omega arith) sits) at there
      (λ s a b. in_listed file number (number + 1) c s k r t a b) (λ n i s a b. in_listed file scope n o s i r t a b)
    where
      by : (b : Bool)
          → Sits (number + 1) (inner_of b (row_list file number (number + 1) c) ++ row_list file scope (number + 1 + length (inner_of b (row_list file number (number + 1) c))) o)
          → slice_get (inner_of b (row_list file number (number + 1) c) ++ row_list file scope (number + 1 + length (inner_of b (row_list file number (number + 1) c))) o) k ≡ Some r
          → slice_get (inner_of b (statements_in c) ++ statements_in o) k ≡ Some t
          → (Sits (number + 1) (row_list file number (number + 1) c) → slice_get (row_list file number (number + 1) c) k ≡ Some r → slice_get (statements_in c) k ≡ Some t
          → IsNumbered (number + 1 + k) r t)
          → ((n i : ℕ) → Sits n (row_list file scope n o) → slice_get (row_list file scope n o) i ≡ Some r → slice_get (statements_in o) i ≡ Some t → IsNumbered (n + i) r t)
          → IsNumbered (number + suc k) r t
      by true s a b inside beside =
          let next : ℕ = number + 1 + 0 in
          subst (λ (n : ℕ). IsNumbered n r t) (let e : next + k ≡ number + suc k = omega arith in e)
          (beside next k (sits_second (number + 1) next [] (row_list file scope next o) (omega arith) s) a b)
      by false s a b inside beside =
          let inner : List Row = row_list file number (number + 1) c in
          let next : ℕ = number + 1 + length inner in
          elim (apart inner (statements_in c) (row_list file scope next o) (statements_in o) k r t (as_many file number (number + 1) c) a b) [
            | inl x ↦
                subst (λ (n : ℕ). IsNumbered n r t) (let e : number + 1 + k ≡ number + suc k = omega arith in e)
                (inside (sits_first (number + 1) inner (row_list file scope next o) s) x.0 x.1)
            | inr x ↦
                subst (λ (n : ℕ). IsNumbered n r t) (let e = x.1 in let f : next + x.0 ≡ number + suc k = omega (arith, e) in f)
                (beside next x.0 (sits_second (number + 1) next inner (row_list file scope next o) refl s) x.2 x.3)
          ]

  in_bodies : (briefs : Briefs) (number n : ℕ) (ts : Files) → Sits number (bodies briefs number n ts) → (k : ℕ) (r : Row) (t : Tree)
      → slice_get (bodies briefs number n ts) k ≡ Some r → slice_get (inner_statements ts) k ≡ Some t → IsNumbered (number + k) r t
  in_bodies briefs number n [] sits k r t at there = absurd (not_none at)
  in_bodies briefs number n (root ∷ ts) sits k r t at there =
      let body : List Row = body_of briefs number n root in
      let next : ℕ = number + length body in
      let rest : List Row = bodies briefs next (n + 1) ts in
      elim (apart body (statements_in root.children) rest (inner_statements ts) k r t (as_many n (module_file_in briefs n (Some (brief_of root))) number root.children) at there) [
        | inl x ↦ in_listed n (module_file_in briefs n (Some (brief_of root))) number root.children (sits_first number body rest sits) k r t x.0 x.1
        | inr x ↦
            subst (λ (m : ℕ). IsNumbered m r t) (let e = x.1 in let f : next + x.0 ≡ number + k = omega (arith, e) in f)
            (in_bodies briefs next (n + 1) ts (sits_second number next body rest refl sits) x.0 r t x.2 x.3)
      ]

many_roots : (n : ℕ) (ts : Files) → length (roots_from n ts) ≡ length ts
many_roots n [] = refl
many_roots n (t ∷ ts) = (let e = many_roots (n + 1) ts in omega (arith, e))

-- where all hold, each does
pub all_at : {A : Type 0} (p : A → Bool) (xs : List A) (i : ℕ) (x : A) → list_all p xs ≡ true → slice_get xs i ≡ Some x → p x ≡ true
all_at p [] i x all at = absurd (not_none at)
all_at p (y ∷ xs) zero x all at = ap p (sym (same_Some y x at)) ∙ left_is (p y) (list_all p xs) all
all_at p (y ∷ xs) (suc i) x all at = all_at p xs i x (right_is (p y) (list_all p xs) all) at

pub all_from : {A : Type 0} (p : A → Bool) (xs : List A) → ((i : ℕ) (x : A) → slice_get xs i ≡ Some x → p x ≡ true) → list_all p xs ≡ true
all_from p [] each = refl
all_from p (y ∷ xs) each = ap (λ (b : Bool). b && list_all p xs) (each 0 y refl) ∙ all_from p xs (λ i x at. each (suc i) x at)

mark_at : (truth : Truth) (rs : List Row) (ts : List Tree) (k : ℕ) (r : Row) (t : Tree) → slice_get rs k ≡ Some r → slice_get ts k ≡ Some t
    → is_marked (marks_of truth rs ts) k ≡ is_on truth r.file t.children
mark_at truth [] ts k r t at there = absurd (not_none at)
mark_at truth (q ∷ rs) [] k r t at there = absurd (not_none there)
mark_at truth (q ∷ rs) (u ∷ ts) zero r t at there =
    ap (λ (z : Row). is_on truth z.file u.children) (same_Some q r at) ∙ ap (λ (z : Tree). is_on truth r.file z.children) (same_Some u t there)
mark_at truth (q ∷ rs) (u ∷ ts) (suc k) r t at there = mark_at truth rs ts k r t at there

-- a condition is true
abbrev holds : Truth → (file : ℕ) → Tree → Bool
holds truth file s = not (has_word (codes "if-feature") s.head) || truth file (name_of s.head)

pub held : (a b : Bool) → (not a || b) ≡ true → a ≡ true → b ≡ true
held true b h is = h
held false b h is = absurd (false≢true is)

pub holds_by : (a b : Bool) → (a ≡ true → b ≡ true) → (not a || b) ≡ true
holds_by true b h = h refl
holds_by false b h = refl

pub both_true : (a b : Bool) → a ≡ true → b ≡ true → (a && b) ≡ true
both_true a b p q = ap (λ (z : Bool). z && b) p ∙ q

-- the statement of a row
statement_at : (files : Files) (i : ℕ) (q : Row) → slice_get (rows_of files) i ≡ Some q
    → (u : Tree) × (slice_get (statements_of files) i ≡ Some u) × (u.head ≡ q.head)
statement_at files i q row = by (slice_get (statements_of files) i) refl
  where
    same : option_map (λ (z : Tree). z.head) (slice_get (statements_of files) i) ≡ Some q.head
    same =
        sym (slice_get-map (λ (z : Tree). z.head) (statements_of files) i) ∙ (ap (λ xs. slice_get xs i) (heads_same files)
        ∙ (slice_get-map (λ (z : Row). z.head) (rows_of files) i ∙ ap (option_map (λ (z : Row). z.head)) row))

    by : (o : Option Tree) → slice_get (statements_of files) i ≡ o
        → (u : Tree) × (slice_get (statements_of files) i ≡ Some u) × (u.head ≡ q.head)
    by None is = absurd (not_none (ap (option_map (λ (z : Tree). z.head)) (sym is) ∙ same))
    by (Some u) is = (u, is, same_Some u.head q.head (ap (option_map (λ (z : Tree). z.head)) (sym is) ∙ same))

module _ (files : Files) (truth : Truth) where
  -- a statement of a block comes behind the roots
  pub past_roots : (k : ℕ) (r : Row) → slice_get (rows_of files) k ≡ Some r → r.scope ≢ k → length files ≤ k
  past_roots k r at below = elim (cases_lt k (length files)) [
    | inl l ↦
        let t = there_is files k l in
        let root : Row = record { file = k; scope = k; head = t.0.head } in
        absurd (below (ap (λ (z : Row). z.scope) (same_Some r root (sym at ∙ rows_of_roots files k t.0 t.1))))
    | inr l ↦ l
  ]

  module_file_less : (n : ℕ) → n < length files → module_file_at (map brief_of files) n < length files
  module_file_less n l = (let e = map_many files in let h = module_file_at_within (map brief_of files) n (omega (arith, l, e)) in omega (arith, h, e))
    where
      map_many : (ts : Files) → length (map brief_of ts) ≡ length ts
      map_many [] = refl
      map_many (t ∷ ts) = (let e = map_many ts in omega (arith, e))

  module _ (k : ℕ) (r : Row) (t : Tree) (past : length files ≤ k) (at : slice_get (rows_of files) k ≡ Some r) (there : slice_get (statements_of files) k ≡ Some t) where
    -- a condition stands in the block
    to : is_on truth r.file t.children ≡ true → AllHoldBy (λ file text. truth file text ≡ true) (rows_of files) k
    to all i q row condition =
        let scope : q.scope ≡ k = eqb-true q.scope k (right_is (has_word (codes "if-feature") q.head) (q.scope == k) condition) in
        let u = statement_at files i q row in
        elim (statements_stand files i (behind i q row scope) q u.0 row u.1) [
          | inl top ↦
              (let l = slice_get_within files q.file top.0 top.1 in let h = module_file_less q.file l in let e = top.3 in absurd (omega (arith, h, e, scope, past)))
          | inr in_it ↦
              let same : in_it.1 ≡ t = same_Some in_it.1 t (sym in_it.3 ∙ (ap (slice_get (statements_of files)) scope ∙ there)) in
              let above : in_it.0 ≡ r = same_Some in_it.0 r (sym in_it.2 ∙ (ap (slice_get (rows_of files)) scope ∙ at)) in
              let file : r.file ≡ q.file = ap (λ (z : Row). z.file) (sym above) ∙ in_it.5 in
              let holds_here = all_at (holds truth r.file) (trees t.children) in_it.4.0 u.0 all (ap (λ (z : Tree). slice_get (trees z.children) in_it.4.0) (sym same) ∙ in_it.4.1) in
              ap (λ (n : ℕ). truth n (name_in q)) (sym file) ∙ (ap (λ (z : Head). truth r.file (name_of z)) (sym u.2)
              ∙ held (has_word (codes "if-feature") u.0.head) (truth r.file (name_of u.0.head)) holds_here
              (ap (has_word (codes "if-feature")) u.2 ∙ left_is (has_word (codes "if-feature") q.head) (q.scope == k) condition))
        ]
      where
        behind : (i : ℕ) (q : Row) → slice_get (rows_of files) i ≡ Some q → q.scope ≡ k → length files ≤ i
        behind i q row scope = elim (cases_lt i (length files)) [
          | inl l ↦
              let u = there_is files i l in
              let root : Row = record { file = i; scope = i; head = u.0.head } in
              let own : q.scope ≡ i = ap (λ (z : Row). z.scope) (same_Some q root (sym row ∙ rows_of_roots files i u.0 u.1)) in
              absurd (omega (arith, l, own, scope, past))
          | inr l ↦ l
        ]

    from : is_extended r.head.keyword ≡ false → AllHoldBy (λ file text. truth file text ≡ true) (rows_of files) k
        → is_on truth r.file t.children ≡ true
    from plain all = all_from (holds truth r.file) (trees t.children) (λ j c is.
        let child = numbered j c is in
        holds_by (has_word (codes "if-feature") c.head) (truth r.file (name_of c.head))
        (λ condition.
        let q : Row = child.1 in
        let file : q.file ≡ r.file = block_file files k child.0 r q past at child.2 child.3 in
        let true_there = all child.0 q child.2
        (both_true (has_word (codes "if-feature") q.head) (q.scope == k) (ap (has_word (codes "if-feature")) child.4 ∙ condition) (eq-eqb q.scope k child.3)) in
        ap (λ (n : ℕ). truth n (name_of c.head)) (sym file) ∙ (ap (λ (z : Head). truth q.file (name_of z)) (sym child.4) ∙ true_there)))
      where
        numbered : (j : ℕ) (c : Tree) → slice_get (trees t.children) j ≡ Some c → Child (rows_of files) k c.head
        numbered j c is =
            let roots : List Row = roots_from 0 files in
            let rest : List Row = bodies (map brief_of files) (length files) 0 files in
            let many = many_roots 0 files in
            elim (apart (rows_of files) roots files rest (inner_statements files) k r t many at there) [
              | inl x ↦ (let l = slice_get_within files k t x.1 in absurd (omega (arith, l, past)))
              | inr x ↦
                  let e : length files + x.0 ≡ k = (let f = x.1 in omega (arith, f, many)) in
                  subst (λ (n : ℕ). Child (rows_of files) n c.head) e
                  (in_bodies (rows_of files) (map brief_of files) (length files) 0 files
                  (sits_second (rows_of files) 0 (length files) roots rest (omega (arith, many)) (λ i q a. ap (slice_get (rows_of files)) (let z : 0 + i ≡ i = omega arith in z) ∙ a))
                  x.0 r t x.2 x.3 plain j c is)
            ]

pub marks_are_conditions : (files : Files) → MarksAreConditions files
marks_are_conditions files truth k (r, at, below, plain) =
    let past = past_roots files truth k r at below in
    let t = statement_at files k r at in
    let mark = mark_at truth (rows_of files) (statements_of files) k r t.0 at t.1 in (
      (λ on. to files truth k r t.0 past at t.1 (sym mark ∙ on)),
      (λ all. mark ∙ from files truth k r t.0 past at t.1 plain all),
    )
