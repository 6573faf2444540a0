-- Nodes put below their parents one by one.
use Rattle.std.proofs.Common.{◌≡◌, ◌≢◌, ◌⊎◌, ℕ, zero, suc, ◌+◌, ◌<◌, ◌≤◌, ◌==◌, Bool, true, false, if◌then◌else◌, List, [], ◌∷◌, ◌++◌, length, Option, Some, None, slice_set, slice_index_or, replicate, refl, sym, ap, ◌∙◌, arith, append_assoc, append-nil, length-append, inl, inr, eq-eqb, ltb, ◌-◌}
use Rattle.std.proofs.lemmas.Bool.{ne_eqb, eqb-true, false≢true, ltb-true, ltb-false}
use Rattle.std.specs.Prelude.{⊤}
use Rattle.std.proofs.lemmas.List.{get_or-set_same, get_or-set_other, get_or-append-add, get_or-map, get_or-replicate, get_or_past, length-replicate, length-set, map-set, ext_get_or}
use Rattle.std.proofs.Math.ListN.{get_or-append}
use Rattle.yv_expand.specs.Tree.{Node}
use Rattle.yv_expand.specs.Tree.{Nodes, none, item, count, item_list}
use Rattle.std.specs.declared.alloc.Global.{Global}
use Rattle.std.specs.declared.vec.Vec.{Vec}
use Rattle.yv_schema.specs.Families.{below_from, lists_of, numbers_from}
use Rattle.yv_schema.specs.InnerChildren.{AreEmpty, Lists, hang, hang_all}

below_or : (n i : ℕ) → (i < n) ⊎ ((j : ℕ) × (i ≡ n + j))
below_or n i = by (ltb i n) refl
  where
    by : (b : Bool) → ltb i n ≡ b → (i < n) ⊎ ((j : ℕ) × (i ≡ n + j))
    by true h = inl (ltb-true i n h)
    by false h = let le : n ≤ i = ltb-false i n h in inr (i - n, omega (arith, le))

-- a parent stands before the first of its children
abbrev pub IsBefore : Option ℕ → ℕ → Type 0
IsBefore None first = ⊤
IsBefore (Some p) first = p < first

later_before : (parent : Option ℕ) (first n : ℕ) → first ≤ n → IsBefore parent first → IsBefore parent n
later_before None first n le lt = lt
later_before (Some p) first n le lt = omega (arith, le, lt)

-- those of the numbers that belong below node k
abbrev pub given : Option ℕ → ℕ → List ℕ → List ℕ
given None k ns = []
given (Some p) k ns = if p == k then ns else []

-- those that belong at the top
abbrev pub at_top : Option ℕ → List ℕ → List ℕ
at_top None ns = ns
at_top (Some p) ns = []

given_more : (parent : Option ℕ) (k n : ℕ) (ns : List ℕ) → given parent k (n ∷ []) ++ given parent k ns ≡ given parent k (n ∷ ns)
given_more None k n ns = refl
given_more (Some p) k n ns = by (p == k)
  where
    by : (b : Bool) → (if b then n ∷ [] else []) ++ (if b then ns else []) ≡ (if b then n ∷ ns else [])
    by true = refl
    by false = refl

given_before : (parent : Option ℕ) (first k : ℕ) (ns : List ℕ) → IsBefore parent first → first ≤ k → given parent k ns ≡ []
given_before None first k ns lt le = refl
given_before (Some p) first k ns lt le = ap (λ (b : Bool). if b then ns else []) (ne_eqb p k (λ e. omega (arith, lt, le, e)))

given_other : (p k : ℕ) (ns : List ℕ) → p ≢ k → given (Some p) k ns ≡ []
given_other p k ns ne = ap (λ (b : Bool). if b then ns else []) (ne_eqb p k ne)

no_given : (parent : Option ℕ) (k : ℕ) → given parent k [] ≡ []
no_given None k = refl
no_given (Some p) k = by (p == k)
  where
    nil : List ℕ
    nil = []

    by : (b : Bool) → (if b then nil else nil) ≡ nil
    by true = refl
    by false = refl

no_top : (parent : Option ℕ) → at_top parent [] ≡ []
no_top None = refl
no_top (Some p) = refl

given_own : (k : ℕ) (ns : List ℕ) → given (Some k) k ns ≡ ns
given_own k ns = ap (λ (b : Bool). if b then ns else []) (eq-eqb k k refl)

-- one more: each node has what belongs below it
hang_below : (number : ℕ) (parent : Option ℕ) (s : Lists) (k : ℕ) → IsBefore parent (length s.below)
    → slice_index_or (hang number parent s).below k [] ≡ slice_index_or s.below k [] ++ given parent k (number ∷ [])
hang_below number None s k lt = sym (append-nil (slice_index_or s.below k []))
hang_below number (Some p) s k lt = by (p == k) refl
  where
    more : List ℕ
    more = slice_index_or s.below p [] ++ number ∷ []

    by : (b : Bool) → (p == k) ≡ b → slice_index_or (slice_set s.below p more) k [] ≡ slice_index_or s.below k [] ++ (if b then number ∷ [] else [])
    by true h =
        let same : k ≡ p = sym (eqb-true p k h) in
        ap (λ (n : ℕ). slice_index_or (slice_set s.below p more) n []) same ∙ get_or-set_same s.below p more [] lt
        ∙ ap (λ (n : ℕ). slice_index_or s.below n [] ++ number ∷ []) (sym same)
    by false h = get_or-set_other s.below p k more [] (λ e. false≢true (sym h ∙ eq-eqb p k (sym e))) ∙ sym (append-nil (slice_index_or s.below k []))

hang_top : (number : ℕ) (parent : Option ℕ) (s : Lists) → (hang number parent s).top ≡ s.top ++ at_top parent (number ∷ [])
hang_top number None s = refl
hang_top number (Some p) s = sym (append-nil s.top)

hang_each : (number : ℕ) (parent : Option ℕ) (s : Lists) → length (hang number parent s).below ≡ length s.below
hang_each number None s = refl
hang_each number (Some p) s = length-set s.below p _

top_more : (parent : Option ℕ) (n : ℕ) (ns : List ℕ) → at_top parent (n ∷ []) ++ at_top parent ns ≡ at_top parent (n ∷ ns)
top_more None n ns = refl
top_more (Some p) n ns = refl

length_below : (first : ℕ) (t : Nodes) → length (below_from first t) ≡ count t
length_below first none = refl
length_below first (item origin below behind) =
    omega (arith, length-append (below_from (first + 1) below) (below_from (first + 1 + count below) behind), length_below (first + 1) below, length_below (first + 1 + count below) behind)

-- the nodes of a tree were put below their parents
pub record Hung (parent : Option ℕ) (first : ℕ) (t : Nodes) (s e : Lists) : Type 0 where
  pub top : e.top ≡ s.top ++ at_top parent (numbers_from first t)
  pub each : length e.below ≡ length s.below
  pub outside : (k : ℕ) → (k < first) ⊎ (first + count t ≤ k) → slice_index_or e.below k [] ≡ slice_index_or s.below k [] ++ given parent k (numbers_from first t)
  pub own : (k : ℕ) → k < count t → slice_index_or e.below (first + k) [] ≡ slice_index_or (below_from first t) k []

pub hangs_tree : (t : Nodes) (parent : Option ℕ) (first : ℕ) (s : Lists) (rest : List Node) → IsBefore parent first → first + count t ≤ length s.below
    → ((k : ℕ) → k < count t → slice_index_or s.below (first + k) [] ≡ [])
    → (e : Lists) × (hang_all first (item_list parent first t ++ rest) s ≡ hang_all (first + count t) rest e) × Hung parent first t s e
hangs_tree none parent first s rest lt le empty = (
  s,
  ap (λ (k : ℕ). hang_all k rest s) (omega arith),
  record {
    top = sym (append-nil s.top) ∙ ap (λ (ns : List ℕ). s.top ++ ns) (sym (no_top parent));
    each = refl;
    outside = λ k h. sym (append-nil (slice_index_or s.below k [])) ∙ ap (λ (ns : List ℕ). slice_index_or s.below k [] ++ ns) (sym (no_given parent k));
    own = λ k h. absurd (omega (arith, h));
  },
)
hangs_tree (item origin below behind) parent first s rest lt le empty =
    let inner : List Node = item_list (Some first) (first + 1) below in
    let after : List Node = item_list parent (first + 1 + count below) behind in
    let mid : ℕ = first + 1 + count below in
    let one : Lists = hang first parent s in
    let room : IsBefore parent (length s.below) = later_before parent first (length s.below) (omega (arith, le)) lt in
    let size : length one.below ≡ length s.below = hang_each first parent s in
    let one_is : (k : ℕ) → slice_index_or one.below k [] ≡ slice_index_or s.below k [] ++ given parent k (first ∷ []) = λ k. hang_below first parent s k room in
    let one_same : (k : ℕ) → first ≤ k → slice_index_or one.below k [] ≡ slice_index_or s.below k [] =
    λ k h. one_is k ∙ ap (λ (ns : List ℕ). slice_index_or s.below k [] ++ ns) (given_before parent first k (first ∷ []) lt h) ∙ append-nil (slice_index_or s.below k []) in
    let one_empty : (k : ℕ) → k < count below → slice_index_or one.below (first + 1 + k) [] ≡ [] =
    λ k h. one_same (first + 1 + k) (omega arith) ∙ shifted (1 + k) (first + 1 + k) (omega arith) (omega (arith, h)) in
    let in_below = hangs_tree below (Some first) (first + 1) one (after ++ rest) (omega arith) (omega (arith, le, size)) one_empty in
    let two : Lists = in_below.0 in
    let hung_below : Hung (Some first) (first + 1) below one two = in_below.2 in
    let two_same : (k : ℕ) → (k < first) ⊎ (mid ≤ k) → slice_index_or two.below k [] ≡ slice_index_or one.below k [] =
    λ k h. hung_below.outside k (wider k h) ∙ ap (λ (ns : List ℕ). slice_index_or one.below k [] ++ ns) (given_other first k (numbers_from (first + 1) below) (apart k h))
    ∙ append-nil (slice_index_or one.below k []) in
    let two_empty : (k : ℕ) → k < count behind → slice_index_or two.below (mid + k) [] ≡ [] =
    λ k h. two_same (mid + k) (inr (omega arith)) ∙ one_same (mid + k) (omega arith) ∙ shifted (1 + count below + k) (mid + k) (omega arith) (omega (arith, h)) in
    let in_behind = hangs_tree behind parent mid two rest (later_before parent first mid (omega arith) lt) (omega (arith, le, size, hung_below.each)) two_empty in
    let e : Lists = in_behind.0 in
    let hung_behind : Hung parent mid behind two e = in_behind.2 in
    let b_nums : List ℕ = numbers_from (first + 1) below in
    let h_nums : List ℕ = numbers_from mid behind in
    let b_lists : List (List ℕ) = below_from (first + 1) below in
    let h_lists : List (List ℕ) = below_from mid behind in
    let flat : (inner ++ after) ++ rest ≡ inner ++ (after ++ rest) = append_assoc inner after rest in
    let number : mid + count behind ≡ first + (1 + count below + count behind) = omega arith in
    let end_same : (k : ℕ) → first ≤ k → k < mid → slice_index_or e.below k [] ≡ slice_index_or two.below k [] =
    λ k h g. hung_behind.outside k (inl g) ∙ ap (λ (ns : List ℕ). slice_index_or two.below k [] ++ ns) (given_before parent first k h_nums lt h) ∙ append-nil (slice_index_or two.below k []) in
    let end_below : (k : ℕ) → (k < first) ⊎ (mid + count behind ≤ k) → slice_index_or e.below k [] ≡ slice_index_or s.below k [] ++ given parent k (first ∷ h_nums) =
    λ k h. (
    let old : List ℕ = slice_index_or s.below k [] in
    hung_behind.outside k (nearer k h)
    ∙ ap (λ (ns : List ℕ). ns ++ given parent k h_nums) (two_same k (farther k h) ∙ one_is k)
    ∙ append_assoc old (given parent k (first ∷ [])) (given parent k h_nums)
    ∙ ap (λ (ns : List ℕ). old ++ ns) (given_more parent k first h_nums)) in
    let top_is : e.top ≡ s.top ++ at_top parent (first ∷ h_nums) =
    hung_behind.top ∙ ap (λ (ns : List ℕ). ns ++ at_top parent h_nums) (hung_below.top ∙ append-nil one.top ∙ hang_top first parent s)
    ∙ append_assoc s.top (at_top parent (first ∷ [])) (at_top parent h_nums) ∙ ap (λ (ns : List ℕ). s.top ++ ns) (top_more parent first h_nums) in
    let first_is : slice_index_or e.below first [] ≡ b_nums =
    end_same first (omega arith) (omega arith) ∙ hung_below.outside first (inl (omega arith))
    ∙ ap (λ (ns : List ℕ). ns ++ given (Some first) first b_nums) (one_same first (omega arith) ∙ shifted 0 first (omega arith) (omega arith)) ∙ given_own first b_nums in
    let inner_is : (k : ℕ) → k < count below → slice_index_or e.below (first + 1 + k) [] ≡ slice_index_or b_lists k [] =
    λ k h. end_same (first + 1 + k) (omega arith) (omega (arith, h)) ∙ hung_below.own k h in (
      e,
      ap (λ (xs : List Node). hang_all (first + 1) xs one) flat ∙ in_below.1 ∙ in_behind.1 ∙ ap (λ (k : ℕ). hang_all k rest e) number,
      record {
        top = top_is;
        each = hung_behind.each ∙ hung_below.each ∙ size;
        outside = λ k h. end_below k (out k h);
        own = own_is e b_nums b_lists h_lists (length_below (first + 1) below) first_is inner_is hung_behind.own;
      },
    )
  where
    shifted : (j k : ℕ) → k ≡ first + j → j < 1 + count below + count behind → slice_index_or s.below k [] ≡ []
    shifted j k at h = ap (λ (n : ℕ). slice_index_or s.below n []) at ∙ empty j h

    out : (k : ℕ) → (k < first) ⊎ (first + (1 + count below + count behind) ≤ k) → (k < first) ⊎ (first + 1 + count below + count behind ≤ k)
    out k (inl h) = inl h
    out k (inr h) = inr (omega (arith, h))

    nearer : (k : ℕ) → (k < first) ⊎ (first + 1 + count below + count behind ≤ k) → (k < first + 1 + count below) ⊎ (first + 1 + count below + count behind ≤ k)
    nearer k (inl h) = inl (omega (arith, h))
    nearer k (inr h) = inr h

    farther : (k : ℕ) → (k < first) ⊎ (first + 1 + count below + count behind ≤ k) → (k < first) ⊎ (first + 1 + count below ≤ k)
    farther k (inl h) = inl h
    farther k (inr h) = inr (omega (arith, h))

    own_is : (e : Lists) (b_nums : List ℕ) (b_lists h_lists : List (List ℕ)) → length b_lists ≡ count below
        → slice_index_or e.below first [] ≡ b_nums
        → ((k : ℕ) → k < count below → slice_index_or e.below (first + 1 + k) [] ≡ slice_index_or b_lists k [])
        → ((k : ℕ) → k < count behind → slice_index_or e.below (first + 1 + count below + k) [] ≡ slice_index_or h_lists k [])
        → (k : ℕ) → k < 1 + count below + count behind → slice_index_or e.below (first + k) [] ≡ slice_index_or (b_nums ∷ (b_lists ++ h_lists)) k []
    own_is e b_nums b_lists h_lists size first_is inner_is behind_is zero h = ap (λ (n : ℕ). slice_index_or e.below n []) (omega arith) ∙ first_is
    own_is e b_nums b_lists h_lists size first_is inner_is behind_is (suc j) h = by (below_or (count below) j)
      where
        by : (j < count below) ⊎ ((i : ℕ) × (j ≡ count below + i)) → slice_index_or e.below (first + suc j) [] ≡ slice_index_or (b_lists ++ h_lists) j []
        by (inl g) =
            ap (λ (n : ℕ). slice_index_or e.below n []) (omega arith) ∙ inner_is j g ∙ sym (get_or-append b_lists h_lists [] j (omega (arith, g, size)))
        by (inr p) =
            let place : j ≡ length b_lists + p.0 = omega (arith, p.1, size) in
            ap (λ (n : ℕ). slice_index_or e.below n []) (omega (arith, p.1)) ∙ behind_is p.0 (omega (arith, p.1, h))
            ∙ sym (ap (λ (n : ℕ). slice_index_or (b_lists ++ h_lists) n []) place ∙ get_or-append-add b_lists h_lists p.0 [])

    wider : (k : ℕ) → (k < first) ⊎ (first + 1 + count below ≤ k) → (k < first + 1) ⊎ (first + 1 + count below ≤ k)
    wider k (inl h) = inl (omega (arith, h))
    wider k (inr h) = inr h

    apart : (k : ℕ) → (k < first) ⊎ (first + 1 + count below ≤ k) → first ≢ k
    apart k (inl h) q = omega (arith, h, q)
    apart k (inr h) q = omega (arith, h, q)

-- a number pushed into one of the lists
pub pushed : (vs : List (Vec ℕ Global)) (place number : ℕ) (old new : Vec ℕ Global) → place < length vs → old ≡ slice_index_or vs place old
    → new.items ≡ old.items ++ number ∷ [] → lists_of (slice_set vs place new) ≡ slice_set (lists_of vs) place (slice_index_or (lists_of vs) place [] ++ number ∷ [])
pushed vs place number old new lt is more =
    let items : Vec ℕ Global → List ℕ = λ v. v.items in
    let was : slice_index_or (lists_of vs) place [] ≡ old.items = get_or-map items vs place old [] lt ∙ ap items (sym is) in
    map-set items vs place new ∙ ap (λ (ns : List ℕ). slice_set (lists_of vs) place ns) (more ∙ ap (λ (ns : List ℕ). ns ++ number ∷ []) (sym was))

-- so many empty lists are empty
pub empty_lists : (n : ℕ) (lists : List (List ℕ)) → lists ≡ replicate n [] → AreEmpty lists
empty_lists n lists are k = ap (λ (ls : List (List ℕ)). slice_index_or ls k nil) are ∙ by (below_or n k)
  where
    nil : List ℕ
    nil = []

    none : List (List ℕ)
    none = replicate n nil

    by : (k < n) ⊎ ((j : ℕ) × (k ≡ n + j)) → slice_index_or none k nil ≡ nil
    by (inl h) = get_or-replicate n k nil nil h
    by (inr p) = get_or_past none k nil (omega (arith, p.1, length-replicate n nil))

-- the whole of a tree
pub hung_all : (t : Nodes) (s : Lists) → s.top ≡ [] → length s.below ≡ count t → AreEmpty s.below
    → ((hang_all 0 (item_list None 0 t) s).top ≡ numbers_from 0 t) × ((hang_all 0 (item_list None 0 t) s).below ≡ below_from 0 t)
hung_all t s top each empty =
    let went = hangs_tree t None 0 s [] tt (omega (arith, each)) (λ k h. empty (0 + k)) in
    let e : Lists = went.0 in
    let is : hang_all 0 (item_list None 0 t) s ≡ e = ap (λ (xs : List Node). hang_all 0 xs s) (sym (append-nil (item_list None 0 t))) ∙ went.1 in
    let done : Hung None 0 t s e = went.2 in
    let size : length e.below ≡ length (below_from 0 t) = done.each ∙ each ∙ sym (length_below 0 t) in (
      ap (λ (l : Lists). l.top) is ∙ done.top ∙ ap (λ (ns : List ℕ). ns ++ numbers_from 0 t) top,
      ap (λ (l : Lists). l.below) is ∙ ext_get_or [] e.below (below_from 0 t) size
          (λ i h. ap (λ (n : ℕ). slice_index_or e.below n []) (omega arith) ∙ done.own i (omega (arith, h, size, length_below 0 t))),
    )
