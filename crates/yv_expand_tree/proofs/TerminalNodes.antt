-- Below a leaf, leaf-list, anydata or anyxml stands no item of an expansion.
use Rattle.std.proofs.Common.{inl, inr, ◌⊎◌, ◌≡◌, ℕ, zero, suc, ◌+◌, ◌||◌, Bool, true, false, if◌then◌else◌, List, [], ◌∷◌, map, length, Option, Some, None, refl, sym, ap, ◌∙◌, arith, codes}
use Rattle.std.specs.List.{slice_get}
use Rattle.std.specs.Option.{option_map, unwrap_or}
use Rattle.std.specs.Str.{bytes_eq}
use Rattle.std.proofs.lemmas.Bool.{cases_Bool, false≢true}
use Rattle.std.proofs.lemmas.Option.{same_Some, slice_get_cases, slice_get_within}
use Rattle.std.proofs.lemmas.Slice.Eq.{bytes_eq-Decides}
use Rattle.yv_link_scopes.specs.Files.{Briefs, Files, brief_of}
use Rattle.yv_link_scopes.specs.RowList.{rows_of}
use Rattle.yv_link_scopes.specs.Rows.{Row}
use Rattle.yv_link_definitions.specs.Refers.{is_type, is_uses}
use Rattle.yv_expand_statements.specs.StatementBlocks.{given_at, block_of, augments_of, first_of, input_of, is_at, is_input, is_node_or_uses, is_operation, is_output, output_of, part, part_block, those}
use Rattle.yv_expand_statements.specs.declared.origin.Origin.{Origin}
use Rattle.yv_expand_statements.specs.declared.origin.Origin.TheVariants.{Input, Output}
use Rattle.yv_expand.specs.Tree.{Item, Tree, all_of, count, item, join, item_list, none}
use Rattle.yv_expand.specs.Expansion.{IsWhole}
use Rattle.yv_expand.specs.Expands.{Expands, node, nothing, operation, other, uses}
use Rattle.yv_expand.proofs.StatementReferences.{refers_word}
use Rattle.yv_expand.proofs.Words.{operation_item, word_is}
use Rattle.yv_expand_statements.specs.declared.statement_kind.StatementKind.TheVariants as kind
use Rattle.yv_expand_uses.specs.Kinds.{kind_at, kind_of}
use Rattle.yv_expand_statements.specs.Kinds.{kind_of_keyword}
use Rattle.yv_expand_tree.specs.Lowest.{is_lowest}
use Rattle.yv_expand_tree.proofs.NodePositions.{in_first, in_lists, in_second, listed_long}

-- what is named by a keyword that names a definition, and an operation, isn't of these kinds
type_not_lowest : is_lowest (unwrap_or (kind_of_keyword (codes "type")) kind.Uses) ≡ false
unfolding kind_of_keyword
type_not_lowest = refl

uses_not_lowest : is_lowest (unwrap_or (kind_of_keyword (codes "uses")) kind.Uses) ≡ false
unfolding kind_of_keyword
uses_not_lowest = refl

named_not_lowest : (r : Row) → (is_type r ≡ true) ⊎ (is_uses r ≡ true) → is_lowest (kind_at (Some r)) ≡ false
named_not_lowest r (inl t) = ap (λ (w : List ℕ). is_lowest (unwrap_or (kind_of_keyword w) kind.Uses)) (word_is r.head (codes "type") t) ∙ type_not_lowest
named_not_lowest r (inr u) = ap (λ (w : List ℕ). is_lowest (unwrap_or (kind_of_keyword w) kind.Uses)) (word_is r.head (codes "uses") u) ∙ uses_not_lowest

rpc_not_lowest : is_lowest (unwrap_or (kind_of_keyword (codes "rpc")) kind.Uses) ≡ false
unfolding kind_of_keyword
rpc_not_lowest = refl

action_not_lowest : is_lowest (unwrap_or (kind_of_keyword (codes "action")) kind.Uses) ≡ false
unfolding kind_of_keyword
action_not_lowest = refl

operation_not_lowest : (r : Row) → is_operation r ≡ true → is_lowest (kind_at (Some r)) ≡ false
unfolding is_operation
operation_not_lowest r h = by (bytes_eq (codes "rpc") r.head.keyword) (bytes_eq (codes "action") r.head.keyword) refl refl h
  where
    by : (a b : Bool) → bytes_eq (codes "rpc") r.head.keyword ≡ a → bytes_eq (codes "action") r.head.keyword ≡ b → (a || (b || false)) ≡ true
        → is_lowest (kind_at (Some r)) ≡ false
    by true b e f g =
        ap (λ (w : List ℕ). is_lowest (unwrap_or (kind_of_keyword w) kind.Uses)) (sym ((bytes_eq-Decides (codes "rpc") r.head.keyword).0 e)) ∙ rpc_not_lowest
    by false true e f g =
        ap (λ (w : List ℕ). is_lowest (unwrap_or (kind_of_keyword w) kind.Uses)) (sym ((bytes_eq-Decides (codes "action") r.head.keyword).0 f)) ∙ action_not_lowest
    by false false e f g = absurd (false≢true g)

-- below each of these kinds there is no item
module _ (rows : List Row) where
  abbrev pub Shut : Tree → Type 0
  Shut none = Unit {0}
  Shut (item o below behind) = (is_lowest (kind_of rows o) ≡ true → below ≡ none) × (Shut below × Shut behind)

  joined_shut : (t u : Tree) → Shut t → Shut u → Shut (join t u)
  joined_shut none u p q = q
  joined_shut (item o below behind) u p q = (p.0, (p.1.0, joined_shut behind u p.1.1 q))

  all_shut : (trees : List Tree) → ((n : ℕ) (t : Tree) → slice_get trees n ≡ Some t → Shut t) → Shut (all_of trees)
  all_shut [] each = tt
  all_shut (t ∷ ts) each = joined_shut t (all_of ts) (each 0 t refl) (all_shut ts (λ n u at. each (suc n) u at))

  -- one more number of a list, and whether its statement passes
  those_more : (test : Row → Bool) (k : ℕ) (others : List ℕ) (r : Row) (b : Bool) → slice_get rows k ≡ Some r → test r ≡ b
      → those test rows (k ∷ others) ≡ (if b then k ∷ those test rows others else those test rows others)
  those_more test k others r b at is =
      ap (λ (c : Bool). if c then k ∷ those test rows others else those test rows others) (ap (λ (o : Option Row). unwrap_or (option_map test o) false) at ∙ is)

  passes_at : (test : Row → Bool) (j : ℕ) → is_at test rows j ≡ true → (r : Row) × (slice_get rows j ≡ Some r) × (test r ≡ true)
  passes_at test j is = by (slice_get rows j) refl is
    where
      by : (o : Option Row) → slice_get rows j ≡ o → unwrap_or (option_map test o) false ≡ true → (r : Row) × (slice_get rows j ≡ Some r) × (test r ≡ true)
      by None at h = absurd (false≢true h)
      by (Some r) at h = (r, at, h)

  -- the first that passes is a statement
  first_at : (test : Row → Bool) (ks : List ℕ) (j : ℕ) → first_of test rows ks ≡ Some j → (r : Row) × (slice_get rows j ≡ Some r)
  first_at test [] j is = absurd (let bad : None ≡ Some j = is in cc)
  first_at test (k ∷ ks) j is = by (is_at test rows k) refl is (first_at test ks j)
    where
      by : (b : Bool) → is_at test rows k ≡ b → slice_get (if b then k ∷ those test rows ks else those test rows ks) 0 ≡ Some j
          → (first_of test rows ks ≡ Some j → (r : Row) × (slice_get rows j ≡ Some r)) → (r : Row) × (slice_get rows j ≡ Some r)
      by true e h others =
          let same : k ≡ j = same_Some k j h in
          let found = passes_at test k e in
          (found.0, ap (slice_get rows) (sym same) ∙ found.1)
      by false e h others = others h

  module _ (files : Briefs) (shut : (k : ℕ) (r : Row) → slice_get rows k ≡ Some r → is_lowest (kind_at (Some r)) ≡ true → those is_node_or_uses rows (block_of rows k) ≡ []) where
    nothing_given : {ks : List ℕ} {t : Tree} → Expands files rows ks t → those is_node_or_uses rows ks ≡ [] → t ≡ none
    nothing_given nothing empty = refl
    nothing_given (other {k = k} {r = r} {others = others} at isnt e) empty =
        nothing_given e (sym (those_more is_node_or_uses k others r false at isnt) ∙ empty)
    nothing_given (node {k = k} {r = r} {others = others} at is simple without b e) empty =
        absurd (let bad : k ∷ those is_node_or_uses rows others ≡ [] = sym (those_more is_node_or_uses k others r true at is) ∙ empty in cc)
    nothing_given (operation {k = k} {r = r} {others = others} at is i o e) empty =
        absurd (let bad : k ∷ those is_node_or_uses rows others ≡ [] = sym (those_more is_node_or_uses k others r true at (operation_item r is)) ∙ empty in cc)
    nothing_given (uses {k = k} {r = r} {others = others} at is refers b g e) empty =
        absurd (let bad : k ∷ those is_node_or_uses rows others ≡ [] = sym (those_more is_node_or_uses k others r true at is) ∙ empty in cc)

    -- a part of an operation
    part_shut : (unwritten : Origin) → is_lowest (kind_of rows unwritten) ≡ false → (written : Option ℕ)
        → ((j : ℕ) → written ≡ Some j → (r : Row) × (slice_get rows j ≡ Some r)) → (t : Tree) → Expands files rows (part_block rows written) t
        → is_lowest (kind_of rows (part unwritten written)) ≡ true → t ≡ none
    part_shut unwritten high None there t e low = absurd (false≢true (sym high ∙ low))
    part_shut unwritten high (Some j) there t e low =
        let (r, at) = there j refl in
        nothing_given e (shut j r at (ap (λ (o : Option Row). is_lowest (kind_at o)) (sym at) ∙ low))

    pub expands_shut : {ks : List ℕ} {t : Tree} → Expands files rows ks t → Shut t
    expands_shut nothing = tt
    expands_shut (other at isnt e) = expands_shut e
    expands_shut (node {k = k} {r = r} at is simple without b e) =
        ((λ low. nothing_given b (shut k r at (ap (λ (o : Option Row). is_lowest (kind_at o)) (sym at) ∙ low))), (expands_shut b, expands_shut e))
    expands_shut (operation {k = k} {r = r} {input = input} {output = output} at is i o e) = (
      (λ low. absurd (false≢true (sym (operation_not_lowest r is) ∙ ap (λ (o : Option Row). is_lowest (kind_at o)) (sym at) ∙ low))),
      (
        (
          part_shut (Input k) refl (input_of rows k) (first_at is_input (block_of rows k)) input i,
          (expands_shut i, (part_shut (Output k) refl (output_of rows k) (first_at is_output (block_of rows k)) output o, (expands_shut o, tt))),
        ),
        expands_shut e,
      ),
    )
    expands_shut (uses {k = k} {d = d} {r = r} {copies = copies} {given = given} at is refers b g e) = (
      (λ low. absurd (false≢true (sym (named_not_lowest r (refers_word files rows k d r at refers)) ∙ ap (λ (o : Option Row). is_lowest (kind_at o)) (sym at) ∙ low))),
      (joined_shut copies given (expands_shut b) (expands_shut g), expands_shut e),
    )

  -- the item above one is of another kind
  parent_high : (parent : Option ℕ) (first : ℕ) (t : Tree) → Shut t → (i p : ℕ) (x : Item) → slice_get (item_list parent first t) i ≡ Some x → x.parent ≡ Some p
      → (parent ≡ Some p) ⊎ ((j : ℕ) × (y : Item) × (p ≡ first + j) × (slice_get (item_list parent first t) j ≡ Some y) × (is_lowest (kind_of rows y.origin) ≡ false))
  parent_high parent first none all i p x at up = absurd (let bad : None ≡ Some x = at in cc)
  parent_high parent first (item o below behind) all zero p x at up =
      inl (ap (λ (y : Item). y.parent) (same_Some (record { origin = o; parent = parent }) x at) ∙ up)
  parent_high parent first (item o below behind) all (suc i) p x at up =
      let inside : List Item = item_list (Some first) (first + 1) below in
      let beside : List Item = item_list parent (first + 1 + count below) behind in
      let long = listed_long (Some first) (first + 1) below in
      elim (in_lists inside beside i x at) [
        | inl h ↦ elim (parent_high (Some first) (first + 1) below all.1.0 i p x h up) [
          | inl same ↦
              let e : first ≡ p = same_Some first p same in
              inr (0, record { origin = o; parent = parent }, omega (arith, e), refl, high h)
          | inr s ↦ inr (suc s.0, s.1, (let e = s.2 in omega (arith, e)), in_first inside beside s.0 s.1 s.3, s.4)
        ]
        | inr h ↦ elim (parent_high parent (first + 1 + count below) behind all.1.1 h.0 p x h.2 up) [
          | inl same ↦ inl same
          | inr s ↦ inr (suc (length inside + s.0), s.1, (let e = s.2 in omega (arith, e, long)), in_second inside beside (length inside + s.0) s.0 s.1 refl s.3, s.4)
        ]
      ]
    where
      high : slice_get (item_list (Some first) (first + 1) below) i ≡ Some x → is_lowest (kind_of rows o) ≡ false
      high h = elim (cases_Bool (is_lowest (kind_of rows o))) [
        | inl low ↦ absurd (let bad : None ≡ Some x = sym (ap (λ (t : Tree). slice_get (item_list (Some first) (first + 1) t) i) (all.0 low)) ∙ h in cc)
        | inr isnt ↦ isnt
      ]

  pub parents_high : (t : Tree) (items : List Item) → items ≡ item_list None 0 t → Shut t → (i p : ℕ) (x : Item) → slice_get items i ≡ Some x → x.parent ≡ Some p
      → (y : Item) × (slice_get items p ≡ Some y) × (is_lowest (kind_of rows y.origin) ≡ false)
  parents_high t items is all i p x at up =
      elim (parent_high None 0 t all i p x (ap (λ (xs : List Item). slice_get xs i) (sym is) ∙ at) up) [
        | inl bad ↦ absurd (let no : None ≡ Some p = bad in cc)
        | inr s ↦
            let e : p ≡ s.0 = (let e = s.2 in omega (arith, e)) in
            (s.1, ap (slice_get items) e ∙ ap (λ (xs : List Item). slice_get xs s.0) is ∙ s.3, s.4)
      ]

-- so it is in the whole expansion
pub whole_high : (files : Files) (marks : List Bool) (order : List ℕ) (own : ℕ) (items : List Item)
    → ((k : ℕ) (r : Row) → slice_get (rows_of files) k ≡ Some r → is_lowest (kind_at (Some r)) ≡ true → those is_node_or_uses (rows_of files) (block_of (rows_of files) k) ≡ [])
    → IsWhole files marks order own items → (i p : ℕ) (x : Item) → slice_get items i ≡ Some x → x.parent ≡ Some p
    → (y : Item) × (slice_get items p ≡ Some y) × (is_lowest (kind_of (rows_of files) y.origin) ≡ false)
whole_high files marks order own items shut is =
    let rows : List Row = rows_of files in
    let one : (number : ℕ → List ℕ) (ks : List ℕ) (trees : List Tree) → length trees ≡ length ks
    → ((n k : ℕ) (t : Tree) → slice_get ks n ≡ Some k → slice_get trees n ≡ Some t → Expands (map brief_of files) rows (number k) t)
    → (n : ℕ) (t : Tree) → slice_get trees n ≡ Some t → Shut rows t =
    λ number ks trees each expands n t at. elim ((slice_get_cases ks n).1) [
      | inl (k, within, there, e) ↦ expands_shut rows (map brief_of files) shut (expands n k t there at)
      | inr (past, there) ↦ absurd (let l = slice_get_within trees n t at in omega (arith, l, past, each))
    ] in
    parents_high rows (join (all_of is.trees) (all_of is.added)) items is.listed
    (joined_shut rows (all_of is.trees) (all_of is.added)
    (all_shut rows is.trees (one (given_at (map brief_of files) rows marks) order is.trees is.are.each is.are.expands))
    (all_shut rows is.added (one (block_of rows) (augments_of (map brief_of files) rows marks) is.added is.are_added.each is.are_added.expands)))
