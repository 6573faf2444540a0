-- What stands right below a node in an expansion stands in the block of its statement, or is a part
-- of it that isn't written.
use Rattle.std.proofs.Common.{inl, inr, ◌⊎◌, ◌≡◌, ℕ, zero, suc, ◌+◌, not, Bool, true, false, List, [], ◌∷◌, map, length, refl, sym, ◌∙◌, ap, subst, arith, codes, Option, Some, None}
use Rattle.std.specs.List.{Contains, slice_get}
use Rattle.std.specs.Option.{unwrap_or}
use Rattle.std.proofs.lemmas.Bool.{false≢true}
use Rattle.std.proofs.lemmas.Option.{same_Some, slice_get_cases, slice_get_within}
use Rattle.std.proofs.lemmas.Slice.Eq.{bytes_eq-Decides}
use Rattle.yv_link_scopes.specs.Files.{Briefs, Files, brief_of}
use Rattle.yv_link_scopes.specs.RowList.{rows_of}
use Rattle.yv_link_scopes.specs.Rows.{Row}
use Rattle.yv_link_definitions.specs.Refers as refers
use Rattle.yv_expand_statements.specs.StatementBlocks.{given_at, block_of, augments_of, first_of, input_of, is_at, is_input, is_node_or_uses, is_output, output_of, part, part_block, those}
use Rattle.yv_expand_statements.specs.Origin.{number_of}
use Rattle.yv_expand.specs.Tree.{Item, Tree, all_of, count, item, join, item_list, none}
use Rattle.yv_expand_statements.specs.declared.origin.Origin.{Origin}
use Rattle.yv_expand_statements.specs.declared.origin.Origin.TheVariants.{Statement, Input, Output}
use Rattle.yv_expand.specs.Expansion.{IsWhole}
use Rattle.yv_expand.specs.Expands.{Expands, node, nothing, operation, other, uses}
use Rattle.yv_expand_statements.specs.declared.statement_kind.StatementKind.TheVariants as kind
use Rattle.yv_expand_statements.specs.Kinds.{is_uses, kind_of_keyword}
use Rattle.yv_expand_uses.specs.Kinds.{kind_at, kind_of}
use Rattle.yv_expand_tree.proofs.NodePositions.{in_first, in_lists, in_second, listed_long}
use Rattle.yv_expand_laws.specs.Conditions.{gives_node, is_node_kind, stands_in_node}
use Rattle.yv_expand_laws.proofs.BlockStatements.{block_scope, filter_in, first_passes, row_at}
use Rattle.yv_expand_laws.proofs.FoundItems.{not_none, there_first, there_later}
use Rattle.yv_expand_laws.proofs.FrameSequences.{nothing_stands}
use Rattle.yv_expand_laws.proofs.KeywordKinds.{input_is, item_kind, node_is, output_is, operation_item, refers_uses, statement_kind}

input_gives : is_node_kind (kind_of_keyword (codes "input")) ≡ true
unfolding kind_of_keyword
input_gives = refl

output_gives : is_node_kind (kind_of_keyword (codes "output")) ≡ true
unfolding kind_of_keyword
output_gives = refl

module _ (rows : List Row) where
  -- a part of an operation that isn't written
  abbrev pub IsUnwritten : Origin → Type 0
  IsUnwritten (Statement k) = ⊥
  IsUnwritten (Input k) = Unit {0}
  IsUnwritten (Output k) = Unit {0}

  -- an item stands right below one
  abbrev pub IsRightBelow : Origin → Origin → Type 0
  IsRightBelow o b = (stands_in_node rows (slice_get rows (number_of b)) ≡ true) ⊎ (IsUnwritten b × (number_of b ≡ number_of o))

  -- one of the items of a tree that have no other above them
  abbrev IsTop : Tree → Origin → Type 0
  IsTop none b = ⊥
  IsTop (item o below behind) b = (o ≡ b) ⊎ IsTop behind b

  abbrev pub AreBelow : Tree → Type 0
  AreBelow none = Unit {0}
  AreBelow (item o below behind) =
      (is_uses (kind_of rows o) ≡ false → (b : Origin) → IsTop below b → IsRightBelow o b) × (AreBelow below × AreBelow behind)

  joined_below : (t u : Tree) → AreBelow t → AreBelow u → AreBelow (join t u)
  joined_below none u p q = q
  joined_below (item o below behind) u p q = (p.0, (p.1.0, joined_below behind u p.1.1 q))

  all_below : (ts : List Tree) → ((n : ℕ) (t : Tree) → slice_get ts n ≡ Some t → AreBelow t) → AreBelow (all_of ts)
  all_below [] each = tt
  all_below (t ∷ ts) each = joined_below t (all_of ts) (each 0 t refl) (all_below ts (λ n u at. each (suc n) u at))

  -- what stands in the block of a node's statement stands in a node
  in_node : (k j : ℕ) → gives_node (slice_get rows k) ≡ true → Contains (block_of rows k) j → stands_in_node rows (slice_get rows j) ≡ true
  in_node k j is h =
      let x = block_scope rows k j h in
      ap (stands_in_node rows) x.1 ∙ (ap (λ (n : ℕ). gives_node (slice_get rows n)) x.2 ∙ is)

  item_gives : (k : ℕ) (r : Row) → slice_get rows k ≡ Some r → is_node_or_uses r ≡ true → is_uses (kind_of rows (Statement k)) ≡ false
      → gives_node (slice_get rows k) ≡ true
  item_gives k r at is isnt =
      let kd = item_kind r is in
      let same : kind_of rows (Statement k) ≡ kd.0 = ap kind_at at ∙ ap (λ o. unwrap_or o kind.Uses) kd.1 in
      ap gives_node at ∙ (ap is_node_kind kd.1 ∙ (node_is kd.0 ∙ ap not (ap is_uses (sym same) ∙ isnt)))

  first_in : (xs : List ℕ) (j : ℕ) → slice_get xs 0 ≡ Some j → Contains xs j
  first_in [] j e = absurd (not_none e)
  first_in (x ∷ xs) j e = subst (Contains (x ∷ xs)) (same_Some x j e) (there_first x xs)

  module _ (files : Briefs) where
    tops : {ks : List ℕ} {t : Tree} → Expands files rows ks t → (b : Origin) → IsTop t b → (k : ℕ) × Contains ks k × (b ≡ Statement k)
    tops nothing b h = absurd h
    tops (other {k = k} {others = others} at isnt e) b h = (let x = tops e b h in (x.0, there_later k x.0 others x.1, x.2))
    tops (node {k = k} {others = others} at is simple without low e) b h = elim h [
      | inl same ↦ (k, there_first k others, sym same)
      | inr rest ↦ (let x = tops e b rest in (x.0, there_later k x.0 others x.1, x.2))
    ]
    tops (operation {k = k} {others = others} at is i o e) b h = elim h [
      | inl same ↦ (k, there_first k others, sym same)
      | inr rest ↦ (let x = tops e b rest in (x.0, there_later k x.0 others x.1, x.2))
    ]
    tops (uses {k = k} {others = others} at is refers c g e) b h = elim h [
      | inl same ↦ (k, there_first k others, sym same)
      | inr rest ↦ (let x = tops e b rest in (x.0, there_later k x.0 others x.1, x.2))
    ]

    block_tops : (k : ℕ) {t : Tree} → Expands files rows (block_of rows k) t → gives_node (slice_get rows k) ≡ true → (o b : Origin)
        → IsTop t b → IsRightBelow o b
    block_tops k e gives o b h =
        let x = tops e b h in
        inl (ap (λ (z : Origin). stands_in_node rows (slice_get rows (number_of z))) x.2 ∙ in_node k x.0 gives x.1)

    -- what stands below a part of an operation
    part_tops : (test : Row → Bool) (k : ℕ) (unwritten : Origin) (t : Tree)
        → ((j : ℕ) → first_of test rows (block_of rows k) ≡ Some j → gives_node (slice_get rows j) ≡ true)
        → Expands files rows (part_block rows (first_of test rows (block_of rows k))) t → (b : Origin) → IsTop t b
        → IsRightBelow (part unwritten (first_of test rows (block_of rows k))) b
    part_tops test k unwritten t gives e b h = by (first_of test rows (block_of rows k)) refl e
      where
        by : (o : Option ℕ) → first_of test rows (block_of rows k) ≡ o → Expands files rows (part_block rows o) t
            → IsRightBelow (part unwritten o) b
        by None is e = (let x = tops e b h in absurd (nothing_stands x.0 x.1))
        by (Some j) is e = block_tops j e (gives j is) (Statement j) b h

    -- a part stands right below its operation
    part_is : (test : Row → Bool) (k : ℕ) (unwritten : Origin) → IsUnwritten unwritten → number_of unwritten ≡ k
        → gives_node (slice_get rows k) ≡ true
        → IsRightBelow (Statement k) (part unwritten (first_of test rows (block_of rows k)))
    part_is test k unwritten un same gives = by (first_of test rows (block_of rows k)) refl
      where
        by : (o : Option ℕ) → first_of test rows (block_of rows k) ≡ o → IsRightBelow (Statement k) (part unwritten o)
        by None is = inr (un, same)
        by (Some j) is =
            inl (in_node k j gives (filter_in (is_at test rows) (block_of rows k) j (first_in (those test rows (block_of rows k)) j is)).0)

    word_gives : (test : Row → Bool) (word : List ℕ) → ((r : Row) → test r ≡ true → r.head.keyword ≡ word)
        → is_node_kind (kind_of_keyword word) ≡ true → (k j : ℕ)
        → first_of test rows (block_of rows k) ≡ Some j → gives_node (slice_get rows j) ≡ true
    word_gives test word named gives k j is =
        let row = row_at test rows j (first_passes (is_at test rows) (block_of rows k) j is) in
        ap gives_node row.1 ∙ (ap (λ w. is_node_kind (kind_of_keyword w)) (named row.0 row.2) ∙ gives)

    input_there : (k j : ℕ) → input_of rows k ≡ Some j → gives_node (slice_get rows j) ≡ true
    input_there = word_gives is_input (codes "input") (λ r h. (bytes_eq-Decides r.head.keyword (codes "input")).0 h) input_gives

    output_there : (k j : ℕ) → output_of rows k ≡ Some j → gives_node (slice_get rows j) ≡ true
    output_there = word_gives is_output (codes "output") (λ r h. (bytes_eq-Decides r.head.keyword (codes "output")).0 h) output_gives

    pub expands_below : {ks : List ℕ} {t : Tree} → Expands files rows ks t → AreBelow t
    expands_below nothing = tt
    expands_below (other at isnt e) = expands_below e
    expands_below (node {k = k} {r = r} at is simple without low e) =
        ((λ isnt b h. block_tops k low (item_gives k r at is isnt) (Statement k) b h), (expands_below low, expands_below e))
    expands_below (operation {k = k} {r = r} {input = input} {output = output} at is i o e) = (
      (λ isnt b h. elim h [
        | inl same ↦ subst (IsRightBelow (Statement k)) same (part_is is_input k (Input k) tt refl (item_gives k r at (operation_item r is).0 isnt))
        | inr rest ↦ elim rest [
          | inl same ↦ subst (IsRightBelow (Statement k)) same (part_is is_output k (Output k) tt refl (item_gives k r at (operation_item r is).0 isnt))
          | inr bad ↦ absurd bad
        ]
      ]),
      (
        (
          (λ isnt b h. part_tops is_input k (Input k) input (input_there k) i b h),
          (expands_below i, ((λ isnt b h. part_tops is_output k (Output k) output (output_there k) o b h), (expands_below o, tt))),
        ),
        expands_below e,
      ),
    )
    expands_below (uses {k = k} {d = d} {r = r} {copies = copies} {given = given} at is refers c g e) = (
      (λ isnt b h. absurd (false≢true (sym isnt ∙ (statement_kind rows k r at is ∙ (refers_uses files rows k d r at is refers).0)))),
      (joined_below copies given (expands_below c) (expands_below g), expands_below e),
    )

  -- what stands above an item in the list of a tree
  above_is : (parent : Option ℕ) (first : ℕ) (t : Tree) → AreBelow t → (i p : ℕ) (x : Item) → slice_get (item_list parent first t) i ≡ Some x
      → x.parent ≡ Some p
      → ((parent ≡ Some p) × IsTop t x.origin)
      ⊎ ((j : ℕ) × (y : Item) × (p ≡ first + j) × (slice_get (item_list parent first t) j ≡ Some y) × (is_uses (kind_of rows y.origin) ≡ false → IsRightBelow y.origin x.origin))
  above_is parent first none all i p x at up = absurd (not_none at)
  above_is parent first (item o below behind) all zero p x at up =
      let same : record { origin = o; parent = parent } ≡ x = same_Some (record { origin = o; parent = parent }) x at in
      inl (ap (λ (y : Item). y.parent) same ∙ up, inl (ap (λ (y : Item). y.origin) same))
  above_is parent first (item o below behind) all (suc i) p x at up =
      let inside : List Item = item_list (Some first) (first + 1) below in
      let beside : List Item = item_list parent (first + 1 + count below) behind in
      let long = listed_long (Some first) (first + 1) below in
      elim (in_lists inside beside i x at) [
        | inl h ↦ elim (above_is (Some first) (first + 1) below all.1.0 i p x h up) [
          | inl top ↦
              let e : first ≡ p = same_Some first p top.0 in
              inr (0, record { origin = o; parent = parent }, omega (arith, e), refl, λ isnt. all.0 isnt x.origin top.1)
          | inr s ↦ inr (suc s.0, s.1, (let e = s.2 in omega (arith, e)), in_first inside beside s.0 s.1 s.3, s.4)
        ]
        | inr h ↦ elim (above_is parent (first + 1 + count below) behind all.1.1 h.0 p x h.2 up) [
          | inl top ↦ inl (top.0, inr top.1)
          | inr s ↦ inr (suc (length inside + s.0), s.1, (let e = s.2 in omega (arith, e, long)), in_second inside beside (length inside + s.0) s.0 s.1 refl s.3, s.4)
        ]
      ]

-- an item of files that stands below one that is a node stands in the block of its statement, or is
-- a part of it that isn't written
pub stands_below : (files : Files) (marks : List Bool) (order : List ℕ) (own : ℕ) (items : List Item)
    → IsWhole files marks order own items → (i p : ℕ) (x y : Item)
    → slice_get items i ≡ Some x → x.parent ≡ Some p → slice_get items p ≡ Some y → is_uses (kind_of (rows_of files) y.origin) ≡ false
    → IsRightBelow (rows_of files) y.origin x.origin
stands_below files marks order own items is i p x y at up above isnt =
    let whole_is : AreBelow rows (join (all_of is.trees) (all_of is.added)) = joined_below rows (all_of is.trees) (all_of is.added)
    (all_below rows is.trees (each (given_at (map brief_of files) rows marks) order is.trees is.are.each is.are.expands))
    (all_below rows is.added (each (block_of rows) (augments_of (map brief_of files) rows marks) is.added is.are_added.each is.are_added.expands)) in
    elim (above_is rows None 0 (join (all_of is.trees) (all_of is.added)) whole_is i p x (ap (λ (xs : List Item). slice_get xs i) (sym is.listed) ∙ at) up) [
      | inl top ↦ absurd (not_none top.0)
      | inr s ↦
          let e : s.0 ≡ p = (let f = s.2 in omega (arith, f)) in
          let same : s.1 ≡ y = same_Some s.1 y (sym s.3 ∙ (ap (λ (xs : List Item). slice_get xs s.0) (sym is.listed) ∙ (ap (slice_get items) e ∙ above))) in
          subst (λ (z : Item). IsRightBelow rows z.origin x.origin) same (s.4 (ap (λ (z : Item). is_uses (kind_of rows z.origin)) same ∙ isnt))
    ]
  where
    rows : List Row
    rows = rows_of files

    each : (number : ℕ → List ℕ) (ks : List ℕ) (trees : List Tree) → length trees ≡ length ks
        → ((n k : ℕ) (t : Tree) → slice_get ks n ≡ Some k → slice_get trees n ≡ Some t → Expands (map brief_of files) rows (number k) t)
        → (n : ℕ) (t : Tree)
        → slice_get trees n ≡ Some t → AreBelow rows t
    each number ks trees many expands n t at = elim ((slice_get_cases ks n).1) [
      | inl (k, within, there, e) ↦ expands_below rows (map brief_of files) (expands n k t there at)
      | inr (past, there) ↦ (let l = slice_get_within trees n t at in absurd (omega (arith, l, past, many)))
    ]

-- an item that is a uses is made of a uses statement
module _ (rows : List Row) where
  abbrev pub IsUsesAt : Origin → Type 0
  IsUsesAt o = (k : ℕ) × (r : Row) × (o ≡ Statement k) × (slice_get rows k ≡ Some r) × (refers.is_uses r ≡ true)

  abbrev AreUses : Tree → Type 0
  AreUses none = Unit {0}
  AreUses (item o below behind) = (is_uses (kind_of rows o) ≡ true → IsUsesAt o) × (AreUses below × AreUses behind)

  uses_joined : (t u : Tree) → AreUses t → AreUses u → AreUses (join t u)
  uses_joined none u p q = q
  uses_joined (item o below behind) u p q = (p.0, (p.1.0, uses_joined behind u p.1.1 q))

  uses_all : (ts : List Tree) → ((n : ℕ) (t : Tree) → slice_get ts n ≡ Some t → AreUses t) → AreUses (all_of ts)
  uses_all [] each = tt
  uses_all (t ∷ ts) each = uses_joined t (all_of ts) (each 0 t refl) (uses_all ts (λ n u at. each (suc n) u at))

  statement_uses : (k : ℕ) (r : Row) → slice_get rows k ≡ Some r → is_node_or_uses r ≡ true → is_uses (kind_of rows (Statement k)) ≡ true
      → IsUsesAt (Statement k)
  statement_uses k r at given is = (k, r, refl, at, sym (statement_kind rows k r at given) ∙ is)

  part_uses : (o : Origin) → kind_of rows o ≡ kind.Input → is_uses (kind_of rows o) ≡ true → IsUsesAt o
  part_uses o same is = absurd (false≢true (sym (ap is_uses same) ∙ is))

  other_part_uses : (o : Origin) → kind_of rows o ≡ kind.Output → is_uses (kind_of rows o) ≡ true → IsUsesAt o
  other_part_uses o same is = absurd (false≢true (sym (ap is_uses same) ∙ is))

  expands_uses : (files : Briefs) {ks : List ℕ} {t : Tree} → Expands files rows ks t → AreUses t
  expands_uses files nothing = tt
  expands_uses files (other at isnt e) = expands_uses files e
  expands_uses files (node {k = k} {r = r} at is simple without low e) =
      (statement_uses k r at is, (expands_uses files low, expands_uses files e))
  expands_uses files (operation {k = k} {r = r} at is i o e) = (
    statement_uses k r at (operation_item r is).0,
    (
      (
        part_uses (part (Input k) (input_of rows k)) (input_is rows k).0,
        (expands_uses files i, (other_part_uses (part (Output k) (output_of rows k)) (output_is rows k).0, (expands_uses files o, tt))),
      ),
      expands_uses files e,
    ),
  )
  expands_uses files (uses {k = k} {r = r} {copies = copies} {given = given} at is refers c g e) =
      (statement_uses k r at is, (uses_joined copies given (expands_uses files c) (expands_uses files g), expands_uses files e))

  uses_listed : (parent : Option ℕ) (first : ℕ) (t : Tree) → AreUses t → (i : ℕ) (x : Item) → slice_get (item_list parent first t) i ≡ Some x
      → is_uses (kind_of rows x.origin) ≡ true → IsUsesAt x.origin
  uses_listed parent first none all i x at is = absurd (not_none at)
  uses_listed parent first (item o below behind) all zero x at is =
      let same : o ≡ x.origin = ap (λ (y : Item). y.origin) (same_Some (record { origin = o; parent = parent }) x at) in
      subst IsUsesAt same (all.0 (ap (λ (z : Origin). is_uses (kind_of rows z)) same ∙ is))
  uses_listed parent first (item o below behind) all (suc i) x at is =
      elim (in_lists (item_list (Some first) (first + 1) below) (item_list parent (first + 1 + count below) behind) i x at) [
        | inl h ↦ uses_listed (Some first) (first + 1) below all.1.0 i x h is
        | inr h ↦ uses_listed parent (first + 1 + count below) behind all.1.1 h.0 x h.2 is
      ]

pub item_uses : (files : Files) (marks : List Bool) (order : List ℕ) (own : ℕ) (items : List Item) → IsWhole files marks order own items
    → (i : ℕ) (x : Item)
    → slice_get items i ≡ Some x → is_uses (kind_of (rows_of files) x.origin) ≡ true → IsUsesAt (rows_of files) x.origin
item_uses files marks order own items is i x at of_uses =
    uses_listed rows None 0 (join (all_of is.trees) (all_of is.added)) (uses_joined rows (all_of is.trees) (all_of is.added)
    (uses_all rows is.trees (each (given_at (map brief_of files) rows marks) order is.trees is.are.each is.are.expands))
    (uses_all rows is.added (each (block_of rows) (augments_of (map brief_of files) rows marks) is.added is.are_added.each is.are_added.expands))) i x
    (ap (λ (xs : List Item). slice_get xs i) (sym is.listed) ∙ at) of_uses
  where
    rows : List Row
    rows = rows_of files

    each : (number : ℕ → List ℕ) (ks : List ℕ) (trees : List Tree) → length trees ≡ length ks
        → ((n k : ℕ) (t : Tree) → slice_get ks n ≡ Some k → slice_get trees n ≡ Some t → Expands (map brief_of files) rows (number k) t)
        → (n : ℕ) (t : Tree)
        → slice_get trees n ≡ Some t → AreUses rows t
    each number ks trees many expands n t at = elim ((slice_get_cases ks n).1) [
      | inl (k, within, there, e) ↦ expands_uses rows (map brief_of files) (expands n k t there at)
      | inr (past, there) ↦ (let l = slice_get_within trees n t at in absurd (omega (arith, l, past, many)))
    ]
