-- A uses has an item for each statement in the block of one of its augments that gives one.
use Rattle.std.proofs.Common.{inl, inr, ◌≡◌, ℕ, zero, suc, ◌+◌, Bool, true, List, [], ◌∷◌, length, map, Option, Some, None, refl, sym, ◌∙◌, ap, subst, arith}
use Rattle.std.specs.List.{Contains, flat_map, slice_get}
use Rattle.std.proofs.lemmas.Bool.{false≢true}
use Rattle.std.proofs.lemmas.List.Elements.{Contains-append_left, Contains-append_right}
use Rattle.std.proofs.lemmas.Option.{same_Some, slice_get_cases, slice_get_within}
use Rattle.yv_link_scopes.specs.Files.{Briefs, Files, brief_of}
use Rattle.yv_link_scopes.specs.RowList.{rows_of}
use Rattle.yv_link_scopes.specs.Rows.{Row}
use Rattle.yv_link_definitions.specs.Refers as refers
use Rattle.yv_link_definitions.specs.Refers.{RefersTo}
use Rattle.yv_expand_statements.specs.StatementBlocks.{given_at, block_of, augments_of, is_augment, is_node_or_uses, those}
use Rattle.yv_expand_statements.specs.Origin.{number_of}
use Rattle.yv_expand.specs.Tree.{Item, Tree, all_of, count, item, join, item_list, none}
use Rattle.yv_expand_statements.specs.declared.origin.Origin.{Origin}
use Rattle.yv_expand_statements.specs.declared.origin.Origin.TheVariants.{Statement}
use Rattle.yv_expand.specs.Expansion.{IsWhole}
use Rattle.yv_expand.specs.Expands.{Expands}
use Rattle.yv_expand.specs.Expands.Expands.{nothing, node, operation, other, uses}
use Rattle.yv_expand_statements.specs.Kinds.{is_uses}
use Rattle.yv_expand_uses.specs.Kinds.{kind_of}
use Rattle.yv_expand_tree.proofs.NodePositions.{in_first, in_lists, in_second, listed_long}
use Rattle.yv_expand_definition.specs.Expansion.{AllRefer}
use Rattle.yv_expand_laws.proofs.FoundItems.{not_none}
use Rattle.yv_expand_laws.proofs.FrameSequences.{nothing_stands}
use Rattle.yv_expand_laws.proofs.KeywordKinds.{input_is, operation_item, output_is, statement_kind}
use Rattle.yv_expand_laws.proofs.TopItems.{HasTop, expands_top, joined_second, listed_has}
use Rattle.yv_expand_laws.proofs.BlockNodes.{first_or}

-- a statement that gives an item stands in the block of an augment of a uses
pub record IsAdded (rows : List Row) (k j : ℕ) : Type 0 where
  pub augment : ℕ
  pub row : Row
  pub among : Contains (those is_augment rows (block_of rows k)) augment
  pub there : Contains (block_of rows augment) j
  pub at : slice_get rows j ≡ Some row
  pub item : is_node_or_uses row ≡ true

module _ (files : Briefs) (rows : List Row) (refer : AllRefer files rows) where
  abbrev HaveAdded : Tree → Type 0
  HaveAdded none = Unit {0}
  HaveAdded (item o below behind) =
      ((k j : ℕ) → o ≡ Statement k → is_uses (kind_of rows o) ≡ true → IsAdded rows k j → HasTop j below) × (HaveAdded below × HaveAdded behind)

  added_joined : (t u : Tree) → HaveAdded t → HaveAdded u → HaveAdded (join t u)
  added_joined none u p q = q
  added_joined (item o below behind) u p q = (p.0, (p.1.0, added_joined behind u p.1.1 q))

  added_all : (ts : List Tree) → ((n : ℕ) (t : Tree) → slice_get ts n ≡ Some t → HaveAdded t) → HaveAdded (all_of ts)
  added_all [] each = tt
  added_all (t ∷ ts) each = added_joined t (all_of ts) (each 0 t refl) (added_all ts (λ n u at. each (suc n) u at))

  flat_in : (xs : List ℕ) (a j : ℕ) → Contains xs a → Contains (block_of rows a) j → Contains (flat_map (block_of rows) xs) j
  flat_in [] a j there h = absurd (nothing_stands a there)
  flat_in (x ∷ xs) a j there h = elim (first_or x xs a there) [
    | inl same ↦ Contains-append_left (block_of rows x) (flat_map (block_of rows) xs) j (subst (λ (n : ℕ). Contains (block_of rows n) j) (sym same) h)
    | inr more ↦ Contains-append_right (block_of rows x) (flat_map (block_of rows) xs) j (flat_in xs a j more h)
  ]

  -- what is no uses has none
  no_uses : (k : ℕ) (r : Row) → slice_get rows k ≡ Some r → ((d : ℕ) → RefersTo files rows k d → ⊥) → refers.is_uses r ≡ true → ⊥
  no_uses k r at none_meant is = (let d = refer k r at is in none_meant d.0 d.1)

  expands_added : {ks : List ℕ} {t : Tree} → Expands files rows ks t → HaveAdded t
  expands_added nothing = tt
  expands_added (other at isnt E) = expands_added E
  expands_added (node {k = k} {r = r} at is no_operation none_meant B E) = (
    (λ n j same of_uses added. absurd (no_uses k r at none_meant (sym (statement_kind rows k r at is) ∙ of_uses))),
    (expands_added B, expands_added E),
  )
  expands_added (operation {k = k} {r = r} at is I O E) =
      let x = operation_item r is in (
        (λ n j same of_uses added. absurd (false≢true (sym x.1 ∙ (sym (statement_kind rows k r at x.0) ∙ of_uses)))),
        (
          (
            (λ n j same of_uses added. absurd (false≢true (sym (ap is_uses (input_is rows k).0) ∙ of_uses))),
            (
              expands_added I,
              ((λ n j same of_uses added. absurd (false≢true (sym (ap is_uses (output_is rows k).0) ∙ of_uses))), (expands_added O, tt)),
            ),
          ),
          expands_added E,
        ),
      )
  expands_added (uses {k = k} {copies = copies} {given = given} at is meant C G E) = (
    (λ n j same of_uses added.
        let number : n ≡ k = sym (ap number_of same) in
        let among : Contains (those is_augment rows (block_of rows k)) added.augment =
        subst (λ (m : ℕ). Contains (those is_augment rows (block_of rows m)) added.augment) number added.among in
        joined_second j copies given
        (expands_top G j added.row (flat_in (those is_augment rows (block_of rows k)) added.augment j among added.there) added.at added.item)),
    (added_joined copies given (expands_added C) (expands_added G), expands_added E),
  )

  -- in the list the item is right below the uses
  added_listed : (parent : Option ℕ) (first : ℕ) (t : Tree) → HaveAdded t → (i k j : ℕ) (x : Item) → slice_get (item_list parent first t) i ≡ Some x → x.origin ≡ Statement k
      → is_uses (kind_of rows x.origin) ≡ true → IsAdded rows k j → (z : ℕ) × (slice_get (item_list parent first t) z ≡ Some (record { origin = Statement j; parent = Some (first + i) }))
  added_listed parent first none all i k j x at origin of_uses added = absurd (not_none at)
  added_listed parent first (item o below behind) all zero k j x at origin of_uses added =
      let same : o ≡ x.origin = ap (λ (y : Item). y.origin) (same_Some (record { origin = o; parent = parent }) x at) in
      let top : HasTop j below = all.0 k j (same ∙ origin) (ap (λ (z : Origin). is_uses (kind_of rows z)) same ∙ of_uses) added in
      let (z, there) = listed_has j (Some first) (first + 1) below top in (
        suc z,
        in_first (item_list (Some first) (first + 1) below) (item_list parent (first + 1 + count below) behind) z (record { origin = Statement j; parent = Some first }) there
            ∙ ap (λ (n : ℕ). Some (let y : Item = record { origin = Statement j; parent = Some n } in y)) (let e : first ≡ first + 0 = omega arith in e),
      )
  added_listed parent first (item o below behind) all (suc i) k j x at origin of_uses added =
      let inside : List Item = item_list (Some first) (first + 1) below in
      let beside : List Item = item_list parent (first + 1 + count below) behind in
      let long = listed_long (Some first) (first + 1) below in
      elim (in_lists inside beside i x at) [
        | inl h ↦
            let (z, there) = added_listed (Some first) (first + 1) below all.1.0 i k j x h origin of_uses added in (
              suc z,
              in_first inside beside z (record { origin = Statement j; parent = Some (first + 1 + i) }) there
                  ∙ ap (λ (n : ℕ). Some (let y : Item = record { origin = Statement j; parent = Some n } in y)) (let e : first + 1 + i ≡ first + suc i = omega arith in e),
            )
        | inr h ↦
            let (z, there) = added_listed parent (first + 1 + count below) behind all.1.1 h.0 k j x h.2 origin of_uses added in (
              suc (length inside + z),
              in_second inside beside (length inside + z) z (record { origin = Statement j; parent = Some (first + 1 + count below + h.0) }) refl there
                  ∙ ap (λ (n : ℕ). Some (let y : Item = record { origin = Statement j; parent = Some n } in y))
                  (let f = h.1 in let e : first + 1 + count below + h.0 ≡ first + suc i = omega (arith, f, long) in e),
            )
      ]

-- so it is among the items of files
pub item_added : (files : Files) (marks : List Bool) (order : List ℕ) (own : ℕ) (items : List Item) → AllRefer (map brief_of files) (rows_of files) → IsWhole files marks order own items
    → (i k j : ℕ) (x : Item) → slice_get items i ≡ Some x → x.origin ≡ Statement k → is_uses (kind_of (rows_of files) x.origin) ≡ true → IsAdded (rows_of files) k j
    → (z : ℕ) × (slice_get items z ≡ Some (record { origin = Statement j; parent = Some i }))
item_added files marks order own items refer is i k j x at origin of_uses added =
    let t : Tree = join (all_of is.trees) (all_of is.added) in
    let all : HaveAdded briefs rows refer t = added_joined briefs rows refer (all_of is.trees) (all_of is.added)
    (added_all briefs rows refer is.trees (each (given_at briefs rows marks) order is.trees is.are.each is.are.expands))
    (added_all briefs rows refer is.added (each (block_of rows) (augments_of briefs rows marks) is.added is.are_added.each is.are_added.expands)) in
    let (z, there) = added_listed briefs rows refer None 0 t all i k j x (ap (λ (xs : List Item). slice_get xs i) (sym is.listed) ∙ at) origin of_uses added in (
      z,
      ap (λ (xs : List Item). slice_get xs z) is.listed
          ∙ (there ∙ ap (λ (n : ℕ). Some (let y : Item = record { origin = Statement j; parent = Some n } in y)) (let e : 0 + i ≡ i = omega arith in e)),
    )
  where
    briefs : Briefs
    briefs = map brief_of files

    rows : List Row
    rows = rows_of files

    each : (number : ℕ → List ℕ) (ks : List ℕ) (trees : List Tree) → length trees ≡ length ks
        → ((n k : ℕ) (t : Tree) → slice_get ks n ≡ Some k → slice_get trees n ≡ Some t → Expands (map brief_of files) (rows_of files) (number k) t)
        → (n : ℕ) (t : Tree) → slice_get trees n ≡ Some t → HaveAdded (map brief_of files) (rows_of files) refer t
    each number ks trees many expands n t at = elim ((slice_get_cases ks n).1) [
      | inl (k, within, there, e) ↦ expands_added (map brief_of files) (rows_of files) refer (expands n k t there at)
      | inr (past, there) ↦ (let l = slice_get_within trees n t at in absurd (omega (arith, l, past, many)))
    ]
