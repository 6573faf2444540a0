-- The augments of uses without a target are refused so by both definitions.
use Rattle.std.proofs.Common.{inl, inr, ◌≡◌, ℕ, zero, suc, ◌+◌, Bool, true, false, if◌then◌else◌, List, [], ◌∷◌, ◌++◌, length, map, get_or, Option, Some, None, refl, sym, ◌∙◌, ap, subst, arith, eqb-true}
use Rattle.std.specs.List.{Contains, flat_map, slice_get}
use Rattle.std.proofs.lemmas.Bool.{false≢true}
use Rattle.std.proofs.lemmas.List.Elements.{Contains-append_cases}
use Rattle.std.proofs.lemmas.Option.{same_Some, slice_get_within}
use Rattle.yv_text_statement.specs.Order.{refusal_at}
use Rattle.yv_text_statement.specs.declared.refusal.Code.TheVariants as code
use Rattle.yv_text_statement.specs.declared.refusal.Refusal.{Refusal}
use Rattle.yv_link_scopes.specs.Files.{Briefs, Files, brief_of}
use Rattle.yv_link_scopes.specs.RowList.{rows_of}
use Rattle.yv_link_scopes.specs.Rows.{Row}
use Rattle.yv_expand_statements.specs.StatementBlocks.{given_at, block_of, top_of, augments_of, first_of, input_of, is_at, is_augment, is_input, is_output, output_of, part, part_block, those}
use Rattle.yv_base_tables.specs.Families.{is_place, numbers_from}
use Rattle.yv_expand_statements.specs.Origin.{number_of}
use Rattle.yv_expand.specs.Tree.{Item, Tree, all_of, count, item, join, item_list, none}
use Rattle.yv_expand_statements.specs.declared.origin.Origin.{Origin}
use Rattle.yv_expand_statements.specs.declared.origin.Origin.TheVariants.{Input, Output}
use Rattle.yv_expand.specs.Expansion.{IsWhole}
use Rattle.yv_expand.specs.Expands.{Expands}
use Rattle.yv_expand.specs.Expands.Expands.{nothing, other, node, operation, uses}
use Rattle.yv_expand_rounds.specs.Tree.{IsTree}
use Rattle.yv_expand_rounds.specs.declared.row.ItemRow.{ItemRow}
use Rattle.yv_expand_uses.specs.Ends.{end_at}
use Rattle.yv_expand_augments.specs.Augmentation.{AreAugmented}
use Rattle.yv_expand_uses.specs.Spots.{Whole, labels_of, layout_of, whole}
use Rattle.yv_expand_augments.specs.MissingTargets.{MissesAt, MissesTarget}
use Rattle.yv_expand_uses.specs.AugmentOrder.{augment_places, augments_in}
use Rattle.yv_expand_uses.specs.declared.spot.Spot.{Spot}
use Rattle.yv_expand_changes.specs.Refusals.{IsThere}
use Rattle.yv_expand_refines.specs.Targets.{RefineMeaning}
use Rattle.yv_expand_tree.specs.Final.{final_items}
use Rattle.yv_expand_statements.specs.FileOrder.{marks_of, order_of}
use Rattle.yv_expand_definition.specs.Gives.{Wrong}
use Rattle.yv_expand_definition.proofs.GivenNodeUniqueness.{RefersToOne}
use Rattle.yv_expand_laws.specs.Files.{AreGiven, expansion_of, labels_in}
use Rattle.yv_expand_laws.specs.RefusedRefines.{IsAnyRefused}
use Rattle.yv_expand_laws.specs.Refines.{IsOfRefine}
use Rattle.yv_expand_laws.specs.Under.{FinalStands}
use Rattle.yv_expand_laws.specs.UsesTargets.{UsesTargetsAreOne}
use Rattle.yv_expand_laws.proofs.AskedJoined.{asked_joined}
use Rattle.yv_expand_laws.proofs.OuterConditions.{IsBelow, block_below, top_below}
use Rattle.yv_expand_laws.proofs.BlockStatements.{filter_in}
use Rattle.yv_expand_laws.proofs.FoundItems.{not_none, there_first, there_later}
use Rattle.yv_expand_laws.proofs.FrameSequences.{nothing_stands}
use Rattle.yv_expand_laws.proofs.FileMarks.{order_marked}
use Rattle.yv_expand_laws.proofs.Orders.{at_there}
use Rattle.yv_expand_laws.proofs.BlockRefusals.{AskedAt, OwnAt, UntargetedBy}
use Rattle.yv_expand_laws.proofs.BlockNodes.{first_or}
use Rattle.yv_expand_laws.proofs.StatementMarks.{past_roots}
use Rattle.yv_expand_laws.proofs.Targets.{contains_at, near}
use Rattle.yv_expand_laws.proofs.LabelsAndPaths.{there_is, told_at}

-- each item is made of a statement in a block
module _ (briefs : Briefs) (rows : List Row) where
  abbrev AllIn : Tree → Type 0
  AllIn none = Unit {0}
  AllIn (item o below behind) = IsBelow rows (number_of o) × AllIn below × AllIn behind

  abbrev AllBelow : List ℕ → Type 0
  AllBelow ks = (k : ℕ) → Contains ks k → IsBelow rows k

  joined_in : (t u : Tree) → AllIn t → AllIn u → AllIn (join t u)
  joined_in none u T U = U
  joined_in (item o below behind) u (here, B, T) U = (here, B, joined_in behind u T U)

  first_there : (xs : List ℕ) (j : ℕ) → slice_get xs 0 ≡ Some j → Contains xs j
  first_there [] j e = absurd (not_none e)
  first_there (x ∷ xs) j e = subst (Contains (x ∷ xs)) (same_Some x j e) (there_first x xs)

  part_in : (unwritten : Origin) (test : Row → Bool) (k : ℕ) → IsBelow rows (number_of unwritten) → IsBelow rows (number_of (part unwritten (first_of test rows (block_of rows k))))
  part_in unwritten test k own = by (first_of test rows (block_of rows k)) refl
    where
      by : (o : Option ℕ) → first_of test rows (block_of rows k) ≡ o → IsBelow rows (number_of (part unwritten o))
      by None is = own
      by (Some j) is = block_below rows k j (filter_in (is_at test rows) (block_of rows k) j (first_there (those test rows (block_of rows k)) j is)).0

  part_below : (o : Option ℕ) → AllBelow (part_block rows o)
  part_below None j h = absurd (nothing_stands j h)
  part_below (Some k) j h = block_below rows k j h

  flat_below : (xs : List ℕ) → AllBelow (flat_map (block_of rows) xs)
  flat_below [] j h = absurd (nothing_stands j h)
  flat_below (a ∷ xs) j h = elim (Contains-append_cases (block_of rows a) (flat_map (block_of rows) xs) j h) [ inl x ↦ block_below rows a j x | inr x ↦ flat_below xs j x ]

  expands_in : {numbers : List ℕ} {t : Tree} → Expands briefs rows numbers t → AllBelow numbers → AllIn t
  expands_in nothing all = tt
  expands_in (other {k = k} {others = others} at is E) all = expands_in E (λ j h. all j (there_later k j others h))
  expands_in (node {k = k} {others = others} at is no_operation none_meant B E) all =
      (all k (there_first k others), expands_in B (block_below rows k), expands_in E (λ j h. all j (there_later k j others h)))
  expands_in (operation {k = k} {others = others} at is I O E) all =
      let here = all k (there_first k others) in (
        here,
        (
          part_in (Input k) is_input k here,
          expands_in I (part_below (input_of rows k)),
          (part_in (Output k) is_output k here, expands_in O (part_below (output_of rows k)), tt),
        ),
        expands_in E (λ j h. all j (there_later k j others h)),
      )
  expands_in (uses {k = k} {d = d} {others = others} {copies = copies} {given = given} at is meant C G E) all = (
    all k (there_first k others),
    joined_in copies given (expands_in C (block_below rows d)) (expands_in G (flat_below (those is_augment rows (block_of rows k)))),
    expands_in E (λ j h. all j (there_later k j others h)),
  )

  abbrev Below : List Item → Type 0
  Below xs = (i : ℕ) (x : Item) → slice_get xs i ≡ Some x → IsBelow rows (number_of x.origin)

  in_either : (xs ys : List Item) → Below xs → Below ys → Below (xs ++ ys)
  in_either [] ys X Y i x at = Y i x at
  in_either (z ∷ xs) ys X Y zero x at = X zero x at
  in_either (z ∷ xs) ys X Y (suc i) x at = in_either xs ys (λ j y h. X (suc j) y h) Y i x at

  listed_in : (parent : Option ℕ) (n : ℕ) (t : Tree) → AllIn t → Below (item_list parent n t)
  listed_in parent n none T i x at = absurd (not_none at)
  listed_in parent n (item o below behind) (here, B, T) zero x at = subst (λ (y : Item). IsBelow rows (number_of y.origin)) (same_Some (record { origin = o; parent = parent }) x at) here
  listed_in parent n (item o below behind) (here, B, T) (suc i) x at =
      in_either (item_list (Some n) (n + 1) below) (item_list parent (n + 1 + count below) behind) (listed_in (Some n) (n + 1) below B) (listed_in parent (n + 1 + count below) behind T) i x at

  all_in : (trees : List Tree) → ((n : ℕ) (t : Tree) → slice_get trees n ≡ Some t → AllIn t) → AllIn (all_of trees)
  all_in [] T = tt
  all_in (t ∷ ts) T = joined_in t (all_of ts) (T 0 t refl) (all_in ts (λ n u at. T (suc n) u at))

  given_below : (marks : List Bool) (file : ℕ) → AllBelow (given_at briefs rows marks file)
  given_below marks file = by (get_or marks file false)
    where
      by : (b : Bool) → AllBelow (if b then top_of briefs rows file else [])
      by false k h = absurd (nothing_stands k h)
      by true k h = top_below rows briefs file k h

-- the items of files are so
items_below : (files : Files) (marks : List Bool) (order : List ℕ) (own : ℕ) (items : List Item) → IsWhole files marks order own items → Below (map brief_of files) (rows_of files) items
items_below files marks order own items expanded =
    let briefs : Briefs = map brief_of files in
    let rows : List Row = rows_of files in
    subst (Below briefs rows) (sym expanded.listed) (listed_in briefs rows None 0 (join (all_of expanded.trees) (all_of expanded.added))
    (joined_in briefs rows (all_of expanded.trees) (all_of expanded.added)
    (all_in briefs rows expanded.trees (λ n t at. (let l = slice_get_within expanded.trees n t at in let e = expanded.are.each in let file = there_is order n (omega (arith, l, e)) in
    expands_in briefs rows (expanded.are.expands n file.0 t file.1 at) (given_below briefs rows marks file.0))))
    (all_in briefs rows expanded.added (λ n t at. (let l = slice_get_within expanded.added n t at in let e = expanded.are_added.each in
    let a = there_is (augments_of briefs rows marks) n (omega (arith, l, e)) in
    expands_in briefs rows (expanded.are_added.expands n a.0 t a.1 at) (block_below rows a.0))))))

-- an augment among those of a block stands in it
abbrev IsScoped : (b n : ℕ) → List Row → (augment : ℕ) → Type 0
IsScoped b n rs a = (j : ℕ) × (r : Row) × (slice_get rs j ≡ Some r) × (a ≡ n + j) × (r.scope ≡ b)

scoped : (b n : ℕ) (rs : List Row) (a : ℕ) → Contains (numbers_from b n (augment_places rs)) a → IsScoped b n rs a
scoped b n [] a h = absurd (nothing_stands a h)
scoped b n (r ∷ rs) a h = by (λ more. scoped b (n + 1) rs a more) (is_place b (if is_augment r then Some r.scope else None)) refl h
  where
    rest : List ℕ
    rest = numbers_from b (n + 1) (augment_places rs)

    later : IsScoped b (n + 1) rs a → IsScoped b n (r ∷ rs) a
    later x = (let place = x.3 in (suc x.0, x.1, x.2, omega (arith, place), x.4))

    placed : (u : Bool) → is_place b (if u then Some r.scope else None) ≡ true → r.scope ≡ b
    placed true is = eqb-true r.scope b is
    placed false is = absurd (false≢true is)

    by : (Contains rest a → IsScoped b (n + 1) rs a) → (t : Bool) → is_place b (if is_augment r then Some r.scope else None) ≡ t
        → Contains (if t then n ∷ rest else rest) a → IsScoped b n (r ∷ rs) a
    by more false is there = later (more there)
    by more true is there = elim (first_or n rest a there) [ inl same ↦ (0, r, refl, omega (arith, same), placed (is_augment r) is) | inr x ↦ later (more x) ]

-- what is refused of refines is refused of no augment
pub of_refines : (files : Files) (spots : List Spot) (xs : List RefineMeaning) (e : Wrong) → IsAnyRefused files spots xs e → IsOfRefine e
of_refines files spots [] e h = absurd h
of_refines files spots (x ∷ xs) e h = elim h [ inl (k, inl (c, means)) ↦ inl c | inl (k, inr (c, u)) ↦ inr c | inr more ↦ of_refines files spots xs e more ]

no_refine : (e : Wrong) → e.code ≡ code.AugmentTarget → IsOfRefine e → ⊥
no_refine e c of = elim of [
  | inl a ↦ (let bad : code.AugmentTarget ≡ code.RefineTarget = sym c ∙ a in cc)
  | inr b ↦ (let bad : code.AugmentTarget ≡ code.BadRefine = sym c ∙ b in cc)
]

module _ (files : Files) (augments : List ℕ) (many : ℕ) (items : List Item) where
  abbrev w_of : Whole
  w_of = whole (map brief_of files) (rows_of files) augments many

  pub untargeted_at : (i : ℕ) (e : Wrong) → e.code ≡ code.AugmentTarget → AskedAt files augments many items i e → UntargetedBy files augments many items (slice_get (layout_of w_of items).spots i) i e.statement
  untargeted_at i e c asked = elim asked [
    | inl refused ↦ absurd (no_refine e c (of_refines files (layout_of w_of items).spots _ e refused))
    | inr (inl (d, by)) ↦ by
    | inr (inr (d, by)) ↦ absurd (let bad : code.AugmentTarget ≡ code.BadAugment = sym c ∙ d in cc)
  ]

  pub untargeted_there : (tree : List ItemRow) (i a : ℕ) (f : Refusal) (row : Row) → IsThere tree i → UntargetedBy files augments many items (slice_get (layout_of w_of items).spots i) i a
      → slice_get (rows_of files) a ≡ Some row → f ≡ refusal_at code.AugmentTarget row.file row.head → MissesTarget w_of items tree f
  untargeted_there tree i a f row t u found is = by (slice_get (layout_of w_of items).spots i) refl u
    where
      by : (o : Option Spot) → slice_get (layout_of w_of items).spots i ≡ o → UntargetedBy files augments many items o i a → MissesTarget w_of items tree f
      by None at never = absurd never
      by (Some s) at (is_so, (k, at_a, reaches)) = (
        t.place,
        slice_get_within tree t.place t.row t.at,
        t.row,
        t.at,
        subst (λ (n : ℕ). MissesAt w_of (layout_of w_of items) (end_at items n) n f) (sym t.is)
            (s, at, (is_so, (k, slice_get_within (augments_in (rows_of files) s.statement) k a at_a, a, at_a, (row, found, (reaches, is))))),
      )

module _ (files : Files) (marks : List Bool) (order : List ℕ) (own : ℕ) (items : List Item) (expanded : IsWhole files marks order own items) where
  abbrev augments_here : List ℕ
  augments_here = augments_of (map brief_of files) (rows_of files) marks

  abbrev w : Whole
  w = expansion_of files marks items

  abbrev spots : List Spot
  spots = (layout_of w items).spots

  -- an augment in the block of the statement of an item is none of a module
  pub no_module : (i : ℕ) (s : Spot) (k a : ℕ) → slice_get spots i ≡ Some s → slice_get (augments_in (rows_of files) s.statement) k ≡ Some a → Contains augments_here a → ⊥
  no_module i s j a at_s at_a there =
      let x = told_at w items i s at_s in
      let below : IsBelow (rows_of files) s.statement = subst (IsBelow (rows_of files)) (sym x.2.statement) (items_below files marks order own items expanded i x.0 x.1) in
      let far = past_roots files (λ file text. true) s.statement below.0 below.1 below.2 in
      let q = scope_of s.statement a (at_there (augments_in (rows_of files) s.statement) j a at_a) in
      let k = contains_at augments_here a there in
      let scope = q.2 in
      near files marks k.0 a k.1 (q.0, q.1, omega (arith, far, scope))
    where
      scope_of : (b a : ℕ) → Contains (augments_in (rows_of files) b) a → (r : Row) × (slice_get (rows_of files) a ≡ Some r) × (r.scope ≡ b)
      scope_of b a h =
          let x = scoped b 0 (rows_of files) a h in
          let place = x.3 in
          (x.1, ap (slice_get (rows_of files)) (let e : a ≡ x.0 = omega (arith, place) in e) ∙ x.2, x.4)

pub uses_targets_are_one : (files : Files) → RefersToOne files → FinalStands → UsesTargetsAreOne files
uses_targets_are_one files one_meant final_stands choice f its m r sound roots final tells E =
    let marks : List Bool = marks_of choice files in
    let order : List ℕ = order_of choice files in
    let augments : List ℕ = augments_of (map brief_of files) (rows_of files) marks in
    let w : Whole = expansion_of files marks f.items in
    let given : AreGiven files marks order = record { sound = sound; roots = roots; marked = order_marked choice files } in
    let grafted : AreAugmented w f.items f.state =
    subst (λ a. AreAugmented (whole (map brief_of files) (rows_of files) a (length f.items)) f.items f.state) final.augments final.grafted in
    let tree : IsTree (labels_in files marks f.items) f.state.groups f.tree =
    subst (λ a. IsTree (labels_of (layout_of (whole (map brief_of files) (rows_of files) a (length f.items)) f.items).spots) f.state.groups f.tree) final.augments final.is_tree in
    let known = asked_joined files marks order final.own f.items its given final.expanded tells one_meant final_stands m f.state f.tree E grafted tree in
    let By : List ℕ → Type 0 = λ a. MissesTarget (whole (map brief_of files) (rows_of files) a (length f.items)) f.items (final_items f) r in (
      (λ bad.
          let (place, less, x, at, (s, at_s, (is_so, (k, less', a, at_a, (row, found, (reaches, is)))))) = subst By final.augments bad in
          let e : Wrong = record { code = code.AugmentTarget; statement = a } in
          let not_there : Contains augments a → ⊥ = no_module files marks order final.own f.items final.expanded x.number s k a at_s at_a in
          let there : OwnAt files augments (length f.items) f.items x.number e =
          inl (refl, subst (λ o. UntargetedBy files augments (length f.items) f.items o x.number a) (sym at_s) (is_so, (k, at_a, reaches))) in
          (a, not_there, ((known e (inr (inl refl, not_there))).1 (x.number, record { place = place; row = x; at = at; is = refl }, inr there), (row, found, is)))),
      (λ (a, not_there, (there, (row, found, is))).
          let e : Wrong = record { code = code.AugmentTarget; statement = a } in
          let (i, stands, asked) = (known e (inr (inl refl, not_there))).0 there in
          subst By (sym final.augments) (untargeted_there files augments (length f.items) f.items (final_items f) i a r row stands
          (untargeted_at files augments (length f.items) f.items i e refl asked) found is)),
    )
