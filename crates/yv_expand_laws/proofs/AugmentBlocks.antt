-- What stands in the blocks of augments of modules stands below no other item.
use Rattle.std.proofs.Common.{◌⊎◌, inl, inr, ◌≡◌, ℕ, zero, suc, ◌+◌, Bool, true, false, if◌then◌else◌, List, [], ◌∷◌, ◌++◌, map, get_or, Option, Some, None, refl, sym, ◌∙◌, ap, subst, arith, codes}
use Rattle.std.specs.List.{Contains, flat_map, slice_get}
use Rattle.std.specs.Option.{unwrap_or}
use Rattle.std.specs.Str.{bytes_eq}
use Rattle.std.proofs.lemmas.Bool.{false≢true}
use Rattle.std.proofs.lemmas.List.Elements.{Contains-append_cases}
use Rattle.std.proofs.lemmas.Option.{same_Some, slice_get_within}
use Rattle.std.proofs.lemmas.Slice.Eq.{bytes_eq-Decides}
use Rattle.yv_link_scopes.specs.Files.{Briefs, Files, brief_of}
use Rattle.yv_link_scopes.specs.RowList.{rows_of}
use Rattle.yv_link_scopes.specs.Rows.{Row}
use Rattle.yv_link_definitions.specs.Refers as refers
use Rattle.yv_expand_statements.specs.StatementBlocks.{given_at, block_of, top_of, augments_of, first_of, input_of, is_at, is_augment, is_input, is_node_or_uses, is_operation, is_output, output_of, part, part_block, those}
use Rattle.yv_expand_statements.specs.Units.{operations}
use Rattle.yv_expand.specs.Tree.{Item, Tree, all_of, count, item, join, item_list, none}
use Rattle.yv_expand_statements.specs.declared.origin.Origin.{Origin}
use Rattle.yv_expand_statements.specs.declared.origin.Origin.TheVariants.{Input, Output, Statement}
use Rattle.yv_expand.specs.Expansion.{IsWhole}
use Rattle.yv_expand.specs.Expands.{Expands}
use Rattle.yv_expand.specs.Expands.Expands.{nothing, other, node, operation, uses}
use Rattle.yv_expand_statements.specs.declared.statement_kind.StatementKind.TheVariants as kind
use Rattle.yv_expand_uses.specs.Kinds.{kind_at, kind_of}
use Rattle.yv_expand_statements.specs.Kinds.{kind_of_keyword, takes}
use Rattle.yv_expand_augments.specs.Placement.{augment_around, augment_at}
use Rattle.yv_expand_tree.proofs.NodePositions.{in_first, in_lists, in_second}
use Rattle.yv_expand_laws.proofs.OuterConditions.{IsBelow, block_below, top_below}
use Rattle.yv_expand_laws.proofs.BlockStatements.{block_scope, filter_in, row_at}
use Rattle.yv_expand_laws.proofs.FoundItems.{not_none, there_first, there_later}
use Rattle.yv_expand_laws.proofs.FrameSequences.{nothing_stands}
use Rattle.yv_expand_laws.proofs.KeywordKinds.{among_all, operation_item, refers_uses}
use Rattle.yv_expand_laws.proofs.Orders.{augment_in}
use Rattle.yv_expand_laws.proofs.ExpansionStart.{count_listed}
use Rattle.yv_expand_laws.proofs.StatementMarks.{past_roots}
use Rattle.yv_expand_laws.proofs.TakenBlocks.{item_no_augment}
use Rattle.yv_expand_laws.proofs.Targets.{contains_at, near}
use Rattle.yv_expand_laws.proofs.LabelsAndPaths.{there_is}

abbrev TakesParts : List ℕ → Type 0
TakesParts word = (takes (unwrap_or (kind_of_keyword word) kind.Uses) kind.Input ≡ true) × (takes (unwrap_or (kind_of_keyword word) kind.Uses) kind.Output ≡ true)

parts_taken : (r : Row) → is_operation r ≡ true → TakesParts r.head.keyword
unfolding is_operation kind_of_keyword
parts_taken r h = among_all TakesParts operations r.head.keyword ((refl, refl), ((refl, refl), tt)) h

input_no_augment : (r : Row) → is_input r ≡ true → is_augment r ≡ false
input_no_augment r h = ap (λ word. bytes_eq word (codes "augment")) ((bytes_eq-Decides r.head.keyword (codes "input")).0 h)

output_no_augment : (r : Row) → is_output r ≡ true → is_augment r ≡ false
output_no_augment r h = ap (λ word. bytes_eq word (codes "augment")) ((bytes_eq-Decides r.head.keyword (codes "output")).0 h)

module _ (files : Files) (marks : List Bool) where
  abbrev briefs : Briefs
  briefs = map brief_of files

  abbrev rows : List Row
  rows = rows_of files

  abbrev augments : List ℕ
  augments = augments_of briefs rows marks

  -- a statement stands in the block of no augment
  abbrev Alone : ℕ → Type 0
  Alone j = (r : Row) × (slice_get rows j ≡ Some r) × (Contains augments r.scope → ⊥) × (augment_around rows (Some r) ≡ None)

  abbrev AllAlone : List ℕ → Type 0
  AllAlone ks = (k : ℕ) → Contains ks k → Alone k

  -- an item is a uses, and this is one of its augments
  pub record IsOf (q : Origin) (a : ℕ) : Type 0 where
    pub statement : ℕ
    pub row : Row
    pub is : q ≡ Statement statement
    pub at : slice_get rows statement ≡ Some row
    pub item : is_node_or_uses row ≡ true
    pub of_uses : refers.is_uses row ≡ true
    pub among : Contains (those is_augment rows (block_of rows statement)) a

  -- below an item a statement stands in the block of no augment, or of one of the uses above it
  abbrev Apart : Origin → ℕ → Type 0
  Apart q j = (r : Row) × (slice_get rows j ≡ Some r) × (Contains augments r.scope → ⊥) × ((augment_around rows (Some r) ≡ None) ⊎ IsOf q r.scope)

  abbrev AllApart : Origin → List ℕ → Type 0
  AllApart q ks = (k : ℕ) → Contains ks k → Apart q k

  -- an item may stand below another: its statement does so, or it is the part of an operation
  abbrev pub MayBelow : Origin → Origin → Type 0
  MayBelow q (Statement j) =
      (r : Row) × (slice_get rows j ≡ Some r) × (Contains augments r.scope → ⊥) × ((augment_around rows (Some r) ≡ None) ⊎ (IsOf q r.scope × (is_node_or_uses r ≡ true)))
  MayBelow q (Input k) = takes (kind_of rows q) kind.Input ≡ true
  MayBelow q (Output k) = takes (kind_of rows q) kind.Output ≡ true

  -- an item at the top is made of a statement that is one
  abbrev pub IsOwn : Origin → Type 0
  IsOwn o = (k : ℕ) × (r : Row) × (o ≡ Statement k) × (slice_get rows k ≡ Some r) × (is_node_or_uses r ≡ true)

  abbrev AllMay : Origin → Tree → Type 0
  AllMay q none = Unit {0}
  AllMay q (item o below behind) = MayBelow q o × AllMay o below × AllMay q behind

  abbrev TopsMay : Tree → Type 0
  TopsMay none = Unit {0}
  TopsMay (item o below behind) = IsOwn o × AllMay o below × TopsMay behind

  joined_may : (q : Origin) (t u : Tree) → AllMay q t → AllMay q u → AllMay q (join t u)
  joined_may q none u T U = U
  joined_may q (item o below behind) u (here, B, T) U = (here, B, joined_may q behind u T U)

  joined_tops : (t u : Tree) → TopsMay t → TopsMay u → TopsMay (join t u)
  joined_tops none u T U = U
  joined_tops (item o below behind) u (here, B, T) U = (here, B, joined_tops behind u T U)

  -- no statement in the block of one that is no augment stands in that of an augment
  block_alone : (k : ℕ) (r : Row) → slice_get rows k ≡ Some r → is_augment r ≡ false → AllAlone (block_of rows k)
  block_alone k r at isnt j h =
      let b = block_scope rows k j h in (
        b.0,
        b.1,
        λ there.
            let a = augment_in files marks k (subst (λ (n : ℕ). Contains augments n) b.2 there) in
            false≢true (sym isnt ∙ (ap is_augment (same_Some r a.row (sym at ∙ a.at)) ∙ a.is)),
        ap (λ (n : ℕ). augment_at n (slice_get rows n)) b.2 ∙ (ap (augment_at k) at ∙ ap (λ (c : Bool). if c then Some k else None) isnt),
      )

  all_apart : (q : Origin) (ks : List ℕ) → AllAlone ks → AllApart q ks
  all_apart q ks all k h = (let x = all k h in (x.0, x.1, x.2, inl x.3))

  item_may : (q : Origin) (k : ℕ) (r : Row) → slice_get rows k ≡ Some r → is_node_or_uses r ≡ true → Apart q k → MayBelow q (Statement k)
  item_may q k r at is (z, at_z, never, inl alone) = (z, at_z, never, inl alone)
  item_may q k r at is (z, at_z, never, inr of) = (z, at_z, never, inr (of, ap is_node_or_uses (same_Some z r (sym at_z ∙ at)) ∙ is))

  first_there : (xs : List ℕ) (j : ℕ) → slice_get xs 0 ≡ Some j → Contains xs j
  first_there [] j e = absurd (not_none e)
  first_there (x ∷ xs) j e = subst (Contains (x ∷ xs)) (same_Some x j e) (there_first x xs)

  module _ (test : Row → Bool) (isnt : (r : Row) → test r ≡ true → is_augment r ≡ false) (k : ℕ) where
    abbrev written : Option ℕ
    written = first_of test rows (block_of rows k)

    written_in : (j : ℕ) → written ≡ Some j → Contains (block_of rows k) j × ((r : Row) × (slice_get rows j ≡ Some r) × (test r ≡ true))
    written_in j is =
        let f = filter_in (is_at test rows) (block_of rows k) j (first_there (those test rows (block_of rows k)) j is) in
        (f.0, row_at test rows j f.1)

    part_may : (q unwritten : Origin) → MayBelow q unwritten → AllAlone (block_of rows k) → MayBelow q (part unwritten written)
    part_may q unwritten own all = by written refl
      where
        by : (o : Option ℕ) → written ≡ o → MayBelow q (part unwritten o)
        by None is = own
        by (Some j) is = (let x = all j (written_in j is).0 in (x.0, x.1, x.2, inl x.3))

    part_alone : AllAlone (part_block rows written)
    part_alone = by written refl
      where
        by : (o : Option ℕ) → written ≡ o → AllAlone (part_block rows o)
        by None is = λ j h. absurd (nothing_stands j h)
        by (Some i) is = (let x = (written_in i is).1 in block_alone i x.0 x.1 (isnt x.0 x.2))

  part_below : (o : Option ℕ) (j : ℕ) → Contains (part_block rows o) j → IsBelow rows j
  part_below None j h = absurd (nothing_stands j h)
  part_below (Some k) j h = block_below rows k j h

  flat_below : (xs : List ℕ) (j : ℕ) → Contains (flat_map (block_of rows) xs) j → IsBelow rows j
  flat_below [] j h = absurd (nothing_stands j h)
  flat_below (a ∷ xs) j h = elim (Contains-append_cases (block_of rows a) (flat_map (block_of rows) xs) j h) [ inl x ↦ block_below rows a j x | inr x ↦ flat_below xs j x ]

  -- what stands in the block of an augment of a uses stands below this
  flat_apart : (q : Origin) (xs : List ℕ) → ((a : ℕ) → Contains xs a → IsOf q a) → ((a : ℕ) → Contains xs a → Contains augments a → ⊥) → AllApart q (flat_map (block_of rows) xs)
  flat_apart q [] of never j h = absurd (nothing_stands j h)
  flat_apart q (a ∷ xs) of never j h = elim (Contains-append_cases (block_of rows a) (flat_map (block_of rows) xs) j h) [
    | inl x ↦ (let b = block_scope rows a j x in
        (b.0, b.1, λ there. never a (there_first a xs) (subst (λ (n : ℕ). Contains augments n) b.2 there), inr (subst (λ (n : ℕ). IsOf q n) (sym b.2) (of a (there_first a xs)))))
    | inr x ↦ flat_apart q xs (λ c at. of c (there_later a c xs at)) (λ c at. never c (there_later a c xs at)) j x
  ]

  no_module : (k : ℕ) → IsBelow rows k → (a : ℕ) → Contains (those is_augment rows (block_of rows k)) a → Contains augments a → ⊥
  no_module k (r, at, apart) a h there =
      let b = block_scope rows k a (filter_in (is_at is_augment rows) (block_of rows k) a h).0 in
      let past = past_roots files (λ file text. true) k r at apart in
      let scope = b.2 in
      let m = contains_at augments a there in
      near files marks m.0 a m.1 (b.0, b.1, omega (arith, past, scope))

  abbrev May : List ℕ → Tree → Type 0
  May numbers t = TopsMay t × ((q : Origin) → AllApart q numbers → AllMay q t)

  abbrev Known : List ℕ → Type 0
  Known numbers = (k : ℕ) → Contains numbers k → IsBelow rows k

  expands_may : {numbers : List ℕ} {t : Tree} → Expands briefs rows numbers t → Known numbers → May numbers t
  expands_may nothing known = (tt, λ q all. tt)
  expands_may (other {k = k} {others = others} at is E) known =
      let later = expands_may E (λ j h. known j (there_later k j others h)) in (
        later.0,
        λ q all. later.1 q (λ j h. all j (there_later k j others h)),
      )
  expands_may (node {k = k} {r = r} {others = others} at is no_operation none_meant B E) known =
      let later = expands_may E (λ j h. known j (there_later k j others h)) in
      let inner = (expands_may B (block_below rows k)).1 (Statement k) (all_apart (Statement k) (block_of rows k) (block_alone k r at (item_no_augment r is))) in (
        ((k, r, refl, at, is), inner, later.0),
        λ q all. (item_may q k r at is (all k (there_first k others)), inner, later.1 q (λ j h. all j (there_later k j others h))),
      )
  expands_may (operation {k = k} {r = r} {others = others} {input = input} {output = output} at is I O E) known =
      let later = expands_may E (λ j h. known j (there_later k j others h)) in
      let is_one = (operation_item r is).0 in
      let block = block_alone k r at (item_no_augment r is_one) in
      let takes_them = parts_taken r is in
      let into = part_may is_input input_no_augment k (Statement k) (Input k) (ap (λ o. takes (kind_at o) kind.Input) at ∙ takes_them.0) block in
      let out = part_may is_output output_no_augment k (Statement k) (Output k) (ap (λ o. takes (kind_at o) kind.Output) at ∙ takes_them.1) block in
      let first = (expands_may I (part_below (input_of rows k))).1 (part (Input k) (input_of rows k))
      (all_apart (part (Input k) (input_of rows k)) (part_block rows (input_of rows k)) (part_alone is_input input_no_augment k)) in
      let second = (expands_may O (part_below (output_of rows k))).1 (part (Output k) (output_of rows k))
      (all_apart (part (Output k) (output_of rows k)) (part_block rows (output_of rows k)) (part_alone is_output output_no_augment k)) in (
        ((k, r, refl, at, is_one), (into, first, (out, second, tt)), later.0),
        λ q all. (item_may q k r at is_one (all k (there_first k others)), (into, first, (out, second, tt)), later.1 q (λ j h. all j (there_later k j others h))),
      )
  expands_may (uses {k = k} {d = d} {r = r} {others = others} {copies = copies} {given = given} at is meant C G E) known =
      let later = expands_may E (λ j h. known j (there_later k j others h)) in
      let (written, grouping) = refers_uses briefs rows k d r at is meant in
      let copied = (expands_may C (block_below rows d)).1 (Statement k) (all_apart (Statement k) (block_of rows d) (block_alone d grouping.0 grouping.1 grouping.2)) in
      let adding : List ℕ = those is_augment rows (block_of rows k) in
      let of : (a : ℕ) → Contains adding a → IsOf (Statement k) a =
      λ a h. record { statement = k; row = r; is = refl; at = at; item = is; of_uses = written; among = h } in
      let added = (expands_may G (flat_below adding)).1 (Statement k) (flat_apart (Statement k) adding of (no_module k (known k (there_first k others)))) in
      let inner = joined_may (Statement k) copies given copied added in (
        ((k, r, refl, at, is), inner, later.0),
        λ q all. (item_may q k r at is (all k (there_first k others)), inner, later.1 q (λ j h. all j (there_later k j others h))),
      )

  module _ (all : List Item) where
    -- these are there from this number on
    abbrev Part : ℕ → List Item → Type 0
    Part n xs = (i : ℕ) (x : Item) → slice_get xs i ≡ Some x → slice_get all (n + i) ≡ Some x

    -- an item is at the top, or below one below which it may be
    abbrev pub Stands : Item → Type 0
    Stands x = ((x.parent ≡ None) × IsOwn x.origin) ⊎ ((p : ℕ) × (y : Item) × (x.parent ≡ Some p) × (slice_get all p ≡ Some y) × MayBelow y.origin x.origin)

    abbrev AllStand : List Item → Type 0
    AllStand xs = (i : ℕ) (x : Item) → slice_get xs i ≡ Some x → Stands x

    in_either : (xs ys : List Item) → AllStand xs → AllStand ys → AllStand (xs ++ ys)
    in_either xs ys X Y i x at = elim (in_lists xs ys i x at) [ inl h ↦ X i x h | inr h ↦ Y h.0 x h.2 ]

    below_part : (parent : Option ℕ) (n : ℕ) (o : Origin) (below behind : Tree) → Part n (item_list parent n (item o below behind)) → Part (n + 1) (item_list (Some n) (n + 1) below)
    below_part parent n o below behind P i x at =
        ap (slice_get all) (let e : n + 1 + i ≡ n + suc i = omega arith in e)
        ∙ P (suc i) x (in_first (item_list (Some n) (n + 1) below) (item_list parent (n + 1 + count below) behind) i x at)

    behind_part : (parent : Option ℕ) (n : ℕ) (o : Origin) (below behind : Tree) → Part n (item_list parent n (item o below behind))
        → Part (n + 1 + count below) (item_list parent (n + 1 + count below) behind)
    behind_part parent n o below behind P i x at =
        let many = count_listed (Some n) (n + 1) below in
        ap (slice_get all) (let e : n + 1 + count below + i ≡ n + suc (count below + i) = omega arith in e)
        ∙ P (suc (count below + i)) x
        (in_second (item_list (Some n) (n + 1) below) (item_list parent (n + 1 + count below) behind) (count below + i) i x (omega (arith, many)) at)

    first_part : (parent : Option ℕ) (n : ℕ) (o : Origin) (below behind : Tree) → Part n (item_list parent n (item o below behind))
        → slice_get all n ≡ Some (record { origin = o; parent = parent })
    first_part parent n o below behind P = ap (slice_get all) (let e : n ≡ n + 0 = omega arith in e) ∙ P 0 (record { origin = o; parent = parent }) refl

    listed_stand : (p n : ℕ) (y : Item) (t : Tree) → slice_get all p ≡ Some y → AllMay y.origin t → Part n (item_list (Some p) n t) → AllStand (item_list (Some p) n t)
    listed_stand p n y none there may P i x at = absurd (not_none at)
    listed_stand p n y (item o below behind) there (here, B, T) P zero x at =
        subst Stands (same_Some (record { origin = o; parent = Some p }) x at) (inr (p, y, refl, there, here))
    listed_stand p n y (item o below behind) there (here, B, T) P (suc i) x at =
        in_either (item_list (Some n) (n + 1) below) (item_list (Some p) (n + 1 + count below) behind)
        (listed_stand n (n + 1) (record { origin = o; parent = Some p }) below (first_part (Some p) n o below behind P) B (below_part (Some p) n o below behind P))
        (listed_stand p (n + 1 + count below) y behind there T (behind_part (Some p) n o below behind P)) i x at

    tops_stand : (n : ℕ) (t : Tree) → TopsMay t → Part n (item_list None n t) → AllStand (item_list None n t)
    tops_stand n none may P i x at = absurd (not_none at)
    tops_stand n (item o below behind) (here, B, T) P zero x at =
        subst Stands (same_Some (record { origin = o; parent = None }) x at) (inl (refl, here))
    tops_stand n (item o below behind) (here, B, T) P (suc i) x at =
        in_either (item_list (Some n) (n + 1) below) (item_list None (n + 1 + count below) behind)
        (listed_stand n (n + 1) (record { origin = o; parent = None }) below (first_part None n o below behind P) B (below_part None n o below behind P))
        (tops_stand (n + 1 + count below) behind T (behind_part None n o below behind P)) i x at

  all_tops : (trees : List Tree) → ((n : ℕ) (t : Tree) → slice_get trees n ≡ Some t → TopsMay t) → TopsMay (all_of trees)
  all_tops [] T = tt
  all_tops (t ∷ ts) T = joined_tops t (all_of ts) (T 0 t refl) (all_tops ts (λ n u at. T (suc n) u at))

  given_below : (file : ℕ) → Known (given_at briefs rows marks file)
  given_below file = by (get_or marks file false)
    where
      by : (b : Bool) → Known (if b then top_of briefs rows file else [])
      by false k h = absurd (nothing_stands k h)
      by true k h = top_below rows briefs file k h

  -- each item of files stands so
  pub items_stand : (order : List ℕ) (own : ℕ) (items : List Item) → IsWhole files marks order own items → (i : ℕ) (x : Item) → slice_get items i ≡ Some x → Stands items x
  items_stand order own items expanded i x at =
      let t : Tree = join (all_of expanded.trees) (all_of expanded.added) in
      let e = expanded.are.each in
      let f = expanded.are_added.each in
      let tops : TopsMay t =
      joined_tops (all_of expanded.trees) (all_of expanded.added)
      (all_tops expanded.trees (λ n t at. (let l = slice_get_within expanded.trees n t at in let file = there_is order n (omega (arith, l, e)) in
      (expands_may (expanded.are.expands n file.0 t file.1 at) (given_below file.0)).0)))
      (all_tops expanded.added (λ n t at. (let l = slice_get_within expanded.added n t at in let a = there_is augments n (omega (arith, l, f)) in
      (expands_may (expanded.are_added.expands n a.0 t a.1 at) (block_below rows a.0)).0))) in
      tops_stand items 0 t tops (λ j y h. ap (slice_get items) (let g : 0 + j ≡ j = omega arith in g) ∙ (ap (λ z. slice_get z j) expanded.listed ∙ h)) i x
      (ap (λ z. slice_get z i) (sym expanded.listed) ∙ at)
