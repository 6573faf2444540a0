-- The augments of modules without a target are refused so by both definitions.
use Rattle.std.proofs.Common.{inl, inr, ◌≡◌, ℕ, zero, suc, ◌<◌, ◌≤◌, ◌==◌, ◌&&◌, not, Bool, true, false, if◌then◌else◌, List, [], ◌∷◌, ◌++◌, length, map, Option, Some, None, sym, ap, ◌∙◌, subst, arith, eqb-true}
use Rattle.std.specs.List.{Contains, slice_get}
use Rattle.std.proofs.lemmas.List.{length-map}
use Rattle.std.proofs.lemmas.List.Elements.{Contains-append_cases, Contains-push_cases}
use Rattle.std.proofs.lemmas.Option.{same_Some, slice_get_within}
use Rattle.yv_text_statement.specs.declared.refusal.Code.{Code}
use Rattle.yv_text_statement.specs.declared.refusal.Code.TheVariants as code
use Rattle.yv_link_scopes.specs.Files.{Briefs, Files, brief_of, module_file_at}
use Rattle.yv_link_scopes.specs.RowList.{rows_of}
use Rattle.yv_link_scopes.specs.Rows.{Row}
use Rattle.yv_link_scopes.proofs.Bodies.{module_file_at_within}
use Rattle.yv_expand_statements.specs.StatementBlocks.{given_at, given_before, block_of, stands_in, top_of, augments_of, input_of, is_at, is_augment, output_of, part_block, those, is_refine}
use Rattle.yv_expand_augments.specs.Refusals.{BadTarget}
use Rattle.yv_expand_augments.specs.Augmentation.{AreAugmented}
use Rattle.yv_expand_uses.specs.Spots.{whole}
use Rattle.yv_expand_statements.specs.FileOrder.{marks_of, order_of}
use Rattle.yv_expand_definition.specs.Expansion.{Tops}
use Rattle.yv_expand_definition.specs.Expansion.Tops.{no_files, one_more as one_more_top}
use Rattle.yv_expand_definition.specs.Gives.{AugmentsGive, Gives, Product, RefinesGive, Wrong, judge, takes_block}
use Rattle.yv_expand_definition.specs.Gives.AugmentsGive.{none_left as all_added, adds, without_target}
use Rattle.yv_expand_definition.specs.Gives.Gives.{no_statements, other, one_node, operation, uses}
use Rattle.yv_expand_definition.specs.Gives.RefinesGive.{none_left as all_refined, changes, unfit, without_target as refine_misses}
use Rattle.yv_expand_definition.specs.Nodes.{Forest}
use Rattle.yv_expand_definition.proofs.GivenNodeUniqueness.{RefersToOne}
use Rattle.yv_expand_laws.specs.Files.{AreGiven}
use Rattle.yv_expand_laws.specs.Targets.{TargetsAreOne}
use Rattle.yv_expand_laws.proofs.OuterConditions.{IsBelow, block_below, top_below}
use Rattle.yv_expand_laws.proofs.BlockStatements.{block_scope, filter_in, left_is, numbered_in}
use Rattle.yv_expand_laws.proofs.FoundItems.{there_first, there_later}
use Rattle.yv_expand_laws.proofs.FrameSequences.{nothing_stands}
use Rattle.yv_expand_laws.proofs.FileMarks.{order_marked}
use Rattle.yv_expand_laws.proofs.Orders.{at_there}
use Rattle.yv_expand_laws.proofs.BlockNodes.{first_or}
use Rattle.yv_expand_laws.proofs.StatementMarks.{past_roots}
use Rattle.yv_expand_laws.proofs.Whole.{target_refused}

-- an augment has no target
abbrev no_target : ℕ → Wrong
no_target a = record { code = code.AugmentTarget; statement = a }

no_wrong : (x : Wrong) → Contains (let none : List Wrong = [] in none) x → ⊥
no_wrong x (i, l, e) = omega (arith, l)

module _ (files : Files) where
  abbrev rows : List Row
  rows = rows_of files

  abbrev briefs : Briefs
  briefs = map brief_of files

  -- a statement stands below one that is no root
  abbrev pub IsInner : ℕ → Type 0
  IsInner a = (r : Row) × (slice_get rows a ≡ Some r) × (length files ≤ r.scope)

  abbrev Known : List Wrong → Type 0
  Known xs = (e : Wrong) → Contains xs e → IsInner e.statement

  both_known : (xs ys : List Wrong) → Known xs → Known ys → Known (xs ++ ys)
  both_known xs ys p q e h = elim (Contains-append_cases xs ys e h) [ inl x ↦ p e x | inr y ↦ q e y ]

  -- with one more refusal, of a statement that stands so
  more_known : (xs : List Wrong) (c : Code) (k : ℕ) → IsInner k → Known xs → Known (xs ++ record { code = c; statement = k } ∷ [])
  more_known xs c k inner known e h = elim (Contains-push_cases xs (record { code = c; statement = k }) e h) [
    | inl x ↦ known e x
    | inr same ↦ subst IsInner (ap (λ (z : Wrong). z.statement) same) inner
  ]

  none_known : Known []
  none_known e h = absurd (no_wrong e h)

  refined_known : {module_file : ℕ} {ks : List ℕ} {m last : Product} → RefinesGive files module_file ks m last → ((k : ℕ) → Contains ks k → IsInner k) → Known m.wrong → Known last.wrong
  refined_known all_refined inner known = known
  refined_known (changes {k = k} {ks = ks} leads fit later) inner known = refined_known later (λ j h. inner j (there_later k j ks h)) known
  refined_known (unfit {k = k} {ks = ks} {m = m} leads fit later) inner known =
      refined_known later (λ j h. inner j (there_later k j ks h)) (more_known m.wrong code.BadRefine k (inner k (there_first k ks)) known)
  refined_known (refine_misses {k = k} {ks = ks} {m = m} nowhere later) inner known =
      refined_known later (λ j h. inner j (there_later k j ks h)) (more_known m.wrong code.RefineTarget k (inner k (there_first k ks)) known)

  judged_known : (b : Bool) (a : ℕ) (there : Forest) (wrong : List Wrong) → IsInner a → Known wrong
      → Known (judge b a (record { nodes = there; wrong = wrong })).wrong
  judged_known true a there wrong inner known = known
  judged_known false a there wrong inner known = more_known wrong code.BadAugment a inner known

  abbrev AllBelow : List ℕ → Type 0
  AllBelow ks = (k : ℕ) → Contains ks k → IsBelow rows k

  part_below : (o : Option ℕ) → AllBelow (part_block rows o)
  part_below None k h = absurd (nothing_stands k h)
  part_below (Some j) k h = block_below rows j k h

  -- a refine or an augment of a uses stands below this, which is no root
  inner_of : (test : Row → Bool) (k a : ℕ) → IsBelow rows k → Contains (those test rows (block_of rows k)) a → IsInner a
  inner_of test k a (r, at, apart) h =
      let x = block_scope rows k a (filter_in (is_at test rows) (block_of rows k) a h).0 in
      let past = past_roots files (λ file text. true) k r at apart in
      let scope = x.2 in
      (x.0, x.1, omega (arith, past, scope))

  mutual
    pub gives_known : {module_file : ℕ} {under ks : List ℕ} {m : Product} → Gives files module_file under ks m → AllBelow ks → Known m.wrong
    gives_known no_statements all = none_known
    gives_known (other {k = k} {ks = ks} at isnt e) all = gives_known e (λ j h. all j (there_later k j ks h))
    gives_known (one_node {k = k} {ks = ks} {below = below} {behind = behind} at is o u known b e) all =
        both_known below.wrong behind.wrong (gives_known b (block_below rows k)) (gives_known e (λ j h. all j (there_later k j ks h)))
    gives_known (operation {k = k} {ks = ks} {input = input} {output = output} {behind = behind} at is o u known i p e) all =
        both_known (input.wrong ++ output.wrong) behind.wrong
        (both_known input.wrong output.wrong (gives_known i (part_below (input_of rows k))) (gives_known p (part_below (output_of rows k))))
        (gives_known e (λ j h. all j (there_later k j ks h)))
    gives_known (uses {k = k} {d = d} {ks = ks} {given = given} {behind = behind} at is u refers c x y e) all =
        both_known given.wrong behind.wrong
        (augmented_known y (λ a h. inner_of is_augment k a (all k (there_first k ks)) h)
        (refined_known x (λ a h. inner_of is_refine k a (all k (there_first k ks)) h) (gives_known c (block_below rows d))))
        (gives_known e (λ j h. all j (there_later k j ks h)))

    augmented_known : {module_file : ℕ} {under ks : List ℕ} {m last : Product} → AugmentsGive files module_file under ks m last
        → ((a : ℕ) → Contains ks a → IsInner a)
        → Known m.wrong → Known last.wrong
    augmented_known all_added inner known = known
    augmented_known (adds {others = others} {a = a} {m = m} {block = block} {there = there} {target = target} e reaches later) inner known =
        augmented_known later (λ b h. inner b (there_later a b others h))
        (judged_known (takes_block rows a target.kind) a there (m.wrong ++ block.wrong) (inner a (there_first a others)) (both_known m.wrong block.wrong known (gives_known e (block_below rows a))))
    augmented_known (without_target {others = others} {a = a} {m = m} misses later) inner known =
        augmented_known later (λ b h. inner b (there_later a b others h)) (more_known m.wrong code.AugmentTarget a (inner a (there_first a others)) known)

  pub tops_known : {order : List ℕ} {m : Product} → Tops files order m → Known m.wrong
  tops_known no_files = none_known
  tops_known (one_more_top {file = file} {m = m} {behind = behind} e later) =
      both_known m.wrong behind.wrong (gives_known e (top_below rows briefs file)) (tops_known later)

  -- an augment of a module stands below a root
  top_scope : (marks : List Bool) (n a : ℕ) → n ≤ length briefs → Contains (given_before briefs rows marks n) a
      → (r : Row) × (slice_get rows a ≡ Some r) × (r.scope < length files)
  top_scope marks zero a l h = absurd (nothing_stands a h)
  top_scope marks (suc file) a l h = elim (Contains-append_cases (given_before briefs rows marks file) (given_at briefs rows marks file) a h) [
    | inl first ↦ top_scope marks file a (omega (arith, l)) first
    | inr rest ↦ by _ rest
  ]
    where
      by : (b : Bool) → Contains (if b then top_of briefs rows file else []) a
          → (r : Row) × (slice_get rows a ≡ Some r) × (r.scope < length files)
      by false there = absurd (nothing_stands a there)
      by true there =
          let x = numbered_in (λ k r. stands_in (module_file_at briefs file) k r && (r.file == file)) 0 rows a there in
          let stands = left_is (stands_in (module_file_at briefs file) a x.1) (x.1.file == file) x.4 in
          let scope = eqb-true x.1.scope (module_file_at briefs file) (left_is (x.1.scope == module_file_at briefs file) (not (x.1.scope == a)) stands) in
          let module_file = module_file_at_within briefs file (omega (arith, l)) in
          let many : length briefs ≡ length files = length-map files brief_of in
          (x.1, ap (slice_get rows) (let e = x.2 in let f : a ≡ x.0 = omega (arith, e) in f) ∙ x.3, omega (arith, scope, module_file, many))

  pub near : (marks : List Bool) (k a : ℕ) → slice_get (augments_of briefs rows marks) k ≡ Some a → IsInner a → ⊥
  near marks k a at (r, row, far) =
      let x = filter_in (is_at is_augment rows) (given_before briefs rows marks (length briefs)) a (at_there (augments_of briefs rows marks) k a at) in
      let t = top_scope marks (length briefs) a (omega arith) x.0 in
      let same : r.scope ≡ t.0.scope = ap (λ (z : Row). z.scope) (same_Some r t.0 (sym row ∙ t.1)) in
      let l = t.2 in
      omega (arith, far, same, l)

pub contains_at : (xs : List ℕ) (a : ℕ) → Contains xs a → (k : ℕ) × (slice_get xs k ≡ Some a)
contains_at [] a h = absurd (nothing_stands a h)
contains_at (x ∷ xs) a h = elim (first_or x xs a h) [
  | inl same ↦ (0, ap (λ (n : ℕ). Some n) same)
  | inr rest ↦ (let r = contains_at xs a rest in (suc r.0, r.1))
]

pub targets_are_one : (files : Files) → RefersToOne files → TargetsAreOne files
targets_are_one files one_meant choice f its m r sound roots final tells E =
    let marks : List Bool = marks_of choice files in
    let order : List ℕ = order_of choice files in
    let augments : List ℕ = augments_of (map brief_of files) (rows_of files) marks in
    let given : AreGiven files marks order = record { sound = sound; roots = roots; marked = order_marked choice files } in
    let grafted = subst (λ a. AreAugmented (whole (map brief_of files) (rows_of files) a (length f.items)) f.items f.state) final.augments final.grafted in
    let known = target_refused files marks order final.own f.items its given final.expanded tells one_meant (IsInner files) (near files marks)
    (λ a module_file made G b. gives_known files G (block_below (rows_of files) a) (no_target b)) m f.state E grafted (λ b. tops_known files E.tops (no_target b)) in
    let By : List ℕ → Type 0 = λ a. BadTarget (whole (map brief_of files) (rows_of files) a (length f.items)) f.items f.state r in (
      (λ bad. (let (k, less, a, at, (row, found, (none, is))) = subst By final.augments bad in (a, at_there augments k a at, ((known k a at).0 none, (row, found, is))))),
      (λ (a, there, (refused, (row, at, is))).
          let k = contains_at augments a there in
          subst By (sym final.augments) (k.0, slice_get_within augments k.0 a k.1, a, k.1, (row, at, ((known k.0 a k.1).1 refused, is)))),
    )
