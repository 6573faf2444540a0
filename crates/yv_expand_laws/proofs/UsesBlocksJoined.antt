-- The augments of uses whose targets don't take their blocks are refused so by both definitions.
use Rattle.std.proofs.Common.{inl, inr, ◌≡◌, ℕ, List, length, map, Option, Some, None, refl, sym, ◌∙◌, subst}
use Rattle.std.specs.List.{Contains, slice_get}
use Rattle.std.proofs.lemmas.Option.{slice_get_within}
use Rattle.yv_text_statement.specs.Order.{refusal_at}
use Rattle.yv_text_statement.specs.declared.refusal.Code.TheVariants as code
use Rattle.yv_text_statement.specs.declared.refusal.Refusal.{Refusal}
use Rattle.yv_link_scopes.specs.Files.{Files, brief_of}
use Rattle.yv_link_scopes.specs.RowList.{rows_of}
use Rattle.yv_link_scopes.specs.Rows.{Row}
use Rattle.yv_expand.specs.Tree.{Item}
use Rattle.yv_expand_statements.specs.StatementBlocks.{augments_of}
use Rattle.yv_expand_rounds.specs.Tree.{IsTree}
use Rattle.yv_expand_rounds.specs.declared.row.ItemRow.{ItemRow}
use Rattle.yv_expand_augments.specs.Augmentation.{AreAugmented}
use Rattle.yv_expand_uses.specs.Spots.{Whole, labels_of, layout_of, whole}
use Rattle.yv_expand_uses.specs.declared.spot.Spot.{Spot}
use Rattle.yv_expand_changes.specs.Refusals.{IsThere}
use Rattle.yv_expand_tree.specs.Final.{final_items}
use Rattle.yv_expand_statements.specs.FileOrder.{marks_of, order_of}
use Rattle.yv_expand_definition.specs.Gives.{Wrong}
use Rattle.yv_expand_definition.proofs.GivenNodeUniqueness.{RefersToOne}
use Rattle.yv_expand_laws.specs.Files.{AreGiven, expansion_of, labels_in}
use Rattle.yv_expand_laws.specs.Refines.{IsOfRefine}
use Rattle.yv_expand_laws.specs.Under.{FinalStands}
use Rattle.yv_expand_laws.specs.UsesBlocks.{HasUntaken, Untaken, UsesBlocksAreOne}
use Rattle.yv_expand_laws.proofs.AskedJoined.{asked_joined}
use Rattle.yv_expand_laws.proofs.FileMarks.{order_marked}
use Rattle.yv_expand_laws.proofs.BlockRefusals.{AskedAt, OwnAt, UntakenBy}
use Rattle.yv_expand_laws.proofs.UsesTargetsJoined.{no_module, of_refines}

no_refine : (e : Wrong) → e.code ≡ code.BadAugment → IsOfRefine e → ⊥
no_refine e c of = elim of [
  | inl a ↦ (let bad : code.BadAugment ≡ code.RefineTarget = sym c ∙ a in cc)
  | inr b ↦ (let bad : code.BadAugment ≡ code.BadRefine = sym c ∙ b in cc)
]

module _ (files : Files) (augments : List ℕ) (many : ℕ) (items : List Item) where
  abbrev w_of : Whole
  w_of = whole (map brief_of files) (rows_of files) augments many

  untaken_at : (i : ℕ) (e : Wrong) → e.code ≡ code.BadAugment → AskedAt files augments many items i e → UntakenBy files augments many items (slice_get (layout_of w_of items).spots i) i e.statement
  untaken_at i e c asked = elim asked [
    | inl refused ↦ absurd (no_refine e c (of_refines files (layout_of w_of items).spots _ e refused))
    | inr (inl (d, by)) ↦ absurd (let bad : code.BadAugment ≡ code.AugmentTarget = sym c ∙ d in cc)
    | inr (inr (d, by)) ↦ by
  ]

  has_untaken : (i a : ℕ) → UntakenBy files augments many items (slice_get (layout_of w_of items).spots i) i a → HasUntaken w_of items i a
  has_untaken i a u = by (slice_get (layout_of w_of items).spots i) refl u
    where
      by : (o : Option Spot) → slice_get (layout_of w_of items).spots i ≡ o → UntakenBy files augments many items o i a → HasUntaken w_of items i a
      by None at never = absurd never
      by (Some s) at (is_so, (j, t, (k, at_a, reaches), there, kind)) = record {
        spot = s;
        at = at;
        of_uses = is_so;
        place = k;
        there = at_a;
        target = j;
        reaches = reaches;
        node = t;
        target_at = there;
        untaken = kind;
      }

  untaken_by : (i a : ℕ) → HasUntaken w_of items i a → UntakenBy files augments many items (slice_get (layout_of w_of items).spots i) i a
  untaken_by i a h = subst (λ o. UntakenBy files augments many items o i a) (sym h.at) (h.of_uses, (h.target, h.node, (h.place, h.there, h.reaches), h.target_at, h.untaken))

  pub untaken_there : (tree : List ItemRow) (i a : ℕ) (f : Refusal) (row : Row) → IsThere tree i → HasUntaken w_of items i a
      → slice_get (rows_of files) a ≡ Some row → f ≡ refusal_at code.BadAugment row.file row.head → Untaken w_of items tree f
  untaken_there tree i a f row t h found is = (
    t.place,
    slice_get_within tree t.place t.row t.at,
    t.row,
    t.at,
    (a, subst (λ (n : ℕ). HasUntaken w_of items n a) (sym t.is) h, (row, found, is)),
  )

pub uses_blocks_are_one : (files : Files) → RefersToOne files → FinalStands → UsesBlocksAreOne files
uses_blocks_are_one files one_meant final_stands choice f its m r sound roots final tells E =
    let marks = marks_of choice files in
    let order : List ℕ = order_of choice files in
    let augments : List ℕ = augments_of (map brief_of files) (rows_of files) marks in
    let w : Whole = expansion_of files marks f.items in
    let given : AreGiven files marks order = record { sound = sound; roots = roots; marked = order_marked choice files } in
    let grafted : AreAugmented w f.items f.state =
    subst (λ a. AreAugmented (whole (map brief_of files) (rows_of files) a (length f.items)) f.items f.state) final.augments final.grafted in
    let tree : IsTree (labels_in files marks f.items) f.state.groups f.tree =
    subst (λ a. IsTree (labels_of (layout_of (whole (map brief_of files) (rows_of files) a (length f.items)) f.items).spots) f.state.groups f.tree) final.augments final.is_tree in
    let known = asked_joined files marks order final.own f.items its given final.expanded tells one_meant final_stands m f.state f.tree E grafted tree in
    let By : List ℕ → Type 0 = λ a. Untaken (whole (map brief_of files) (rows_of files) a (length f.items)) f.items (final_items f) r in (
      (λ bad.
          let (place, less, x, at, (a, h, (row, found, is))) = subst By final.augments bad in
          let e : Wrong = record { code = code.BadAugment; statement = a } in
          let not_there : Contains augments a → ⊥ = no_module files marks order final.own f.items final.expanded x.number h.spot h.place a h.at h.there in
          let there : OwnAt files augments (length f.items) f.items x.number e = inr (refl, untaken_by files augments (length f.items) f.items x.number a h) in
          (a, not_there, ((known e (inr (inr refl, not_there))).1 (x.number, record { place = place; row = x; at = at; is = refl }, inr there), (row, found, is)))),
      (λ (a, not_there, (there, (row, found, is))).
          let e : Wrong = record { code = code.BadAugment; statement = a } in
          let (i, stands, asked) = (known e (inr (inr refl, not_there))).0 there in
          subst By (sym final.augments) (untaken_there files augments (length f.items) f.items (final_items f) i a r row stands
          (has_untaken files augments (length f.items) f.items i a (untaken_at files augments (length f.items) f.items i e refl asked)) found is)),
    )
