-- The refines that are refused by number are those that are refused in what the files expand to.
use Rattle.std.proofs.Common.{inl, inr, ◌≡◌, ℕ, zero, suc, ◌+◌, Bool, true, false, if◌then◌else◌, List, [], ◌∷◌, length, map, drop, Option, Some, None, refl, sym, ◌∙◌, ap, subst, arith}
use Rattle.std.specs.List.{slice_get}
use Rattle.std.proofs.lemmas.Option.{same_Some, slice_get_within}
use Rattle.yv_text_statement.specs.Order.{refusal_at}
use Rattle.yv_text_statement.specs.declared.refusal.Code.{Code}
use Rattle.yv_text_statement.specs.declared.refusal.Code.TheVariants as code
use Rattle.yv_link_scopes.specs.Files.{Files, brief_of}
use Rattle.yv_link_scopes.specs.RowList.{rows_of}
use Rattle.yv_expand.specs.Tree.{Item}
use Rattle.yv_expand_statements.specs.StatementBlocks.{augments_of}
use Rattle.yv_expand_rounds.specs.declared.label.Label.{Label}
use Rattle.yv_expand_rounds.specs.Tree.{IsTree}
use Rattle.yv_expand_uses.specs.Ends.{end_at}
use Rattle.yv_expand_augments.specs.Augmentation.{AreAugmented, placed_from}
use Rattle.yv_expand_statements.specs.Kinds.{is_uses}
use Rattle.yv_expand_uses.specs.RefineTargets.{node_meant, refined_at, refines_in}
use Rattle.yv_expand_augments.specs.RefineMeanings.{refined_all, refined_from}
use Rattle.yv_expand_uses.specs.Spots.{Whole, labels_of, layout_of, whole}
use Rattle.yv_expand_uses.specs.declared.spot.Spot.{Spot}
use Rattle.yv_expand_changes.specs.Refusals.{BadRefines, IsThere}
use Rattle.yv_expand_refines.specs.Targets.{RefineMeaning}
use Rattle.yv_expand_tree.specs.Final.{final_items}
use Rattle.yv_expand_statements.specs.FileOrder.{marks_of, order_of}
use Rattle.yv_expand_tree.proofs.NodePositions.{in_first, in_lists, in_second}
use Rattle.yv_expand_definition.specs.Gives.{Wrong}
use Rattle.yv_expand_definition.proofs.GivenNodeUniqueness.{RefersToOne}
use Rattle.yv_expand_laws.specs.Files.{AreGiven, expansion_of, labels_in}
use Rattle.yv_expand_laws.specs.Refines.{IsOfRefine, RefinesAreOne}
use Rattle.yv_expand_laws.specs.RefusedRefines.{IsAnyRefused, IsRefused}
use Rattle.yv_expand_laws.specs.Under.{FinalStands}
use Rattle.yv_expand_laws.proofs.FoundItems.{not_none}
use Rattle.yv_expand_laws.proofs.FileMarks.{order_marked}
use Rattle.yv_expand_laws.proofs.AskedJoined.{asked_joined}
use Rattle.yv_expand_laws.proofs.BlockRefusals.{AskedAt, RefusedAt, refined_by}

-- a list has this
abbrev IsIn : List RefineMeaning → RefineMeaning → Type 0
IsIn xs x = (k : ℕ) × (slice_get xs k ≡ Some x)

mapped_item : (f : ℕ → RefineMeaning) (i : ℕ) (x : RefineMeaning) → ((j : ℕ) → (f j).item ≡ i) → (js : List ℕ) (k : ℕ) → slice_get (map f js) k ≡ Some x → x.item ≡ i
mapped_item f i x all [] k at = absurd (not_none at)
mapped_item f i x all (j ∷ js) zero at = ap (λ (y : RefineMeaning). y.item) (sym (same_Some (f j) x at)) ∙ all j
mapped_item f i x all (j ∷ js) (suc k) at = mapped_item f i x all js k at

drop_one : {A : Type 0} (x : A) (xs : List A) (j : ℕ) → drop (suc j + 1) (x ∷ xs) ≡ drop (j + 1) xs
drop_one x xs j = ap (λ (n : ℕ). drop n (x ∷ xs)) (let e : suc j + 1 ≡ suc (j + 1) = omega arith in e)

-- the refines of all items are those of each item
module _ (files : Files) (augments : List ℕ) (many : ℕ) (items : List Item) where
  abbrev w : Whole
  w = whole (map brief_of files) (rows_of files) augments many

  abbrev spots : List Spot
  spots = (layout_of w items).spots

  abbrev labels : List Label
  labels = labels_of spots

  abbrev copies : ℕ
  copies = (layout_of w items).copies

  abbrev at_item : ℕ → Spot → List Spot → List RefineMeaning
  at_item i s others = refined_at w labels s i (end_at items i) (placed_from w labels copies (i + 1) others)

  abbrev from_item : ℕ → List Spot → List RefineMeaning
  from_item i xs = refined_from w labels copies (end_at items) i xs

  item_is : (i : ℕ) (s : Spot) (others : List Spot) (x : RefineMeaning) → IsIn (at_item i s others) x → x.item ≡ i
  item_is i s others x (k, at) = by (is_uses s.label.kind) at
    where
      by : (b : Bool)
          → slice_get (if b then map (λ j. record { item = i; refine = j; target = node_meant w labels s (end_at items i) j (placed_from w labels copies (i + 1) others) }) (refines_in w.rows s.statement) else []) k
          ≡ Some x → x.item ≡ i
      by false h = absurd (not_none h)
      by true h =
          mapped_item (λ j. record { item = i; refine = j; target = node_meant w labels s (end_at items i) j (placed_from w labels copies (i + 1) others) }) i x (λ j. refl) (refines_in w.rows s.statement) k h

  from_list : (i : ℕ) (xs : List Spot) (x : RefineMeaning) (k : ℕ) → slice_get (from_item i xs) k ≡ Some x
      → (j : ℕ) × (s : Spot) × (slice_get xs j ≡ Some s) × (i + j ≡ x.item) × IsIn (at_item x.item s (drop (j + 1) xs)) x
  from_list i [] x k at = absurd (not_none at)
  from_list i (s ∷ others) x k at = elim (in_lists (from_item (i + 1) others) (at_item i s others) k x at) [
    | inl h ↦
        let r = from_list (i + 1) others x k h in
        let e = r.3 in
        (suc r.0, r.1, r.2, omega (arith, e), subst (λ zs. IsIn (at_item x.item r.1 zs) x) (sym (drop_one s others r.0)) r.4)
    | inr h ↦
        let here : IsIn (at_item i s others) x = (h.0, h.2) in
        let is = item_is i s others x here in
        (0, s, refl, omega (arith, is), subst (λ (n : ℕ). IsIn (at_item n s others) x) (sym is) here)
  ]

  to_list : (i : ℕ) (xs : List Spot) (j : ℕ) (s : Spot) (x : RefineMeaning) → slice_get xs j ≡ Some s → IsIn (at_item (i + j) s (drop (j + 1) xs)) x
      → IsIn (from_item i xs) x
  to_list i [] j s x at h = absurd (not_none at)
  to_list i (t ∷ others) zero s x at h =
      let first : List RefineMeaning = from_item (i + 1) others in
      let none_on : i + 0 ≡ i = omega arith in
      let here : IsIn (at_item i t others) x =
      subst (λ (z : Spot). IsIn (at_item i z others) x) (sym (same_Some t s at)) (subst (λ (n : ℕ). IsIn (at_item n s others) x) none_on h) in
      (length first + here.0, in_second first (at_item i t others) (length first + here.0) here.0 x refl here.1)
  to_list i (t ∷ others) (suc j) s x at h =
      let on : i + suc j ≡ i + 1 + j = omega arith in
      let r = to_list (i + 1) others j s x at
      (subst (λ zs. IsIn (at_item (i + 1 + j) s zs) x) (drop_one t others j) (subst (λ (n : ℕ). IsIn (at_item n s (drop (suc j + 1) (t ∷ others))) x) on h)) in
      (r.0, in_first (from_item (i + 1) others) (at_item i t others) r.0 x r.1)

  any_from : (xs : List RefineMeaning) (e : Wrong) (x : RefineMeaning) (k : ℕ) → slice_get xs k ≡ Some x → IsRefused files spots x e → IsAnyRefused files spots xs e
  any_from [] e x k at r = absurd (not_none at)
  any_from (y ∷ ys) e x zero at r = inl (subst (λ (z : RefineMeaning). IsRefused files spots z e) (sym (same_Some y x at)) r)
  any_from (y ∷ ys) e x (suc k) at r = inr (any_from ys e x k at r)

  any_to : (xs : List RefineMeaning) (e : Wrong) → IsAnyRefused files spots xs e → (x : RefineMeaning) × IsIn xs x × IsRefused files spots x e
  any_to [] e h = absurd h
  any_to (y ∷ ys) e h = elim h [
    | inl r ↦ (y, (0, refl), r)
    | inr more ↦ (let z = any_to ys e more in (z.0, (suc z.1.0, z.1.1), z.2))
  ]

  pub refused_at : (x : RefineMeaning) (e : Wrong) (k : ℕ) → slice_get (refined_all w items) k ≡ Some x → IsRefused files spots x e → RefusedAt files augments many items x.item e
  refused_at x e k at r =
      let f = from_list 0 spots x k at in
      let h = f.3 in
      let place : f.0 ≡ x.item = omega (arith, h) in
      let there : slice_get spots x.item ≡ Some f.1 = ap (slice_get spots) (sym place) ∙ f.2 in
      let here : IsIn (at_item x.item f.1 (drop (x.item + 1) spots)) x = subst (λ (n : ℕ). IsIn (at_item x.item f.1 (drop (n + 1) spots)) x) place f.4 in
      subst (λ o. IsAnyRefused files spots (refined_by files augments many items o x.item) e) (sym there)
      (any_from (at_item x.item f.1 (drop (x.item + 1) spots)) e x here.0 here.1 r)

  pub refused_there : (i : ℕ) (e : Wrong) → RefusedAt files augments many items i e
      → (x : RefineMeaning) × IsIn (refined_all w items) x × (x.item ≡ i) × IsRefused files spots x e
  refused_there i e h = by (slice_get spots i) refl h
    where
      by : (o : Option Spot) → slice_get spots i ≡ o → IsAnyRefused files spots (refined_by files augments many items o i) e
          → (x : RefineMeaning) × IsIn (refined_all w items) x × (x.item ≡ i) × IsRefused files spots x e
      by None is h = absurd h
      by (Some s) is h =
          let a = any_to (at_item i s (drop (i + 1) spots)) e h in
          let none_before : i ≡ 0 + i = omega arith in (
            a.0,
            to_list 0 spots i s a.0 is (subst (λ (n : ℕ). IsIn (at_item n s (drop (i + 1) spots)) a.0) none_before a.1),
            item_is i s (drop (i + 1) spots) a.0 a.1,
            a.2,
          )

pub refines_are_one : (files : Files) → RefersToOne files → FinalStands → RefinesAreOne files
refines_are_one files one_meant final_stands choice f its m r sound roots final tells E =
    let marks : List Bool = marks_of choice files in
    let order : List ℕ = order_of choice files in
    let augments : List ℕ = augments_of (map brief_of files) (rows_of files) marks in
    let w : Whole = expansion_of files marks f.items in
    let given : AreGiven files marks order = record { sound = sound; roots = roots; marked = order_marked choice files } in
    let grafted : AreAugmented w f.items f.state =
    subst (λ a. AreAugmented (whole (map brief_of files) (rows_of files) a (length f.items)) f.items f.state) final.augments final.grafted in
    let tree : IsTree (labels_in files marks f.items) f.state.groups f.tree =
    subst (λ a. IsTree (labels_of (layout_of (whole (map brief_of files) (rows_of files) a (length f.items)) f.items).spots) f.state.groups f.tree) final.augments final.is_tree in
    let joined = asked_joined files marks order final.own f.items its given final.expanded tells one_meant final_stands m f.state f.tree E grafted tree in
    let of_refine : (e : Wrong) (i : ℕ) → IsOfRefine e → AskedAt files augments (length f.items) f.items i e → RefusedAt files augments (length f.items) f.items i e =
    λ e i kind asked. elim asked [
      | inl refused ↦ refused
      | inr (inl (c, by)) ↦ elim kind [
        | inl a ↦ absurd (let bad : code.AugmentTarget ≡ code.RefineTarget = sym c ∙ a in cc)
        | inr b ↦ absurd (let bad : code.AugmentTarget ≡ code.BadRefine = sym c ∙ b in cc)
      ]
      | inr (inr (c, by)) ↦ elim kind [
        | inl a ↦ absurd (let bad : code.BadAugment ≡ code.RefineTarget = sym c ∙ a in cc)
        | inr b ↦ absurd (let bad : code.BadAugment ≡ code.BadRefine = sym c ∙ b in cc)
      ]
    ] in
    let By : List ℕ → Type 0 = λ a. BadRefines files (layout_of (whole (map brief_of files) (rows_of files) a (length f.items)) f.items).spots
    (refined_all (whole (map brief_of files) (rows_of files) a (length f.items)) f.items) (final_items f) r in (
      (λ bad. (let (k, less, x, at, (there, why)) = subst By final.augments bad in elim why [
        | inl (row, found, (none, is)) ↦
            let e : Wrong = record { code = code.RefineTarget; statement = x.refine } in
            (e, inl refl, ((joined e (inl (inl refl))).1 (x.item, there, inl (refused_at files augments (length f.items) f.items x e k at (refl, inl (refl, none)))), (row, found, is)))
        | inr (row, found, (unfit, is)) ↦
            let e : Wrong = record { code = code.BadRefine; statement = x.refine } in
            (e, inr refl, ((joined e (inl (inr refl))).1 (x.item, there, inl (refused_at files augments (length f.items) f.items x e k at (refl, inr (refl, unfit)))), (row, found, is)))
      ])),
      (λ (e, kind, (there, (row, found, is))).
          let (i, stands_there, asked) = (joined e (inl kind)).0 there in
          let (x, (k, at), item, (statement, why)) = refused_there files augments (length f.items) f.items i e (of_refine e i kind asked) in
          let here : slice_get (rows_of files) x.refine ≡ Some row = ap (slice_get (rows_of files)) (sym statement) ∙ found in
          subst By (sym final.augments) (
            k,
            slice_get_within (refined_all w f.items) k x at,
            x,
            at,
            (
              subst (λ (n : ℕ). IsThere (final_items f) n) (sym item) stands_there,
              elim why [
                | inl (c, none) ↦ inl (row, here, (none, is ∙ ap (λ (z : Code). refusal_at z row.file row.head) c))
                | inr (c, unfit) ↦ inr (row, here, (unfit, is ∙ ap (λ (z : Code). refusal_at z row.file row.head) c))
              ],
            ),
          )),
    )
