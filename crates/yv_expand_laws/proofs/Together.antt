-- What an augment of a uses reaches in its turn is in the final tree exactly where the uses is.
use Rattle.std.proofs.Common.{inl, inr, ◌≡◌, ℕ, suc, ◌+◌, ◌<◌, ◌≤◌, Bool, true, if◌then◌else◌, List, [], ◌∷◌, ◌++◌, drop, length, take, get_or, Option, Some, None, refl, sym, ◌∙◌, ap, subst, arith, length-append, take-append-drop}
use Rattle.std.specs.List.{Contains, filter, slice_get}
use Rattle.std.specs.Option.{option_and_then}
use Rattle.std.proofs.lemmas.Bool.{cases_eq, cases_lt}
use Rattle.std.proofs.lemmas.List.{append-nil, get_or-replicate, length-map}
use Rattle.std.proofs.lemmas.List.Elements.{filter-append}
use Rattle.std.proofs.lemmas.Option.{same_Some}
use Rattle.yv_expand.specs.Tree.{Item}
use Rattle.yv_expand_rounds.specs.declared.end.End.{End}
use Rattle.yv_expand_rounds.specs.declared.end.End.TheVariants.{Node, Start}
use Rattle.yv_expand_rounds.specs.declared.label.Label.{Label}
use Rattle.yv_expand_rounds.specs.Groups.{IsIn, group_of_augment, members_of}
use Rattle.yv_expand_rounds.specs.Paths.{path_end}
use Rattle.yv_expand_rounds.specs.Placements.{HaveEntered, StandOnce, enter}
use Rattle.yv_expand_rounds.specs.Turns.{State, given_group, group_of_target, target}
use Rattle.yv_expand_rounds.proofs.Once.{stand}
use Rattle.yv_expand_uses.specs.Ends.{end_at}
use Rattle.yv_expand_uses.specs.AugmentOrder.{augments_giving, is_giving}
use Rattle.yv_expand_augments.specs.Augmentation.{AreAugmented, placement, placed_from, turns, turns_from}
use Rattle.yv_expand_uses.specs.Paths.{path_in}
use Rattle.yv_expand_uses.specs.InnerLayout.{AreLaid}
use Rattle.yv_expand_statements.specs.Kinds.{is_uses}
use Rattle.yv_expand_uses.specs.Spots.{LayoutView, Whole, copies_of, labels_of, layout_of}
use Rattle.yv_expand_augments.specs.MissingTargets.{after_turns, had_turns, limit_of, next_number, node_reached}
use Rattle.yv_expand_uses.specs.AugmentOrder.{augments_in}
use Rattle.yv_expand_uses.specs.declared.spot.Spot.{Spot}
use Rattle.yv_expand_uses.proofs.Bounds.{laid_whole}
use Rattle.yv_expand_augments.proofs.ItemEntry.{placed_entered, turns_entered}
use Rattle.yv_expand_augments.proofs.ModuleAugments.{once_of}
use Rattle.yv_expand_augments.proofs.AugmentTurns.{giving_filtered}
use Rattle.yv_expand_tree.proofs.NodePositions.{in_second}
use Rattle.yv_expand_laws.specs.Under.{Under}
use Rattle.yv_expand_laws.specs.Under.Under.{below_item, in_group}
use Rattle.yv_expand_laws.proofs.AugmentLaws.{Laws}
use Rattle.yv_expand_laws.proofs.CopiesGive.{follows_after, follows_in_turns, follows_laid, follows_on_entry}
use Rattle.yv_expand_laws.proofs.CopyEnds.{placed_keeps, rises, split_at, turns_append, turns_keep}
use Rattle.yv_expand_laws.proofs.FoundItems.{not_none}
use Rattle.yv_expand_laws.proofs.FinalTreeOrigins.{target_node}
use Rattle.yv_expand_laws.proofs.ItemPositions.{laid_earlier}
use Rattle.yv_expand_laws.proofs.Onward.{KeptInTurns, KeptOnEntry, placed_holds, turns_hold}
use Rattle.yv_expand_laws.proofs.Parents.{stays_after, stays_in_turns, stays_laid, stays_on_entry}
use Rattle.yv_expand_laws.proofs.Trees.{contained, counted, in_all}
use Rattle.yv_expand_laws.proofs.Under.{ends_under, so_under}

-- an item is in a group that has its number
is_in : (x g : ℕ) (z : State) → Contains (members_of z.groups g) x → IsIn x g z.groups
is_in x g z there = (let c = counted x (members_of z.groups g) there in omega (arith, c))

pub there_in : (x g : ℕ) (z : State) → IsIn x g z.groups → Contains (members_of z.groups g) x
there_in x g z is = contained x (members_of z.groups g) (omega (arith, is))

module _ (laws : Laws) (w : Whole) (items : List Item) (st : State) (long : w.items ≡ length items) (grafted : AreAugmented w items st)
    (i place : ℕ) (s : Spot) (at : slice_get (layout_of w items).spots i ≡ Some s) (uses_is : is_uses s.label.kind ≡ true) where
  abbrev l : LayoutView
  l = layout_of w items

  abbrev labels : List Label
  labels = labels_of l.spots

  abbrev rest : List Spot
  rest = drop (i + 1) l.spots

  abbrev all : List ℕ
  all = augments_in w.rows s.statement

  abbrev had : List ℕ
  had = had_turns w.rows s place

  abbrev others : List ℕ
  others = filter (is_giving w.rows s.statement) (drop place all)

  -- the state before the turns of the uses, and that in the turn of this augment
  abbrev behind : State
  behind = placed_from w labels l.copies (i + 1) rest

  abbrev turned : State
  turned = after_turns w labels s place behind

  are : AreLaid w l
  are = laid_whole w items (sym long)

  count : length labels ≡ length l.spots
  count = length-map l.spots (λ z. z.label)

  whole : w.items ≡ length labels
  whole = (let size = are.long in let c = count in omega (arith, size, c))

  parts : augments_giving w.rows s.statement ≡ had ++ others
  parts =
      giving_filtered w.rows s.statement
      ∙ (ap (filter (is_giving w.rows s.statement)) (sym (take-append-drop place all)) ∙ filter-append (is_giving w.rows s.statement) (take place all) (drop place all))

  fits : s.first + length had + length others ≤ l.copies
  fits =
      let own : copies_of w.rows s ≡ length (augments_giving w.rows s.statement) = ap (λ (c : Bool). if c then length (augments_giving w.rows s.statement) else 0) uses_is in
      let fit = (are.all i s at).copies in
      let e = ap length parts in
      let f = length-append had others in
      omega (arith, own, fit, e, f)

  rest_at : (j : ℕ) (t : Spot) → slice_get rest j ≡ Some t → slice_get l.spots (i + 1 + j) ≡ Some t
  rest_at j t h =
      let (front, split, before) = split_at l.spots i s at in
      ap (λ (z : List Spot). slice_get z (i + 1 + j)) split ∙ in_second front (s ∷ rest) (i + 1 + j) (suc j) t (omega (arith, before)) h

  entered_behind : HaveEntered labels l.copies (i + 1) behind
  entered_behind =
      let (front, split, before) = split_at l.spots i s at in
      let each = ap length split ∙ length-append front (s ∷ rest) in
      let c = count in
      placed_entered w labels l.copies (i + 1) rest whole (omega (arith, each, before, c)) (λ j t h. are.all (i + 1 + j) t (rest_at j t h))

  entered_turned : HaveEntered labels l.copies (i + 1) turned
  entered_turned = turns_entered w labels l.copies s (i + 1) s.first had behind (let f = fits in omega (arith, f)) entered_behind

  -- what neither turns nor items that enter change is so when all have entered
  carried : (P : State → Type 0) → KeptInTurns labels l.copies P → KeptOnEntry P → P turned → P (placement w l)
  carried P in_turns on_entry is =
      let (front, split, before) = split_at l.spots i s at in
      let f = fits in
      let next : P (turns_from w labels s (s.first + length had) others turned) =
      turns_hold w labels l.copies P in_turns on_entry s (i + 1) (s.first + length had) others turned f entered_turned is in
      let same : turns w labels s behind ≡ turns_from w labels s (s.first + length had) others turned =
      ap (λ (c : Bool). if c then turns_from w labels s s.first (augments_giving w.rows s.statement) behind else behind) uses_is
      ∙ (ap (λ (z : List ℕ). turns_from w labels s s.first z behind) parts ∙ turns_append labels place w l.copies s s.first had others behind) in
      let here : P (enter i s.group (turns w labels s behind)) = on_entry i s.group (turns w labels s behind) (subst P (sym same) next) in
      let c = count in
      let each = ap length split in
      subst (λ (z : List Spot). P (placed_from w labels l.copies 0 z)) (sym split)
      (placed_holds w labels l.copies P in_turns on_entry 0 i front (s ∷ rest) whole (omega (arith, each, c))
      (λ j t h. are.all j t (ap (λ (z : List Spot). slice_get z j) split ∙ h)) (omega (arith, before)) here)

  -- what stands at the top or below a node then stands there in the end
  stays_on : (g x : ℕ) → g ≤ length items → IsIn x g turned.groups → IsIn x g st.groups
  stays_on g x le is =
      let e0 = whole in
      let low : g ≤ length labels = omega (arith, le, e0, long) in
      stays_after laws.room laws.many laws.applied w items st x g long grafted le
      (carried (λ (z : State). IsIn x g z.groups)
      (stays_in_turns w labels l.copies g x low laws.room laws.many laws.enters laws.stays laws.turned)
      (stays_on_entry w labels l.copies g x low laws.room laws.many laws.enters laws.stays laws.turned) is)

  -- what a copy gives is where this leads in the end
  follows_on : (c x : ℕ) → c < l.copies → IsIn x (given_group labels turned.ends c) turned.groups → IsIn x (given_group labels st.ends c) st.groups
  follows_on c x few is =
      follows_after laws.room laws.many laws.given_applied w items st x c long grafted few
      (carried (λ (z : State). IsIn x (given_group labels z.ends c) z.groups)
      (follows_in_turns w labels l.copies c x few laws.room laws.many laws.enters laws.stays laws.given_turned)
      (follows_on_entry w labels l.copies c x few laws.room laws.many laws.enters laws.stays laws.given_turned) is)

  few_copies : (c : ℕ) → c < s.first → c < l.copies
  few_copies c less = (let fit = (are.all i s at).copies in omega (arith, less, fit))

  -- an earlier copy has had no turn then
  none_yet : (c : ℕ) → c < s.first → get_or turned.ends c None ≡ None
  none_yet c less =
      let first : get_or behind.ends c None ≡ None =
      subst (λ (z : List Spot). get_or (placed_from w labels l.copies (i + 1) z).ends c None ≡ None) (append-nil rest)
      (placed_keeps labels c w l.copies None (i + 1) (i + 1 + length rest) rest []
      (λ j t h. inl (let r = rises w items i (i + 1 + j) s t (omega arith) at (rest_at j t h) in omega (arith, r, less))) refl
      (get_or-replicate l.copies c None None (few_copies c less))) in
      turns_keep labels c w l.copies None s s.first had behind (inl less) first

  -- what stands in the group of the uses then stands in one group with it in the end
  together : (x : ℕ) → Contains (members_of turned.groups s.group) x → (g : ℕ) × IsIn x g st.groups × IsIn i g st.groups
  together x there = elim (laid_earlier w items i s at) [
    | inl low ↦ (
      s.group,
      stays_on s.group x low (is_in x s.group turned there),
      stays_laid laws.room laws.many laws.enters laws.stays laws.turned laws.applied w items st i s.group s long grafted at low refl,
    )
    | inr (c, is, less) ↦
        let e0 = whole in
        let here : given_group labels turned.ends c ≡ s.group =
        ap (λ (o : Option End). group_of_target (group_of_augment labels c) (option_and_then (target labels) o)) (none_yet c less)
        ∙ sym (is ∙ ap (λ (n : ℕ). n + 1 + c) e0) in (
          given_group labels st.ends c,
          follows_on c x (few_copies c less) (subst (λ (n : ℕ). IsIn x n turned.groups) (sym here) (is_in x s.group turned there)),
          follows_laid laws.room laws.many laws.enters laws.stays laws.given_turned laws.given_applied w items st i c s long grafted at (few_copies c less)
              (λ j u le h. elim (cases_eq i j) [
                | inl same ↦
                    let one : s ≡ u = same_Some s u (sym at ∙ (ap (slice_get l.spots) same ∙ h)) in
                    subst (λ (z : Spot). c < z.first) one less
                | inr other ↦ (let r = rises w items i j s u (omega (arith, le, other)) at h in omega (arith, r, less))
              ])
              is,
        )
  ]

  abbrev pub InEnd : ℕ → Type 0
  InEnd x = Under st.groups 0 x

  once : StandOnce (length items) st.groups
  once = once_of laws.stand w items st long grafted

  alone : (x g h : ℕ) → IsIn x g st.groups → IsIn x h st.groups → g ≡ h
  alone x g h a b = laws.one st.groups (length items) x g h once a b

  -- of two items in one group both are in the tree, or none
  beside : (g x y : ℕ) → IsIn x g st.groups → IsIn y g st.groups → InEnd x → InEnd y
  beside g x y at_x at_y (in_group there) =
      let e : g ≡ 0 = alone x g 0 at_x (is_in x 0 st there) in
      in_group (there_in y 0 st (subst (λ (n : ℕ). IsIn y n st.groups) e at_y))
  beside g x y at_x at_y (below_item {i = p} u there) =
      let e : g ≡ p + 1 = alone x g (p + 1) at_x (is_in x (p + 1) st there) in
      below_item u (there_in y (p + 1) st (subst (λ (n : ℕ). IsIn y n st.groups) e at_y))

  -- an item below another is in the tree only with that
  pub above : (p x : ℕ) → IsIn x (p + 1) st.groups → InEnd x → InEnd p
  above p x at_x (in_group there) = (let e = alone x (p + 1) 0 at_x (is_in x 0 st there) in absurd (omega (arith, e)))
  above p x at_x (below_item {i = q} u there) =
      let e = alone x (p + 1) (q + 1) at_x (is_in x (q + 1) st there) in
      subst (λ (n : ℕ). Under st.groups 0 n) (let f : q ≡ p = omega (arith, e) in f) u

  within : (y j : ℕ) → Contains (members_of turned.groups y) j → j < length labels
  within y j there = elim (cases_lt j (length labels)) [
    | inl less ↦ less
    | inr past ↦
        let a = in_all j y turned.groups in
        let b = (stand labels l.copies (i + 1) turned entered_turned).behind j past in
        let d = counted j (members_of turned.groups y) there in
        absurd (omega (arith, a, b, d))
  ]

  as_uses : {x : ℕ} → Under turned.groups s.group x → (InEnd i → InEnd x) × (InEnd x → InEnd i)
  as_uses {x = x} (in_group there) = (let (g, a, b) = together x there in (beside g i x b a, beside g x i a b))
  as_uses {x = x} (below_item {i = p} u there) =
      let r = as_uses u in
      let less : p < length labels = so_under (λ (z : ℕ). z < length labels) turned.groups s.group within u in
      let e0 = whole in
      let here : IsIn x (p + 1) st.groups = stays_on (p + 1) x (omega (arith, less, e0, long)) (is_in x (p + 1) turned there) in
      ((λ f. below_item (r.0 f) (there_in x (p + 1) st here)), (λ f. r.1 (above p x here f)))

  -- the node that is reached stands below the uses' group
  reached_under : (a q : ℕ) → node_reached w labels s (end_at items i) (next_number w.rows s place) a turned ≡ Some q → Under turned.groups s.group q
  reached_under a q reaches = by (path_end labels turned.groups limit path (Start s.group)) refl reaches
    where
      limit : ℕ
      limit = limit_of w labels s (end_at items i) (next_number w.rows s place) a turned

      path : List ℕ
      path = path_in w s.module_file a

      by : (o : Option End) → path_end labels turned.groups limit path (Start s.group) ≡ o → option_and_then (target labels) o ≡ Some q → Under turned.groups s.group q
      by None is h = absurd (not_none h)
      by (Some e) is h = ends_under labels turned.groups limit s.group path (Start s.group) (Node q) refl (is ∙ ap (λ (z : End). Some z) (target_node labels e q h))

  pub with_target : (a q : ℕ) → node_reached w labels s (end_at items i) (next_number w.rows s place) a turned ≡ Some q → (InEnd i → InEnd q) × (InEnd q → InEnd i)
  with_target a q reaches = as_uses (reached_under a q reaches)
