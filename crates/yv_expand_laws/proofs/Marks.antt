-- The items of a group in a block have its mark.
use Rattle.std.proofs.Common.{◌≡◌, ℕ, suc, ◌+◌, ◌-◌, ◌≤◌, Bool, false, if◌then◌else◌, List, [], ◌∷◌, ◌++◌, length, map, refl, sym, ◌∙◌, ap, subst, arith, Option, Some, None}
use Rattle.std.specs.List.{slice_get}
use Rattle.std.specs.Option.{is_some, option_map}
use Rattle.std.proofs.lemmas.Bool.{lt-ltb}
use Rattle.std.proofs.lemmas.Option.{same_Some, slice_get-map, slice_get_past, slice_get_within}
use Rattle.yv_expand.specs.Tree.{Item}
use Rattle.yv_expand_rounds.specs.declared.label.Label.{Label}
use Rattle.yv_expand_rounds.specs.Groups.{group_of_augment}
use Rattle.yv_expand_rounds.specs.Order.{is_given, is_some_given}
use Rattle.yv_expand_uses.specs.Spots.{Whole, labels_of, layout_of}
use Rattle.yv_expand_uses.specs.declared.spot.Spot.{Spot as LaidSpot}
use Rattle.yv_expand_laws.specs.Blocks.{Augments, Block, augment, no_augments, uses}
use Rattle.yv_expand_laws.specs.Blocks as block
use Rattle.yv_expand_laws.specs.Comes.{AllMarked, MarksBlock}
use Rattle.yv_expand_laws.specs.Expansions.{spot_view}
use Rattle.yv_expand_laws.specs.Layout.{AllLie, Lie, Spot}
use Rattle.yv_expand_laws.specs.Marks.{BlocksAreMarked, mark_of}
use Rattle.yv_expand_laws.proofs.FoundItems.{not_none}
use Rattle.yv_expand_laws.proofs.BlockFrame.{all_go_up, goes_up}
use Rattle.yv_expand_laws.proofs.LaidBlocks.{map_length, still_at}
use Rattle.yv_expand_laws.proofs.LabelsAndPaths.{laid_many, told_at}

past_front : {A : Type 0} (xs ys : List A) (j : ℕ) → slice_get (xs ++ ys) (length xs + j) ≡ slice_get ys j
past_front [] ys j = ap (slice_get ys) (let e : 0 + j ≡ j = omega arith in e)
past_front (x ∷ xs) ys j = ap (slice_get (x ∷ (xs ++ ys))) (let e : length (x ∷ xs) + j ≡ suc (length xs + j) = omega arith in e) ∙ past_front xs ys j

module _ (labels : List Label) (given mark : ℕ → Bool) (most : ℕ) (copies_mark : (k : ℕ) → most ≤ k → mark (group_of_augment labels k) ≡ false) where
  -- what is told of spots from a number on
  abbrev pub Told : ℕ → List Spot → Type 0
  Told lo spots = (j : ℕ) (s : Spot) → slice_get spots j ≡ Some s → given (lo + j) ≡ mark s.group

  pub told_first : (lo n : ℕ) (low rest : List Spot) → Told lo (low ++ rest) → Told lo low
  told_first lo n low rest spot_view j s at = spot_view j s (still_at low rest j (slice_get_within low j s at) ∙ at)

  pub told_rest : (lo mid : ℕ) (low rest : List Spot) → lo + length low ≡ mid → Told lo (low ++ rest) → Told mid rest
  told_rest lo mid low rest long spot_view j s at =
      ap given (let e : mid + j ≡ lo + (length low + j) = omega (arith, long) in e) ∙ spot_view (length low + j) s (past_front low rest j ∙ at)

  told_behind : (lo : ℕ) (s : Spot) (spots : List Spot) → Told lo (s ∷ spots) → Told (lo + 1) spots
  told_behind lo s spots spot_view j t at = ap given (let e : lo + 1 + j ≡ lo + suc j = omega arith in e) ∙ spot_view (suc j) t at

  told_here : (lo g : ℕ) (s : Spot) (spots : List Spot) → s.group ≡ g → Told lo (s ∷ spots) → given lo ≡ mark g
  told_here lo g s spots group spot_view = ap given (let e : lo ≡ lo + 0 = omega arith in e) ∙ (spot_view 0 s refl ∙ ap mark group)

  mutual
    pub lie_marked : (g : ℕ) {lo hi c e : ℕ} (b : Block lo hi c e) (spots : List Spot) → Lie labels g b spots → most ≤ c → Told lo spots → MarksBlock labels given mark g b
    lie_marked g block.nothing spots is few spot_view = tt
    lie_marked g {lo = lo} (block.item mid d below behind) spots (s, low, rest, is, group, of_no, L, R, long) few spot_view =
        let all : Told lo (s ∷ (low ++ rest)) = subst (Told lo) is spot_view in
        let more : Told (lo + 1) (low ++ rest) = told_behind lo s (low ++ rest) all in
        let up = (goes_up below).1 in (
          told_here lo g s (low ++ rest) group all,
          lie_marked (lo + 1) below low L few (told_first (lo + 1) 0 low rest more),
          lie_marked g behind rest R (omega (arith, few, up)) (told_rest (lo + 1) mid low rest long more),
        )
    lie_marked g {lo = lo} (uses mid end own d e copies augs behind) spots (s, low, theirs, rest, is, group, of_uses, first, paths, L, A, R, mid_is, end_is) few spot_view =
        let all : Told lo (s ∷ (low ++ (theirs ++ rest))) = subst (Told lo) is spot_view in
        let more : Told (lo + 1) (low ++ (theirs ++ rest)) = told_behind lo s (low ++ (theirs ++ rest)) all in
        let last : Told mid (theirs ++ rest) = told_rest (lo + 1) mid low (theirs ++ rest) mid_is more in
        let up = (all_go_up augs) in let ko = up.2 in let de = up.1 in
        let up' = (goes_up copies).1 in (
          told_here lo g s (low ++ (theirs ++ rest)) group all,
          lie_marked g copies low L (omega (arith, few, ko)) (told_first (lo + 1) 0 low (theirs ++ rest) more),
          all_marked augs theirs A few (omega (arith, few, ko, up')) (told_first mid 0 theirs rest last),
          lie_marked g behind rest R (omega (arith, few, ko, up', de)) (told_rest mid end theirs rest end_is last),
        )

    all_marked : {lo hi c e k own : ℕ} (a : Augments lo hi c e k own) (spots : List Spot) → AllLie labels a spots → most ≤ k → most ≤ c → Told lo spots → AllMarked labels given mark a
    all_marked no_augments spots is few few' spot_view = tt
    all_marked {lo = lo} {k = k} (augment mid d names b others) spots (low, rest, is, L, A, mid_is) few few' spot_view =
        let all : Told lo (low ++ rest) = subst (Told lo) is spot_view in
        let up = (goes_up b).1 in (
          copies_mark k few,
          lie_marked (group_of_augment labels k) b low L few' (told_first lo 0 low rest all),
          all_marked others rest A (omega (arith, few)) (omega (arith, few', up)) (told_rest lo mid low rest mid_is all),
        )

pub blocks_are_marked : (w : Whole) (items : List Item) → BlocksAreMarked w items
blocks_are_marked w items g lo hi c e b spots many few stands lie =
    lie_marked (labels_of (layout_of w items).spots) (is_given (labels_of (layout_of w items).spots)) (mark_of w) (length w.augments) copies_mark g b spots lie few told_of
  where
    copies_mark : (k : ℕ) → length w.augments ≤ k → mark_of w (group_of_augment (labels_of (layout_of w items).spots) k) ≡ false
    copies_mark k past =
        let long : length (labels_of (layout_of w items).spots) ≡ w.items = map_length (λ (z : LaidSpot). z.label) (layout_of w items).spots ∙ (laid_many w items ∙ many) in
        let g : ℕ = length (labels_of (layout_of w items).spots) + 1 + k in
        ap (λ (b : Bool). is_some (if b then slice_get w.augments (g - w.items - 1) else None)) (lt-ltb w.items g (omega (arith, long)))
        ∙ ap is_some (slice_get_past w.augments (g - w.items - 1) (omega (arith, long, past)))

    told_of : (j : ℕ) (s : Spot) → slice_get spots j ≡ Some s → is_given (labels_of (layout_of w items).spots) (lo + j) ≡ mark_of w s.group
    told_of j s at = by (slice_get (layout_of w items).spots (lo + j)) refl
      where
        here : slice_get (map (spot_view w) (layout_of w items).spots) (lo + j) ≡ Some s
        here = stands j s at

        by : (o : Option LaidSpot) → slice_get (layout_of w items).spots (lo + j) ≡ o → is_given (labels_of (layout_of w items).spots) (lo + j) ≡ mark_of w s.group
        by None is = absurd (not_none (sym (slice_get-map (spot_view w) (layout_of w items).spots (lo + j) ∙ ap (option_map (spot_view w)) is) ∙ here))
        by (Some t) is =
            let x = told_at w items (lo + j) t is in
            let same : spot_view w t ≡ s = same_Some (spot_view w t) s (sym (slice_get-map (spot_view w) (layout_of w items).spots (lo + j) ∙ ap (option_map (spot_view w)) is) ∙ here) in
            ap is_some_given (slice_get-map (λ (z : LaidSpot). z.label) (layout_of w items).spots (lo + j) ∙ ap (option_map (λ (z : LaidSpot). z.label)) is)
            ∙ (ap (λ (z : Label). z.given) x.2.label ∙ ap (λ (z : Spot). mark_of w z.group) same)
