-- An expansion shows what it gives when its items have entered.
use Rattle.std.proofs.Common.{inl, inr, ◌≡◌, ℕ, ◌+◌, ◌-◌, ◌<◌, ◌≤◌, Bool, false, if◌then◌else◌, List, [], length, map, replicate, get_or, length-append, refl, sym, ◌∙◌, ap, subst, arith, Option, Some, None}
use Rattle.std.specs.List.{Contains, slice_get}
use Rattle.std.specs.Option.{is_some}
use Rattle.std.proofs.lemmas.Bool.{cases_lt, le-ltb}
use Rattle.std.proofs.lemmas.List.{get_or_past, get_or-replicate, length-replicate}
use mathlib.Core.Path.{fun_ext}
use Rattle.yv_expand.specs.Tree.{Item, Tree, count, item, item_list, none}
use Rattle.yv_expand_rounds.specs.declared.label.Label.{Label}
use Rattle.yv_expand_rounds.specs.Groups.{group_of_augment, members_of}
use Rattle.yv_expand_rounds.specs.Placements.{nothing}
use Rattle.yv_expand_rounds.specs.Turns.{State}
use Rattle.yv_expand_augments.specs.Augmentation.{placement, placed_from}
use Rattle.yv_expand_definition.specs.Nodes.{Forest}
use Rattle.yv_expand_uses.specs.Spots.{LayoutView, Whole, labels_of, layout_of, laid_from}
use Rattle.yv_expand_uses.specs.declared.spot.Spot.{Spot as LaidSpot}
use Rattle.yv_expand_laws.specs.Blocks.{enter_block}
use Rattle.yv_expand_laws.specs.Comes.{Comes, MarksBlock}
use Rattle.yv_expand_laws.specs.Expansions.{spot_view}
use Rattle.yv_expand_laws.specs.Frames.{MayEnter}
use Rattle.yv_expand_laws.specs.Layout.{Spot}
use Rattle.yv_expand_laws.specs.Marks.{mark_of}
use Rattle.yv_expand_laws.specs.Shows.{Items, Shows}
use Rattle.yv_expand_laws.specs.Start.{StartShows}
use Rattle.yv_expand_laws.specs.ItemProperties.{AreItems}
use Rattle.yv_expand_laws.proofs.ExpansionBlocks.{parts}
use Rattle.yv_expand_laws.proofs.FoundItems.{not_none}
use Rattle.yv_expand_laws.proofs.FrameSequences.{nothing_stands}
use Rattle.yv_expand_laws.proofs.BlockSpots.{placed_is}
use Rattle.yv_expand_laws.proofs.LaidBlocks.{Lies, all_lie, laid_as, map_length}
use Rattle.yv_expand_laws.proofs.Marks.{blocks_are_marked}
use Rattle.yv_expand_laws.proofs.PlacedSpots.{placed_is_told}
use Rattle.yv_expand_laws.proofs.LabelsAndPaths.{labels_tell, laid_many}
use Rattle.yv_expand_laws.proofs.Turns.{block_shows_all}

-- in nothing there is nothing
pub none_there : (items copies x : ℕ) → members_of (nothing items copies).groups x ≡ []
none_there items copies x = elim (cases_lt x (items + 1 + copies)) [
  | inl l ↦ get_or-replicate (items + 1 + copies) x [] [] l
  | inr l ↦ get_or_past (replicate (items + 1 + copies) []) x [] (let e : length (nothing items copies).groups ≡ items + 1 + copies = length-replicate (items + 1 + copies) [] in omega (arith, l, e))
]

pub none_applied : (items copies k : ℕ) → k < copies → get_or (nothing items copies).ends k None ≡ None
none_applied items copies k l = get_or-replicate copies k None None l

-- what lies in a block may enter nothing
pub may_enter : (labels : List Label) (hi c e : ℕ) → hi ≤ length labels → MayEnter labels 0 0 hi c e (nothing (length labels) e)
may_enter labels hi c e within = record {
  room = (let a : length (nothing (length labels) e).groups ≡ length labels + 1 + e = length-replicate (length labels + 1 + e) [] in let b : length (nothing (length labels) e).ends ≡ e = length-replicate e None in omega (arith, a, b));
  items = within;
  copies = (let b : length (nothing (length labels) e).ends ≡ e = length-replicate e None in omega (arith, b));
  group = (let a : length (nothing (length labels) e).groups ≡ length labels + 1 + e = length-replicate (length labels + 1 + e) [] in omega (arith, a));
  outside = (inl (omega arith), inl (omega arith));
  from = λ x i h. absurd (nothing_stands i (subst (λ l. Contains l i) (none_there (length labels) e x) h));
  fresh = λ k low high. none_there (length labels) e (group_of_augment labels k);
  waiting = λ k low high. none_applied (length labels) e k high;
}

pub count_listed : (parent : Option ℕ) (n : ℕ) (t : Tree) → length (item_list parent n t) ≡ count t
count_listed parent n none = refl
count_listed parent n (item o below behind) =
    let a = count_listed (Some n) (n + 1) below in
    let b = count_listed parent (n + 1 + count below) behind in
    let e = length-append (item_list (Some n) (n + 1) below) (item_list parent (n + 1 + count below) behind) in
    omega (arith, a, b, e)

pub laid_is : (w : Whole) (items : List Item) → layout_of w items ≡ laid_from w items (record { spots = []; copies = length w.augments })
unfolding layout_of
laid_is w items = refl

-- what lies in a block from the first item on shows what the block gives
module _ (w : Whole) (items : List Item) (n e : ℕ) (all : length items ≡ w.items) (F : Lies w (labels_of (layout_of w items).spots) (record { spots = []; copies = length w.augments }) items 0 0 n (length w.augments) e)
    (each : length (labels_of (layout_of w items).spots) ≡ w.items) (within : n ≤ length (labels_of (layout_of w items).spots)) where
  abbrev labels : List Label
  labels = labels_of (layout_of w items).spots

  pub whole_is : layout_of w items ≡ laid_as w (labels_of (layout_of w items).spots) F.new e
  whole_is = laid_is w items ∙ F.laid

  placed_so : placement w (layout_of w items) ≡ enter_block labels 0 F.block (nothing (length labels) e)
  placed_so =
      ap (λ (l : LayoutView). placed_from w labels l.copies 0 l.spots) whole_is
      ∙ (placed_is_told w labels e 0 F.new ∙ placed_is labels 0 F.block (map (spot_view w) F.new) (nothing (length labels) e) F.lie)

  below : (y : ℕ) → y ≤ length labels → mark_of w y ≡ false
  below y le = ap (λ (b : Bool). is_some (if b then slice_get w.augments (y - w.items - 1) else None)) (le-ltb w.items y (omega (arith, le, each)))

  in_place : (j : ℕ) (s : Spot) → slice_get (map (spot_view w) F.new) j ≡ Some s → slice_get (map (spot_view w) (layout_of w items).spots) (0 + j) ≡ Some s
  in_place j s at =
      ap (λ (l : LayoutView). slice_get (map (spot_view w) l.spots) (0 + j)) whole_is ∙ (ap (slice_get (map (spot_view w) F.new)) (let h : 0 + j ≡ j = omega arith in h) ∙ at)

  pub lies_show : (its : Items) (f : Forest) → AreItems w items its → Comes labels its _ _ _ _ F.block f → Shows its (placement w (layout_of w items)).groups 0 0 n f
  lies_show its f are comes =
      subst (λ (st : State). Shows its st.groups 0 0 n f) (sym placed_so)
      (block_shows_all labels its (mark_of w) (labels_tell w items its are) below 0 (nothing (length labels) e) comes
      (subst (λ given. MarksBlock labels given (mark_of w) 0 F.block) (sym (fun_ext are.given))
      (blocks_are_marked w items 0 0 n (length w.augments) e F.block (map (spot_view w) F.new) all (omega arith) in_place F.lie))
      (may_enter labels n (length w.augments) e within) (λ y low high. none_there (length labels) e y)
      (λ y i h. absurd (nothing_stands i (subst (λ l. Contains l i) (none_there (length labels) e y) h))))

pub start_shows : (w : Whole) → StartShows w
start_shows w numbers t E refer many tops =
    let items : List Item = item_list None 0 t in
    let labels : List Label = labels_of (layout_of w items).spots in
    let each : length labels ≡ w.items = map_length (λ (s : LaidSpot). s.label) (layout_of w items).spots ∙ (laid_many w items ∙ (count_listed None 0 t ∙ sym many)) in
    let x = all_lie w labels (parts w labels each refer E) (record { spots = []; copies = length w.augments }) None 0 0 (count t) (length w.augments) refl refl (omega arith)
    (λ p is. absurd (not_none is)) (λ k r there at. tops k r there at) in
    let F = x.1 in
    record {
      copies = x.0;
      block = F.block;
      shows = lies_show w items (count t) x.0 (count_listed None 0 t ∙ sym many) F each (omega (arith, each, many));
    }
