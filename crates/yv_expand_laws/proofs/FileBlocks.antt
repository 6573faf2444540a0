-- How the items of files lie: in one block for the tops of all files and, behind it, in one for
-- each augment of a module.
use Rattle.std.proofs.Common.{◌≡◌, ℕ, ◌+◌, ◌≤◌, false, List, [], ◌++◌, length, map, refl, sym, ◌∙◌, ap, subst, arith, None}
use Rattle.std.specs.List.{slice_get}
use Rattle.std.specs.Option.{is_some}
use Rattle.std.proofs.lemmas.List.{append-nil}
use mathlib.Core.Path.{fun_ext}
use Rattle.yv_link_scopes.specs.Files.{Files, brief_of}
use Rattle.yv_link_scopes.specs.RowList.{rows_of}
use Rattle.yv_expand.specs.Tree.{Item, Tree, all_of, count, join, item_list}
use Rattle.yv_expand_rounds.specs.declared.label.Label.{Label}
use Rattle.yv_expand_rounds.specs.Placements.{nothing}
use Rattle.yv_expand_augments.specs.Augmentation.{placement, placed_from}
use Rattle.yv_expand_uses.specs.InnerEnds.{is_from_at}
use Rattle.yv_expand_uses.specs.Spots.{LayoutView, Whole, labels_of, layout_of, laid_from, whole}
use Rattle.yv_expand_uses.specs.declared.spot.Spot.{Spot}
use Rattle.yv_expand_definition.specs.Expansion.{Tops}
use Rattle.yv_expand_definition.specs.Gives.{Product}
use Rattle.yv_expand_laws.specs.FirstItems.{BlocksMarked, first_state}
use Rattle.yv_expand_laws.specs.Blocks.{Augments, Block, enter_block, run_all}
use Rattle.yv_expand_laws.specs.Comes.{HasMarks, MarksBlock}
use Rattle.yv_expand_laws.specs.Expansions.{spot_view}
use Rattle.yv_expand_laws.specs.Files.{giver_of}
use Rattle.yv_expand_laws.specs.StatementItems.{ShowNodes}
use Rattle.yv_expand_laws.specs.Layout.{AllLie, Lie}
use Rattle.yv_expand_laws.specs.Marks.{mark_of}
use Rattle.yv_expand_laws.specs.Shows.{Items}
use Rattle.yv_expand_laws.proofs.Alike.{AreAlike}
use Rattle.yv_expand_laws.proofs.InitialNodes.{blocks_enter, blocks_mark, no_marks, own_empty, own_enters}
use Rattle.yv_expand_laws.proofs.FoundItems.{not_none}
use Rattle.yv_expand_laws.proofs.StatementNodes.{told_last}
use Rattle.yv_expand_laws.proofs.Givers.{Spans, blocks_marked, front_marked, given_is}
use Rattle.yv_expand_laws.proofs.JoinedBlocks.{count_joined, laid_append, listed_joined}
use Rattle.yv_expand_laws.proofs.BlockFrame.{goes_up}
use Rattle.yv_expand_laws.proofs.LaidBlocks.{AllLies, Lies, laid_as}
use Rattle.yv_expand_laws.proofs.LaterItems.{IsHere, Makes, MayRun, all_state_is, are, drop_at, each_label, first_stops, low, new_long, node_stays, split_here, stage, state, state_is}
use Rattle.yv_expand_laws.proofs.BlockRefusals.{Come, come_same}
use Rattle.yv_expand_laws.proofs.ExpansionStart.{count_listed, laid_is, none_there}
use Rattle.yv_expand_laws.proofs.Tops.{AllCome, AreBegun, BlocksMake, FilesMake, MayBegin, TopsGive, all_come_same, blocks_make, tops_make}

module _ (files : Files) (augments : List ℕ) (many : ℕ) (items : List Item) (its : Items)
    (facts : ShowNodes files (whole (map brief_of files) (rows_of files) augments many) items (λ i. None) its) (each : length items ≡ many) (made : ℕ → Product → Type 0) where
  abbrev w : Whole
  w = whole (map brief_of files) (rows_of files) augments many

  abbrev spots : List Spot
  spots = (layout_of w items).spots

  abbrev labels : List Label
  labels = labels_of spots

  abbrev at_start : LayoutView
  at_start = record { spots = []; copies = length augments }

  -- the items of files lie in these blocks, which give what the files and the augments do
  pub record Begins (order : List ℕ) (added : List Tree) (own : ℕ) : Type 0 where
    pub last_own : ℕ
    pub last : ℕ
    pub new : List Spot
    pub more : List Spot
    pub spots_are : spots ≡ new ++ more
    pub long : length new ≡ own
    pub front : Block 0 own (length augments) last_own
    pub lie : Lie labels 0 front (map (spot_view w) new)
    pub augs : Augments own many last_own last 0 (length augments)
    pub all_lie : AllLie labels augs (map (spot_view w) more)
    pub spans : Spans augs added
    pub placed_is : placement w (layout_of w items) ≡ first_state labels front augs
    pub top : (m : Product) → Tops files order m → Come files augments many items its front m.nodes m.wrong
    pub blocks : AllCome files augments many items its made augs
    pub marked : MarksBlock labels its.given (mark_of w) 0 front
    pub all_marked : BlocksMarked labels its.given (mark_of w) augs

  module _ (order : List ℕ) (added : List Tree) (xs ys : List Item) (own d : ℕ) (items_so : items ≡ xs ++ ys) (A : Lies w labels at_start xs 0 0 own (length augments) d)
      (A_makes : Makes files augments many items its A (TopsGive files augments many items its facts each order))
      (b : AreBegun files augments many items its facts each made (laid_as w labels (at_start.spots ++ A.new) d) ys added own many d 0 (length augments))
      (firsts : (behind : List Item) → ((j : ℕ) → 0 ≤ j → is_from_at j (slice_get behind 0) ≡ false) → (j : ℕ) → 0 ≤ j → is_from_at j (slice_get (ys ++ behind) 0) ≡ false) where
    abbrev G : AllLies w labels (laid_as w labels (at_start.spots ++ A.new) d) ys own many d b.last 0 (length augments) b.paths
    G = b.lies

    abbrev all_new : List Spot
    all_new = A.new ++ (G.new ++ [])

    laid_so : layout_of w items ≡ laid_as w labels (A.new ++ G.new) b.last
    laid_so = laid_is w items ∙ (ap (λ z. laid_from w z at_start) items_so ∙ (laid_append w xs ys at_start ∙ (ap (laid_from w ys) A.laid ∙ G.laid)))

    spots_so : spots ≡ A.new ++ G.new
    spots_so = ap (λ (l : LayoutView). l.spots) laid_so

    own_long : length A.new ≡ own
    own_long = (let e = A.long in omega (arith, e))

    labels_long : length labels ≡ many
    labels_long = each_label files augments many items its facts each

    within : many ≤ length labels
    within = (let e = labels_long in omega (arith, e))

    up : (0 ≤ own) × (length augments ≤ d)
    up = goes_up A.block

    here : IsHere files augments many items its at_start (xs ++ ys) [] 0 (length augments) (A.new ++ G.new) []
    here = record {
      long = refl;
      late = omega arith;
      items_are = items_so ∙ sym (append-nil (xs ++ ys));
      spots_are = spots_so ∙ sym (append-nil (A.new ++ G.new));
      stops = λ j l. refl;
    }

    both : IsHere files augments many items its (laid_as w labels (at_start.spots ++ A.new) d) ys [] own d G.new []
        × IsHere files augments many items its at_start xs (ys ++ []) 0 (length augments) A.new (G.new ++ [])
    both =
        split_here files augments many items its facts each at_start xs ys [] 0 own (length augments) d A.new G.new [] (new_long w labels at_start xs 0 0 own (length augments) d A) A.long up.1 firsts
        here

    start_is : state files augments many items its many [] ≡ nothing (length labels) b.last
    start_is = ap (λ (l : LayoutView). nothing (length labels) l.copies) laid_so

    its_given : (i : ℕ) → its.given i ≡ is_some (giver_of w items i)
    its_given i = facts.told.given i ∙ given_is w items each i

    own_marked : MarksBlock labels its.given (mark_of w) 0 A.block
    own_marked =
        subst (λ given. MarksBlock labels given (mark_of w) 0 A.block) (sym (fun_ext its_given))
        (front_marked w items each own many d b.last A.block G.augments within A.new G.new spots_so own_long A.lie G.lie is_some refl)

    all_marked : BlocksMarked labels its.given (mark_of w) G.augments
    all_marked =
        subst (λ given. BlocksMarked labels given (mark_of w) G.augments) (sym (fun_ext its_given))
        (blocks_marked w items each own many d b.last A.block G.augments within A.new G.new spots_so own_long A.lie G.lie is_some refl)

    start_marks : HasMarks its.given (mark_of w) (nothing (length labels) b.last)
    start_marks =
        no_marks labels its (mark_of w) (are files augments many items its facts each) (low files augments many items its facts each) own many d b.last (length augments) A.block G.augments within its.given (mark_of w)

    may_blocks : MayBegin files augments many items its facts each own many d b.last 0 (length augments) G.augments (state files augments many items its many [])
    may_blocks = subst (MayBegin files augments many items its facts each own many d b.last 0 (length augments) G.augments) (sym start_is) (record {
      enters =
          blocks_enter labels its (mark_of w) (are files augments many items its facts each) (low files augments many items its facts each) own many d b.last (length augments) A.block G.augments within;
      empty = λ x u h. none_there (length labels) b.last x;
      marks = start_marks;
      marked = all_marked;
    })

    blocks_state : state files augments many items its own (G.new ++ []) ≡ run_all labels G.augments (nothing (length labels) b.last)
    blocks_state = all_state_is files augments many items its facts each G.augments G.new [] G.long G.lie ∙ ap (run_all labels G.augments) start_is

    may_own : MayRun files augments many items its 0 0 own (length augments) d (state files augments many items its own (G.new ++ []))
    may_own = subst (MayRun files augments many items its 0 0 own (length augments) d) (sym blocks_state) (record {
      enters =
          own_enters labels its (mark_of w) (are files augments many items its facts each) (low files augments many items its facts each) own many d b.last (length augments) A.block G.augments within;
      empty = λ x u h.
          own_empty labels its (mark_of w) (are files augments many items its facts each) (low files augments many items its facts each) own many d b.last (length augments) A.block G.augments within x u h;
      marks = blocks_mark labels its.given (mark_of w) (low files augments many items its facts each) G.augments (nothing (length labels) b.last) all_marked start_marks;
    })

    placed_so : placement w (layout_of w items) ≡ enter_block labels 0 A.block (run_all labels G.augments (nothing (length labels) b.last))
    placed_so =
        ap (placed_from w labels (layout_of w items).copies 0) (spots_so ∙ ap (λ z. A.new ++ z) (sym (append-nil G.new)))
        ∙ (state_is files augments many items its facts each 0 A.block A.new (G.new ++ []) A.long A.lie ∙ ap (enter_block labels 0 A.block) blocks_state)

    all_are : all_new ≡ spots
    all_are = sym (spots_so ∙ ap (λ z. A.new ++ z) (sym (append-nil G.new)))

    last_told : (i : ℕ) → its.node_of i ≡ (stage files augments many items its 0 all_new).node_of i
    last_told i = told_last files augments many items its facts all_new all_are i

    like : (n : ℕ) (xs : List Spot) → AreAlike (stage files augments many items its n xs) its
    like n xs = record { given = refl; node = λ i. refl; like = λ i. record { module_file = refl; kind = refl; name = refl } }

    stops_at : (j : ℕ) → is_from_at j (slice_get items own) ≡ false
    stops_at j =
        ap (is_from_at j) (ap (slice_get items) (let h : own ≡ own + 0 = omega arith in h) ∙ (sym (drop_at items own 0) ∙ ap (λ z. slice_get z 0) both.0.items_are))
        ∙ firsts [] (λ j l. refl) j (omega arith)

    own_comes : (m : Product) → Tops files order m → Come files augments many items its A.block m.nodes m.wrong
    own_comes m T =
        come_same files augments many items (stage files augments many items its 0 all_new) its (like 0 all_new) m.wrong (λ i u h. last_told i)
        (A_makes m (ys ++ []) (G.new ++ []) T both.1 may_own)

    blocks_come : AllCome files augments many items its made G.augments
    blocks_come =
        all_come_same files augments many items made (stage files augments many items its own (G.new ++ [])) its (like own (G.new ++ [])) G.augments
        (λ i u h. last_told i ∙ node_stays files augments many items its facts each 0 own A.new (G.new ++ []) A.long (λ j x y. stops_at j) i u) (b.begin [] [] both.0 may_blocks)

    begins_so : Begins order added own
    begins_so = record {
      last_own = d;
      last = b.last;
      new = A.new;
      more = G.new;
      spots_are = spots_so;
      long = own_long;
      front = A.block;
      lie = A.lie;
      augs = G.augments;
      all_lie = G.lie;
      spans = b.spans;
      placed_is = placed_so;
      top = own_comes;
      blocks = blocks_come;
      marked = own_marked;
      all_marked = all_marked;
    }

  pub begins_are : (order : List ℕ) (trees added : List Tree) → FilesMake files augments many items its facts each order trees → BlocksMake files augments many items its facts each made 0 added
      → length added ≡ length augments → items ≡ item_list None 0 (join (all_of trees) (all_of added)) → Begins order added (count (all_of trees))
  begins_are order trees added tops blocks as_many items_are =
      let own : ℕ = count (all_of trees) in
      let xs : List Item = item_list None 0 (all_of trees) in
      let ys : List Item = item_list None own (all_of added) in
      let items_so : items ≡ xs ++ ys =
      items_are ∙ (listed_joined None 0 (all_of trees) (all_of added) ∙ ap (λ (n : ℕ). xs ++ item_list None n (all_of added)) (let e : 0 + own ≡ own = omega arith in e)) in
      let a = tops_make files augments many items its facts each tops at_start 0 own (length augments) refl refl (omega arith) in
      let A = a.1 in
      let l = A.long in let c = count_joined (all_of trees) (all_of added) in let i = ap length items_are in let j = count_listed None 0 (join (all_of trees) (all_of added)) in
      let b = blocks_make files augments many items its facts each made blocks (laid_as w labels (at_start.spots ++ A.new) a.0) own many a.0 (length augments) (omega (arith, l)) refl
      (omega (arith, c, i, j, each)) (omega (arith, as_many)) in
      begins_so order added xs ys own a.0 items_so A a.2 b (λ behind stops. first_stops None 0 (λ p is. absurd (not_none is)) (all_of added) own behind stops)
