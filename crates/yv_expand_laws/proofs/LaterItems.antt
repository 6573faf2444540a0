-- Items that are laid behind others: where those that follow have entered, and what is told of
-- items then.
use Rattle.std.proofs.Common.{inl, inr, ◌≡◌, ℕ, zero, suc, ◌+◌, ◌-◌, ◌<◌, ◌≤◌, nat_le, Bool, true, false, if◌then◌else◌, List, [], ◌∷◌, ◌++◌, length, map, drop, length-append, append_assoc, refl, sym, ◌∙◌, ap, subst, arith, Option, Some, None}
use Rattle.std.specs.List.{slice_get}
use Rattle.std.specs.Option.{is_some}
use Rattle.std.proofs.lemmas.Bool.{le-ltb, leb-true}
use Rattle.std.proofs.lemmas.List.{append-nil}
use Rattle.std.proofs.lemmas.Option.{slice_get_within}
use mathlib.Core.Path.{fun_ext}
use Rattle.yv_link_scopes.specs.Files.{Files, brief_of}
use Rattle.yv_link_scopes.specs.RowList.{rows_of}
use Rattle.yv_expand.specs.Tree.{Item, Tree, all_of, count, item, join, item_list, none}
use Rattle.yv_expand.specs.Tree as expansion
use Rattle.yv_expand_rounds.specs.declared.label.Label.{Label}
use Rattle.yv_expand_rounds.specs.Groups.{group_of_augment, members_of}
use Rattle.yv_expand_rounds.specs.Placements.{nothing}
use Rattle.yv_expand_rounds.specs.Turns.{State}
use Rattle.yv_expand_uses.specs.Ends.{end_at, is_above, is_from}
use Rattle.yv_expand_uses.specs.Ends as ends
use Rattle.yv_expand_augments.specs.Augmentation.{placed_from}
use Rattle.yv_expand_uses.specs.InnerEnds.{is_from_at}
use Rattle.yv_expand_augments.specs.RefineMeanings.{refined_from}
use Rattle.yv_expand_uses.specs.Spots.{LayoutView, Whole, labels_of, layout_of, whole}
use Rattle.yv_expand_uses.specs.declared.spot.Spot.{Spot}
use Rattle.yv_expand_uses.proofs.SubtreeEnds.{drop_drop, run_no, run_yes}
use Rattle.yv_expand_changes.specs.Changes.{changes}
use Rattle.yv_expand_refines.specs.Targets.{RefineMeaning}
use Rattle.yv_expand_definition.specs.Gives.{Product}
use Rattle.yv_expand_definition.specs.Nodes as nodes
use Rattle.yv_expand_laws.specs.Blocks.{Augments, Block, enter_block, run_all}
use Rattle.yv_expand_laws.specs.Comes.{HasMarks, MarksBlock}
use Rattle.yv_expand_laws.specs.Expansions.{spot_view}
use Rattle.yv_expand_laws.specs.Frames.{MayEnter}
use Rattle.yv_expand_laws.specs.StatementItems.{ShowNodes}
use Rattle.yv_expand_laws.specs.Layout.{AllLie, Lie, placed_on}
use Rattle.yv_expand_laws.specs.Layout as laid_spots
use Rattle.yv_expand_laws.specs.Marks.{mark_of}
use Rattle.yv_expand_laws.specs.Shows.{AreLabels, Items}
use Rattle.yv_expand_laws.proofs.FrameSequences.{narrower}
use Rattle.yv_expand_laws.proofs.JoinedBlocks.{then_block}
use Rattle.yv_expand_laws.proofs.BlockFrame.{block_keeps, goes_up, may_behind}
use Rattle.yv_expand_laws.proofs.BlockSpots.{all_placed, placed_append, placed_is}
use Rattle.yv_expand_laws.proofs.LaidBlocks.{Lies, laid_as, lies_then, map_append, map_length, still_at}
use Rattle.yv_expand_laws.proofs.GroupMarks.{run_marks}
use Rattle.yv_expand_laws.proofs.Marks.{blocks_are_marked}
use Rattle.yv_expand_laws.proofs.PlacedSpots.{placed_is_told}
use Rattle.yv_expand_laws.proofs.BlockRefusals.{Come, come_as, come_same, come_then}
use Rattle.yv_expand_laws.proofs.RefineStages.{changes_away, changes_then, noted, noted_alike, part, part_within, refined_parts}
use Rattle.yv_expand_laws.proofs.LabelsAndPaths.{labels_tell, laid_grows, laid_many}

pub at_behind : {A : Type 0} (xs ys : List A) (n j : ℕ) → length xs ≡ n → slice_get (xs ++ ys) (n + j) ≡ slice_get ys j
at_behind [] ys n j long = ap (slice_get ys) (let e : n + j ≡ j = omega (arith, long) in e)
at_behind (x ∷ xs) ys zero j long = absurd (omega (arith, long))
at_behind (x ∷ xs) ys (suc n) j long =
    ap (slice_get (x ∷ (xs ++ ys))) (let e : suc n + j ≡ suc (n + j) = omega arith in e) ∙ at_behind xs ys n j (omega (arith, long))

pub drop_at : {A : Type 0} (xs : List A) (n j : ℕ) → slice_get (drop n xs) j ≡ slice_get xs (n + j)
drop_at xs zero j = ap (slice_get xs) (let e : j ≡ 0 + j = omega arith in e)
drop_at [] (suc n) j = refl
drop_at (x ∷ xs) (suc n) j = drop_at xs n j ∙ ap (slice_get (x ∷ xs)) (let e : suc (n + j) ≡ suc n + j = omega arith in e)

pub drop_front : {A : Type 0} (xs ys : List A) (n : ℕ) → length xs ≡ n → drop n (xs ++ ys) ≡ ys
drop_front [] ys n long = ap (λ (m : ℕ). drop m ys) (let e : n ≡ 0 = omega (arith, long) in e)
drop_front (x ∷ xs) ys zero long = absurd (omega (arith, long))
drop_front (x ∷ xs) ys (suc n) long = drop_front xs ys n (omega (arith, long))

-- what is laid has as many spots as items
pub new_long : (w : Whole) (labels : List Label) (l : LayoutView) (these : List Item) (g n hi c e : ℕ) (F : Lies w labels l these g n hi c e) → length F.new ≡ length these
new_long w labels l these g n hi c e F =
    let r = laid_grows w these l in
    let same : l.spots ++ F.new ≡ l.spots ++ r.0 = ap (λ (z : LayoutView). z.spots) (sym F.laid) ∙ r.1 in
    let a = ap length same in let b = length-append l.spots F.new in let d = length-append l.spots r.0 in let f = r.2 in omega (arith, a, b, d, f)

-- the items below an item end where one comes that isn't below it
pub end_before : (items : List Item) (j m : ℕ) → j < m → is_from_at j (slice_get items m) ≡ false → end_at items j ≤ m
end_before items j m less stops =
    let e : drop (m - (j + 1)) (drop (j + 1) items) ≡ drop m items =
    drop_drop (j + 1) (m - (j + 1)) items ∙ ap (λ (n : ℕ). drop n items) (let f : j + 1 + (m - (j + 1)) ≡ m = omega (arith, less) in f) in
    let r = run_before (drop (j + 1) items) (m - (j + 1)) (ap (is_from_at j) (drop_at items (j + 1) (m - (j + 1))
    ∙ ap (slice_get items) (let f : j + 1 + (m - (j + 1)) ≡ m = omega (arith, less) in f)) ∙ stops) in
    omega (arith, r, less)
  where
    run_before : (xs : List Item) (k : ℕ) → is_from_at j (slice_get xs k) ≡ false → ends.run_length j xs ≤ k
    run_before [] k h = omega arith
    run_before (x ∷ xs) zero h = (let e = run_no j x xs h in omega (arith, e))
    run_before (x ∷ xs) (suc k) h = by (is_from j x) refl (run_before xs k h)
      where
        by : (b : Bool) → is_from j x ≡ b → ends.run_length j xs ≤ k → ends.run_length j (x ∷ xs) ≤ suc k
        by true is later = (let e = run_yes j x xs is in omega (arith, e, later))
        by false is later = (let e = run_no j x xs is in omega (arith, e))

-- the first of the items of a parent, or else of others, is below none from here on
pub first_stops : (parent : Option ℕ) (n : ℕ) → ((p : ℕ) → parent ≡ Some p → p < n) → (u : Tree) (m : ℕ) (behind : List Item) → ((j : ℕ) → n ≤ j → is_from_at j (slice_get behind 0) ≡ false)
    → (j : ℕ) → n ≤ j → is_from_at j (slice_get (item_list parent m u ++ behind) 0) ≡ false
first_stops parent n less expansion.none m behind stops j l = stops j l
first_stops parent n less (item o low rest) m behind stops j l = by parent refl
  where
    by : (o : Option ℕ) → parent ≡ o → is_above j o ≡ false
    by None is = refl
    by (Some p) is = (let h = less p is in not_le (nat_le j p) refl)
      where
        not_le : (b : Bool) → nat_le j p ≡ b → nat_le j p ≡ false
        not_le false e = e
        not_le true e = absurd (let low : j ≤ p = leb-true j p e in let h = less p is in omega (arith, low, h, l))

module _ (files : Files) (augments : List ℕ) (many : ℕ) (items : List Item) (its : Items) where
  abbrev pub w : Whole
  w = whole (map brief_of files) (rows_of files) augments many

  abbrev pub spots : List Spot
  spots = (layout_of w items).spots

  abbrev pub labels : List Label
  labels = labels_of spots

  abbrev pub copies : ℕ
  copies = (layout_of w items).copies

  -- where items stand when those from a number on have entered, and what is told of them then
  abbrev pub state : ℕ → List Spot → State
  state n xs = placed_from w labels copies n xs

  abbrev pub refined : ℕ → List Spot → List RefineMeaning
  refined n xs = refined_from w labels copies (end_at items) n xs

  abbrev pub stage : ℕ → List Spot → Items
  stage n xs = noted files spots its (refined n xs)

  -- these items, laid behind others, are the next, before `behind`
  pub record IsHere (l : LayoutView) (these behind : List Item) (n c : ℕ) (new rest : List Spot) : Type 0 where
    pub long : length l.spots ≡ n
    pub late : length augments ≤ c
    pub items_are : drop n items ≡ these ++ behind
    pub spots_are : spots ≡ (l.spots ++ new) ++ rest
    pub stops : (j : ℕ) → n ≤ j → is_from_at j (slice_get behind 0) ≡ false

  -- a block may enter here
  pub record MayRun (g n hi c e : ℕ) (st : State) : Type 0 where
    pub enters : MayEnter labels g n hi c e st
    pub empty : (x : ℕ) → n < x → x ≤ hi → members_of st.groups x ≡ []
    pub marks : HasMarks its.given (mark_of w) st

  -- a block of items that are laid gives what their statements give, and at its items that is
  -- refused which is refused of these
  abbrev pub Makes : {l : LayoutView} {these : List Item} {g n hi c e : ℕ} → Lies w labels l these g n hi c e → (Product → Type 0) → Type 0
  Makes {l = l} {these = these} {g = g} {n = n} {hi = hi} {c = c} {e = e} F G =
      (m : Product) (behind : List Item) (rest : List Spot) → G m → IsHere l these behind n c F.new rest → MayRun g n hi c e (state hi rest)
      → Come files augments many items (stage n (F.new ++ rest)) F.block m.nodes m.wrong

  module _ (facts : ShowNodes files w items (λ i. None) its) (each : length items ≡ many) where
    pub are : AreLabels labels its
    are = labels_tell w items its facts.told

    pub each_label : length labels ≡ many
    each_label = map_length (λ (s : Spot). s.label) spots ∙ (laid_many w items ∙ each)

    pub low : (y : ℕ) → y ≤ length labels → mark_of w y ≡ false
    low y le = (let many_are = each_label in ap (λ (b : Bool). is_some (if b then slice_get augments (y - many - 1) else None)) (le-ltb many y (omega (arith, le, many_are))))

    pub spot_here : {l : LayoutView} {these behind : List Item} {n c : ℕ} {new rest : List Spot} → IsHere l these behind n c new rest → (j : ℕ) (s : Spot) → slice_get new j ≡ Some s
        → slice_get spots (n + j) ≡ Some s
    spot_here {l = l} {n = n} {new = new} {rest = rest} here j s at =
        let in' = slice_get_within new j s at in
        let a = length-append l.spots new in let long = here.long in
        ap (λ z. slice_get z (n + j)) here.spots_are
        ∙ (still_at (l.spots ++ new) rest (n + j) (omega (arith, a, in', long)) ∙ (at_behind l.spots new n j here.long ∙ at))

    pub item_here : {l : LayoutView} {these behind : List Item} {n c : ℕ} {new rest : List Spot} → IsHere l these behind n c new rest → (j : ℕ) (x : Item) → slice_get these j ≡ Some x
        → slice_get items (n + j) ≡ Some x
    item_here {these = these} {behind = behind} {n = n} here j x at =
        sym (drop_at items n j) ∙ (ap (λ z. slice_get z j) here.items_are ∙ (still_at these behind j (slice_get_within these j x at) ∙ at))

    pub marked : {l : LayoutView} {these behind : List Item} {n c : ℕ} {new rest : List Spot} (g : ℕ) {hi e : ℕ} (block : Block n hi c e) → IsHere l these behind n c new rest
        → Lie labels g block (map (spot_view w) new) → MarksBlock labels its.given (mark_of w) g block
    marked {l = l} {n = n} {c = c} {new = new} {rest = rest} g {hi = hi} {e = e} block here lie =
        subst (λ given. MarksBlock labels given (mark_of w) g block) (sym (fun_ext facts.told.given))
        (blocks_are_marked w items g n hi c e block (map (spot_view w) new) each here.late in_place lie)
      where
        in_place : (j : ℕ) (s : laid_spots.Spot) → slice_get (map (spot_view w) new) j ≡ Some s → slice_get (map (spot_view w) spots) (n + j) ≡ Some s
        in_place j s at =
            let in' = slice_get_within (map (spot_view w) new) j s at in
            let a = length-append (map (spot_view w) l.spots) (map (spot_view w) new) in let b = map_length (spot_view w) l.spots in let long = here.long in
            ap (λ z. slice_get (map (spot_view w) z) (n + j)) here.spots_are
            ∙ (ap (λ z. slice_get z (n + j)) (map_append (spot_view w) (l.spots ++ new) rest ∙ ap (λ z. z ++ map (spot_view w) rest) (map_append (spot_view w) l.spots new))
            ∙ (still_at (map (spot_view w) l.spots ++ map (spot_view w) new) (map (spot_view w) rest) (n + j) (omega (arith, a, in', long, b))
            ∙ (at_behind (map (spot_view w) l.spots) (map (spot_view w) new) n j (omega (arith, b, long)) ∙ at)))

    -- what has entered, when the items of a block have
    pub state_is : (g : ℕ) {n hi c e : ℕ} (block : Block n hi c e) (new rest : List Spot) → n + length new ≡ hi → Lie labels g block (map (spot_view w) new)
        → state n (new ++ rest) ≡ enter_block labels g block (state hi rest)
    state_is g {n = n} {hi = hi} block new rest long lie =
        let many_are = map_length (spot_view w) new in
        placed_is_told w labels copies n (new ++ rest)
        ∙ (ap (λ z. placed_on labels n z (nothing (length labels) copies)) (map_append (spot_view w) new rest)
        ∙ (placed_append labels n hi (map (spot_view w) new) (map (spot_view w) rest) (nothing (length labels) copies) (omega (arith, many_are, long))
        ∙ (placed_is labels g block (map (spot_view w) new) (placed_on labels hi (map (spot_view w) rest) (nothing (length labels) copies)) lie
        ∙ ap (enter_block labels g block) (sym (placed_is_told w labels copies hi rest)))))

    pub all_state_is : {n hi c e k own : ℕ} (augs : Augments n hi c e k own) (new rest : List Spot) → n + length new ≡ hi → AllLie labels augs (map (spot_view w) new)
        → state n (new ++ rest) ≡ run_all labels augs (state hi rest)
    all_state_is {n = n} {hi = hi} augs new rest long lie =
        let many_are = map_length (spot_view w) new in
        placed_is_told w labels copies n (new ++ rest)
        ∙ (ap (λ z. placed_on labels n z (nothing (length labels) copies)) (map_append (spot_view w) new rest)
        ∙ (placed_append labels n hi (map (spot_view w) new) (map (spot_view w) rest) (nothing (length labels) copies) (omega (arith, many_are, long))
        ∙ (all_placed labels augs (map (spot_view w) new) (placed_on labels hi (map (spot_view w) rest) (nothing (length labels) copies)) lie
        ∙ ap (run_all labels augs) (sym (placed_is_told w labels copies hi rest)))))

    -- the refines of the first of these leave what those behind show
    pub node_stays : (n mid : ℕ) (new rest : List Spot) → n + length new ≡ mid → ((j : ℕ) → n ≤ j → j < mid → is_from_at j (slice_get items mid) ≡ false)
        → (i : ℕ) → mid ≤ i → (stage n (new ++ rest)).node_of i ≡ (stage mid rest).node_of i
    node_stays n mid new rest long stops i l =
        ap (λ r. record (its.node_of i) { refines = r })
        (ap (λ z. changes files spots z i) (refined_parts w labels copies (end_at items) n mid new rest long)
        ∙ (changes_then files spots i (refined mid rest) (part w labels copies (end_at items) n new rest)
        ∙ (ap (λ z. changes files spots (refined mid rest) i ++ z)
        (changes_away files spots (λ i. (n + 1 ≤ i) × (i < mid)) i (part w labels copies (end_at items) n new rest)
        (part_within w labels copies (end_at items) n mid new rest (λ j a b. end_before items j mid (omega (arith, b, long)) (stops j a (omega (arith, b, long)))))
        (λ h. (let u = h.1 in omega (arith, u, l))))
        ∙ append-nil (changes files spots (refined mid rest) i))))

    -- what may enter in front of others
    pub may_front : (g lo hi c e mid d : ℕ) (behind : Block mid hi d e) (st : State) → lo ≤ mid → c ≤ d → MayRun g lo hi c e st → MarksBlock labels its.given (mark_of w) g behind
        → MayRun g lo mid c d (enter_block labels g behind st)
    may_front g lo hi c e mid d behind st lm cd m marks =
        let up = goes_up behind in let mh = up.0 in let de = up.1 in
        let one = block_keeps labels g behind st (may_behind labels g lo hi c e mid d st lm cd m.enters) in
        let f = one.0 in
        let long = f.groups in let many_are = f.augments in
        let room = m.enters.room in let all = m.enters.items in let most = m.enters.copies in let group = m.enters.group in
        record {
          enters = record {
            room = omega (arith, room, long, many_are);
            items = omega (arith, all, mh);
            copies = omega (arith, most, de, many_are);
            group = omega (arith, group, long);
            outside = narrower labels lo hi c e lo mid c d g (omega arith) mh (omega arith) de m.enters.outside;
            from = one.1;
            fresh = λ j a b. f.outside (group_of_augment labels j)
                (λ same. elim m.enters.outside.1 [ inl p ↦ omega (arith, p, same, a) | inr p ↦ omega (arith, p, same, b, de) ])
                (inr (omega (arith, all)), inl (omega (arith, b))) ∙ m.enters.fresh j a (omega (arith, b, de));
            waiting = λ j a b. f.ends j (inl b) ∙ m.enters.waiting j a (omega (arith, b, de));
          };
          empty = λ x a b. f.outside x
              (λ same. elim m.enters.outside.0 [ inl p ↦ omega (arith, p, same, a) | inr p ↦ omega (arith, p, same, b, mh) ])
              (inl b, inl (omega (arith, b, mh, all))) ∙ m.empty x a (omega (arith, b, mh));
          marks = run_marks its.given (mark_of w) labels low g behind st marks m.marks;
        }

    -- the next items are these and those behind them
    pub split_here : (l : LayoutView) (xs ys behind : List Item) (n mid c d : ℕ) (new more rest : List Spot) → length new ≡ length xs → n + length new ≡ mid → c ≤ d
        → ((behind : List Item) → ((j : ℕ) → n ≤ j → is_from_at j (slice_get behind 0) ≡ false) → (j : ℕ) → n ≤ j → is_from_at j (slice_get (ys ++ behind) 0) ≡ false)
        → IsHere l (xs ++ ys) behind n c (new ++ more) rest
        → IsHere (laid_as w labels (l.spots ++ new) d) ys behind mid d more rest × IsHere l xs (ys ++ behind) n c new (more ++ rest)
    split_here l xs ys behind n mid c d new more rest as_long new_long_is cd firsts here =
        let long = here.long in let late = here.late in
        let a = length-append l.spots new in (
          record {
            long = omega (arith, a, new_long_is, long);
            late = omega (arith, late, cd);
            items_are = sym (ap (λ (m : ℕ). drop m items) (let h : n + length xs ≡ mid = omega (arith, as_long, new_long_is) in h)) ∙ (sym (drop_drop n (length xs) items)
                ∙ (ap (drop (length xs)) (here.items_are ∙ append_assoc xs ys behind) ∙ drop_front xs (ys ++ behind) (length xs) refl));
            spots_are = here.spots_are ∙ ap (λ z. z ++ rest) (sym (append_assoc l.spots new more));
            stops = λ j h. here.stops j (omega (arith, h, new_long_is));
          },
          record {
            long = long;
            late = late;
            items_are = here.items_are ∙ append_assoc xs ys behind;
            spots_are = here.spots_are ∙ (ap (λ z. z ++ rest) (sym (append_assoc l.spots new more)) ∙ append_assoc (l.spots ++ new) more rest);
            stops = firsts behind here.stops;
          },
        )

    -- one part behind another
    pub then_makes : (l : LayoutView) (xs ys : List Item) (g n mid hi c d e : ℕ) (p : Lies w labels l xs g n mid c d) (q : Lies w labels (laid_as w labels (l.spots ++ p.new) d) ys g mid hi d e)
        (P Q G : Product → Type 0) → ((m : Product) → G m → (a : Product) × (b : Product) × P a × Q b × (m.nodes ≡ nodes.join a.nodes b.nodes) × (m.wrong ≡ a.wrong ++ b.wrong))
        → ((behind : List Item) → ((j : ℕ) → n ≤ j → is_from_at j (slice_get behind 0) ≡ false) → (j : ℕ) → n ≤ j → is_from_at j (slice_get (ys ++ behind) 0) ≡ false)
        → Makes p P → Makes q Q → Makes (lies_then w labels l xs ys g n mid hi c d e p q) G
    then_makes l xs ys g n mid hi c d e p q P Q G parted firsts first second m behind rest gives here may =
        let x = parted m gives in
        let up = goes_up p.block in let nm = up.0 in let cd = up.1 in
        let both = split_here l xs ys behind n mid c d p.new q.new rest (new_long w labels l xs g n mid c d p) p.long cd firsts here in
        let here_q = both.0 in
        let here_p = both.1 in
        let st_q : state mid (q.new ++ rest) ≡ enter_block labels g q.block (state hi rest) = state_is g q.block q.new rest q.long q.lie in
        let may_q : MayRun g mid hi d e (state hi rest) = record {
          enters = may_behind labels g n hi c e mid d (state hi rest) nm cd may.enters;
          empty = λ y a b. may.empty y (omega (arith, a, nm)) b;
          marks = may.marks;
        } in
        let may_p : MayRun g n mid c d (state mid (q.new ++ rest)) =
        subst (MayRun g n mid c d) (sym st_q) (may_front g n hi c e mid d q.block (state hi rest) nm cd may (marked g q.block here_q q.lie)) in
        let now : Items = stage n (p.new ++ (q.new ++ rest)) in
        let A = first x.0 (ys ++ behind) (q.new ++ rest) x.2 here_p may_p in
        let B = second x.1 behind rest x.3 here_q may_q in
        let same_at : slice_get items mid ≡ slice_get (ys ++ behind) 0 =
        ap (slice_get items) (let h : mid ≡ mid + 0 = omega arith in h) ∙ (sym (drop_at items mid 0) ∙ ap (λ z. slice_get z 0) here_q.items_are) in
        let C = come_same files augments many items (stage mid (q.new ++ rest)) now (noted_alike files spots its (refined mid (q.new ++ rest)) (refined n (p.new ++ (q.new ++ rest)))) x.1.wrong
        (λ i a b. node_stays n mid p.new (q.new ++ rest) p.long (λ j u v. ap (is_from_at j) same_at ∙ firsts behind here.stops j u) i a) B in
        subst (λ z. Come files augments many items (stage n z) (then_block p.block q.block) m.nodes m.wrong) (sym (append_assoc p.new q.new rest))
        (come_as files augments many items now (then_block p.block q.block) (nodes.join x.0.nodes x.1.nodes) m.nodes (x.0.wrong ++ x.1.wrong) m.wrong (sym x.4) (sym x.5)
        (come_then files augments many items now x.0.wrong x.1.wrong A C))
