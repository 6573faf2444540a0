-- Which augment of a module gives an item: that in whose group the item is laid.
use Rattle.std.proofs.Common.{◌⊎◌, inl, inr, ◌≡◌, ℕ, zero, suc, ◌+◌, ◌-◌, ◌<◌, ◌≤◌, ◌==◌, Bool, true, false, if◌then◌else◌, List, [], ◌∷◌, ◌++◌, length, map, refl, sym, ◌∙◌, ap, subst, arith, eqb-true, eq-eqb, Option, Some, None}
use Rattle.std.specs.List.{Contains, slice_get}
use Rattle.std.specs.Option.{is_some, option_map}
use Rattle.std.proofs.lemmas.Bool.{cases_lt, false≢true, le-ltb, lt-ltb}
use Rattle.std.proofs.lemmas.Option.{same_Some, slice_get-map, slice_get_past, slice_get_within}
use Rattle.yv_expand.specs.Tree.{Item, Tree, count}
use Rattle.yv_expand_rounds.specs.declared.label.Label.{Label}
use Rattle.yv_expand_rounds.specs.Groups.{group_of_augment, members_of}
use Rattle.yv_expand_rounds.specs.Order.{is_given, is_some_given}
use Rattle.yv_expand_rounds.specs.Placements.{nothing}
use Rattle.yv_expand_uses.specs.Spots.{Whole, source_in, labels_of, layout_of}
use Rattle.yv_expand_uses.specs.declared.spot.Spot.{Spot as LaidSpot}
use Rattle.yv_expand_tree.proofs.NodePositions.{in_lists}
use Rattle.yv_expand_laws.specs.FirstItems.{BlocksMarked, first_state}
use Rattle.yv_expand_laws.specs.Blocks.{Augments, Block, augment, no_augments, run_all, uses}
use Rattle.yv_expand_laws.specs.Blocks as block
use Rattle.yv_expand_laws.specs.Comes.{HasMarks, MarksBlock}
use Rattle.yv_expand_laws.specs.Expansions.{spot_view}
use Rattle.yv_expand_laws.specs.Files.{begins_at, giver_by, giver_of}
use Rattle.yv_expand_laws.specs.Layout.{AllLie, Lie, Spot}
use Rattle.yv_expand_laws.proofs.InitialNodes.{blocks_mark}
use Rattle.yv_expand_laws.proofs.FoundItems.{not_none}
use Rattle.yv_expand_laws.proofs.FrameSequences.{nothing_stands}
use Rattle.yv_expand_laws.proofs.BlockFrame.{all_go_up, goes_up}
use Rattle.yv_expand_laws.proofs.LaidBlocks.{map_append, map_length, still_at}
use Rattle.yv_expand_laws.proofs.LaterItems.{at_behind}
use Rattle.yv_expand_laws.proofs.GroupMarks.{run_marks}
use Rattle.yv_expand_laws.proofs.Marks.{Told, lie_marked, told_first, told_rest}
use Rattle.yv_expand_laws.proofs.ExpansionStart.{none_there}
use Rattle.yv_expand_laws.proofs.LabelsAndPaths.{laid_many, told_at}

-- the blocks of augments are those of trees, one behind the other
abbrev pub Spans : {lo hi c e k own : ℕ} → Augments lo hi c e k own → List Tree → Type 0
Spans no_augments ts = ts ≡ []
Spans {lo = lo} (augment mid d names b others) ts = (t : Tree) × (us : List Tree) × (ts ≡ t ∷ us) × (lo + count t ≡ mid) × Spans others us

pub begins_first : (n : ℕ) (ts : List Tree) → begins_at n ts zero ≡ n
begins_first n [] = refl
begins_first n (t ∷ ts) = refl

pub begins_up : (n : ℕ) (ts : List Tree) (k : ℕ) → (n ≤ begins_at n ts k) × (begins_at n ts k ≤ begins_at n ts (suc k))
begins_up n [] k = (omega arith, omega arith)
begins_up n (t ∷ ts) zero = (let e = begins_first (n + count t) ts in (omega arith, omega (arith, e)))
begins_up n (t ∷ ts) (suc k) = (let h = begins_up (n + count t) ts k in let a = h.0 in (omega (arith, a), h.1))

-- blocks don't overlap
pub begins_apart : (n : ℕ) (ts : List Tree) (j k : ℕ) → j < k → begins_at n ts (suc j) ≤ begins_at n ts k
begins_apart n ts j zero l = absurd (omega (arith, l))
begins_apart n [] j (suc k) l = omega arith
begins_apart n (t ∷ ts) zero (suc k) l = (let e = begins_first (n + count t) ts in let h = begins_up (n + count t) ts k in let a = h.0 in omega (arith, e, a))
begins_apart n (t ∷ ts) (suc j) (suc k) l = begins_apart (n + count t) ts j k (omega (arith, l))

-- blocks of augments of modules have the marks of what is told of their spots
pub blocks_told : (labels : List Label) (given mark : ℕ → Bool) (most : ℕ) (copies_mark : (k : ℕ) → most ≤ k → mark (group_of_augment labels k) ≡ false) {lo hi c e k own : ℕ}
    (augs : Augments lo hi c e k own) (spots : List Spot) → AllLie labels augs spots → most ≤ c → Told labels given mark most copies_mark lo spots → BlocksMarked labels given mark augs
blocks_told labels given mark most copies_mark no_augments spots is few told = tt
blocks_told labels given mark most copies_mark {lo = lo} {k = k} (augment mid d names b others) spots (low, rest, is, L, A, mid_is) few spot_view =
    let all : Told labels given mark most copies_mark lo (low ++ rest) = subst (Told labels given mark most copies_mark lo) is spot_view in
    let up = (goes_up b).1 in (
      lie_marked labels given mark most copies_mark (group_of_augment labels k) b low L few (told_first labels given mark most copies_mark lo 0 low rest all),
      blocks_told labels given mark most copies_mark others rest A (omega (arith, few, up)) (told_rest labels given mark most copies_mark lo mid low rest mid_is all),
    )

-- what holds of the group of the first, and of those of the others, holds of all
first_or_later : (P : ℕ → Type 0) (g : ℕ) → P g → (first : Spot) (others : List Spot) → first.group ≡ g → ((i : ℕ) (s : Spot) → slice_get others i ≡ Some s → P s.group) → (j : ℕ) (s : Spot)
    → slice_get (first ∷ others) j ≡ Some s → P s.group
first_or_later P g here first others group later zero s at = subst P (sym group ∙ ap (λ (z : Spot). z.group) (same_Some first s at)) here
first_or_later P g here first others group later (suc j) s at = later j s at

-- in a block stand no groups but that of the block, those of items, and those of copies of augments
-- of uses
module _ (labels : List Label) (P : ℕ → Type 0) (most : ℕ) (of_items : (x : ℕ) → x ≤ length labels → P x) (of_copies : (k : ℕ) → most ≤ k → P (group_of_augment labels k)) where
  mutual
    pub groups_of : (g : ℕ) → P g → {lo hi c e : ℕ} (b : Block lo hi c e) → hi ≤ length labels → most ≤ c → (spots : List Spot) → Lie labels g b spots → (j : ℕ) (s : Spot)
        → slice_get spots j ≡ Some s → P s.group
    groups_of g here block.nothing within few spots is j s at = absurd (not_none (sym (ap (λ z. slice_get z j) is) ∙ at))
    groups_of g here {lo = lo} (block.item mid d below behind) within few spots (first, low, rest, is, group, of_no, L, R, long) j s at =
        let up = goes_up below in let lm = up.0 in let cd = up.1 in
        let up' = goes_up behind in let mh = up'.0 in
        first_or_later P g here first (low ++ rest) group
        (λ i q there. elim (in_lists low rest i q there) [
          | inl x ↦ groups_of (lo + 1) (of_items (lo + 1) (omega (arith, lm, mh, within))) below (omega (arith, mh, within)) few low L i q x
          | inr x ↦ groups_of g here behind within (omega (arith, few, cd)) rest R x.0 q x.2
        ]) j s (sym (ap (λ z. slice_get z j) is) ∙ at)
    groups_of g here {lo = lo} (uses mid end own d e copies augs behind) within few spots (first, low, theirs, rest, is, group, of_uses, number, paths, L, A, R, mid_is, end_is) j s at =
        let up = goes_up copies in let lm = up.0 in let od = up.1 in
        let up' = all_go_up augs in let me = up'.0 in let de = up'.1 in let co = up'.2 in
        let up'' = goes_up behind in let eh = up''.0 in
        first_or_later P g here first (low ++ (theirs ++ rest)) group
        (λ i q there. elim (in_lists low (theirs ++ rest) i q there) [
          | inl x ↦ groups_of g here copies (omega (arith, me, eh, within)) (omega (arith, few, co)) low L i q x
          | inr x ↦ elim (in_lists theirs rest x.0 q x.2) [
            | inl y ↦ all_groups augs (omega (arith, eh, within)) (omega (arith, few, co, od)) few theirs A x.0 q y
            | inr y ↦ groups_of g here behind within (omega (arith, few, co, od, de)) rest R y.0 q y.2
          ]
        ]) j s (sym (ap (λ z. slice_get z j) is) ∙ at)

    all_groups : {lo hi c e k own : ℕ} (augs : Augments lo hi c e k own) → hi ≤ length labels → most ≤ c → most ≤ k → (spots : List Spot) → AllLie labels augs spots → (j : ℕ) (s : Spot)
        → slice_get spots j ≡ Some s → P s.group
    all_groups no_augments within few few' spots is j s at = absurd (not_none (sym (ap (λ z. slice_get z j) is) ∙ at))
    all_groups {k = k} (augment mid d names b others) within few few' spots (low, rest, is, L, A, mid_is) j s at =
        let up = goes_up b in let cd = up.1 in
        let up' = all_go_up others in let mh = up'.0 in
        elim (in_lists low rest j s (sym (ap (λ z. slice_get z j) is) ∙ at)) [
          | inl x ↦ groups_of (group_of_augment labels k) (of_copies k few') b (omega (arith, mh, within)) few low L j s x
          | inr x ↦ all_groups others within (omega (arith, few, cd)) (omega (arith, few')) rest A x.0 s x.2
        ]

-- the augment that is told, if this is the one
abbrev is_the : ℕ → Option ℕ → Bool
is_the a None = false
is_the a (Some b) = a == b

the_one : (a : ℕ) (o : Option ℕ) → is_the a o ≡ true → o ≡ Some a
the_one a None h = absurd (false≢true h)
the_one a (Some b) h = ap (λ (n : ℕ). Some n) (sym (eqb-true a b h))

not_any : (o : Option ℕ) → is_some o ≡ false → o ≡ None
not_any None h = refl
not_any (Some b) h = absurd (false≢true (sym h))

module _ (w : Whole) (items : List Item) (each : length items ≡ w.items) where
  abbrev spots : List LaidSpot
  spots = (layout_of w items).spots

  abbrev labels : List Label
  labels = labels_of spots

  abbrev giver_at : ℕ → Option ℕ
  giver_at i = giver_of w items i

  -- the augment that gives what stands in a group
  abbrev pub giver_here : ℕ → Option ℕ
  giver_here x = source_in w.items w.augments x

  pub many_labels : length labels ≡ w.items
  many_labels = map_length (λ (s : LaidSpot). s.label) spots ∙ (laid_many w items ∙ each)

  pub giver_low : (x : ℕ) → x ≤ length labels → giver_here x ≡ None
  giver_low x l = (let e = many_labels in ap (λ (b : Bool). if b then slice_get w.augments (x - w.items - 1) else None) (le-ltb w.items x (omega (arith, l, e))))

  pub giver_high : (k : ℕ) → giver_here (group_of_augment labels k) ≡ slice_get w.augments k
  giver_high k =
      let e = many_labels in
      let g : ℕ = length labels + 1 + k in
      ap (λ (b : Bool). if b then slice_get w.augments (g - w.items - 1) else None) (lt-ltb w.items g (omega (arith, e)))
      ∙ ap (slice_get w.augments) (let f : g - w.items - 1 ≡ k = omega (arith, e) in f)

  pub giver_place : (k a : ℕ) → slice_get w.augments k ≡ Some a → giver_here (group_of_augment labels k) ≡ Some a
  giver_place k a at = giver_high k ∙ at

  pub giver_past : (k : ℕ) → length w.augments ≤ k → giver_here (group_of_augment labels k) ≡ None
  giver_past k past = giver_high k ∙ slice_get_past w.augments k past

  told_giver : (i : ℕ) (s : Spot) → slice_get (map (spot_view w) spots) i ≡ Some s → giver_at i ≡ giver_here s.group
  told_giver i s at = by (slice_get spots i) refl
    where
      by : (o : Option LaidSpot) → slice_get spots i ≡ o → giver_at i ≡ giver_here s.group
      by None is = absurd (not_none (sym (slice_get-map (spot_view w) spots i ∙ ap (option_map (spot_view w)) is) ∙ at))
      by (Some t) is =
          let same : spot_view w t ≡ s = same_Some (spot_view w t) s (sym (slice_get-map (spot_view w) spots i ∙ ap (option_map (spot_view w)) is) ∙ at) in
          ap (giver_by w) is ∙ ap (λ (z : Spot). giver_here z.group) same

  -- an item has the mark of those that an augment of a module gives if one gives it
  pub given_is : (i : ℕ) → is_given labels i ≡ is_some (giver_at i)
  given_is i = by (slice_get spots i) refl
    where
      by : (o : Option LaidSpot) → slice_get spots i ≡ o → is_given labels i ≡ is_some (giver_at i)
      by None is =
          ap is_some_given (slice_get-map (λ (z : LaidSpot). z.label) spots i ∙ ap (option_map (λ (z : LaidSpot). z.label)) is) ∙ sym (ap (λ o. is_some (giver_by w o)) is)
      by (Some t) is =
          let x = told_at w items i t is in
          ap is_some_given (slice_get-map (λ (z : LaidSpot). z.label) spots i ∙ ap (option_map (λ (z : LaidSpot). z.label)) is)
          ∙ (ap (λ (z : Label). z.given) x.2.label ∙ sym (ap (λ o. is_some (giver_by w o)) is))

  -- items of which the first lie in a block, and the others in those of augments of modules
  module _ (own hi d e : ℕ) (front : Block 0 own (length w.augments) d) (augs : Augments own hi d e 0 (length w.augments)) (within : hi ≤ length labels) (new more : List LaidSpot)
      (spots_are : spots ≡ new ++ more) (long : length new ≡ own) (lie : Lie labels 0 front (map (spot_view w) new)) (all_lie : AllLie labels augs (map (spot_view w) more)) where
    up : (0 ≤ own) × (length w.augments ≤ d)
    up = goes_up front

    up' : (own ≤ hi) × (d ≤ e) × (0 ≤ length w.augments)
    up' = all_go_up augs

    told_are : map (spot_view w) spots ≡ map (spot_view w) new ++ map (spot_view w) more
    told_are = ap (map (spot_view w)) spots_are ∙ map_append (spot_view w) new more

    in_front : (j : ℕ) (s : Spot) → slice_get (map (spot_view w) new) j ≡ Some s → giver_at j ≡ giver_here s.group
    in_front j s at = told_giver j s (ap (λ z. slice_get z j) told_are ∙ (still_at (map (spot_view w) new) (map (spot_view w) more) j (slice_get_within (map (spot_view w) new) j s at) ∙ at))

    behind_it : (j : ℕ) (s : Spot) → slice_get (map (spot_view w) more) j ≡ Some s → giver_at (own + j) ≡ giver_here s.group
    behind_it j s at =
        told_giver (own + j) s (ap (λ z. slice_get z (own + j)) told_are ∙ (at_behind (map (spot_view w) new) (map (spot_view w) more) own j (map_length (spot_view w) new ∙ long) ∙ at))

    module _ (f : Option ℕ → Bool) (no : f None ≡ false) where
      pub front_marked : MarksBlock labels (λ i. f (giver_at i)) (λ x. f (giver_here x)) 0 front
      front_marked =
          lie_marked labels (λ i. f (giver_at i)) (λ x. f (giver_here x)) (length w.augments) (λ k past. ap f (giver_past k past) ∙ no) 0 front (map (spot_view w) new) lie (omega arith)
          (λ j s at. ap (λ (i : ℕ). f (giver_at i)) (let h : 0 + j ≡ j = omega arith in h) ∙ ap f (in_front j s at))

      pub blocks_marked : BlocksMarked labels (λ i. f (giver_at i)) (λ x. f (giver_here x)) augs
      blocks_marked =
          let most = up.1 in
          blocks_told labels (λ i. f (giver_at i)) (λ x. f (giver_here x)) (length w.augments) (λ k past. ap f (giver_past k past) ∙ no) augs (map (spot_view w) more) all_lie most
          (λ j s at. ap f (behind_it j s at))

      marks_stand : HasMarks (λ i. f (giver_at i)) (λ x. f (giver_here x)) (first_state labels front augs)
      marks_stand =
          run_marks (λ i. f (giver_at i)) (λ x. f (giver_here x)) labels (λ x l. ap f (giver_low x l) ∙ no) 0 front (run_all labels augs (nothing (length labels) e)) front_marked
          (blocks_mark labels (λ i. f (giver_at i)) (λ x. f (giver_here x)) (λ x l. ap f (giver_low x l) ∙ no) augs (nothing (length labels) e) blocks_marked
          (λ y i h. absurd (nothing_stands i (subst (λ l. Contains l i) (none_there (length labels) e y) h))))

    -- what stands in a group is given by its augment
    pub givers_stand : (x i : ℕ) → Contains (members_of (first_state labels front augs).groups x) i → giver_at i ≡ giver_here x
    givers_stand x i there = by (giver_here x) refl
      where
        by : (o : Option ℕ) → giver_here x ≡ o → giver_at i ≡ giver_here x
        by None is = not_any (giver_at i) (marks_stand is_some refl x i there ∙ ap is_some is) ∙ sym is
        by (Some a) is = the_one a (giver_at i) (marks_stand (is_the a) refl x i there ∙ (ap (is_the a) is ∙ eq-eqb a a refl)) ∙ sym is

    -- no augment of a module gives what the files' own tops do
    pub own_givers : (i : ℕ) → i < own → giver_at i ≡ None
    own_givers i l = by (slice_get (map (spot_view w) new) i) refl
      where
        by : (o : Option Spot) → slice_get (map (spot_view w) new) i ≡ o → giver_at i ≡ None
        by None is = absurd (let a = slice_get_absent_at (map (spot_view w) new) i is in let b = map_length (spot_view w) new in let h = long in omega (arith, a, b, l, h))
          where
            slice_get_absent_at : (xs : List Spot) (i : ℕ) → slice_get xs i ≡ None → length xs ≤ i
            slice_get_absent_at [] i e = omega arith
            slice_get_absent_at (x ∷ xs) zero e = absurd (not_none (sym e))
            slice_get_absent_at (x ∷ xs) (suc i) e = (let h = slice_get_absent_at xs i e in omega (arith, h))
        by (Some s) is =
            let oh = up'.0 in
            in_front i s is ∙ groups_of labels (λ x. giver_here x ≡ None) (length w.augments) giver_low giver_past 0 (giver_low 0 (omega arith)) front (omega (arith, oh, within)) (omega arith)
            (map (spot_view w) new) lie i s is

    -- an augment of a module gives items of its block only
    block_givers : {lo hi c e k own : ℕ} (augs : Augments lo hi c e k own) (ts : List Tree) → hi ≤ length labels → length w.augments ≤ c → Spans augs ts → (xs : List Spot) → AllLie labels augs xs
        → (j : ℕ) (s : Spot) → slice_get xs j ≡ Some s
        → (p : ℕ) × (begins_at lo ts p ≤ lo + j) × (lo + j < begins_at lo ts (suc p)) × ((giver_here s.group ≡ None) ⊎ (giver_here s.group ≡ giver_here (group_of_augment labels (k + p))))
    block_givers no_augments ts within few spans xs is j s at = absurd (not_none (sym (ap (λ z. slice_get z j) is) ∙ at))
    block_givers {lo = lo} {hi = hi} {c = c} {e = e} {k = k} {own = own} (augment mid d names b others) ts within few (t, us, ts_are, mid_so, spans) xs (low, rest, is, L, A, mid_is) j s at =
        let up = goes_up b in let cd = up.1 in
        let up' = all_go_up others in let mh = up'.0 in
        elim (in_lists low rest j s (sym (ap (λ z. slice_get z j) is) ∙ at)) [
          | inl x ↦ (
            zero,
            (let e = ap (λ z. begins_at lo z zero) ts_are in omega (arith, e)),
            (let e = ap (λ z. begins_at lo z (suc zero)) ts_are in let f = begins_first (lo + count t) us in let l = slice_get_within low j s x in omega (arith, e, f, l, mid_is, mid_so)),
            groups_of labels (λ x. (giver_here x ≡ None) ⊎ (giver_here x ≡ giver_here (group_of_augment labels (k + 0)))) (length w.augments) (λ x l. inl (giver_low x l)) (λ j p. inl (giver_past j p))
                (group_of_augment labels k) (inr (ap (λ (n : ℕ). giver_here (group_of_augment labels n)) (let e : k ≡ k + 0 = omega arith in e))) b (omega (arith, mh, within)) few low L j s x,
          )
          | inr x ↦ (
              let r = block_givers others us within (omega (arith, few, cd)) spans rest A x.0 s x.2 in
              let a = r.1 in let z = r.2 in let i = x.1 in (
                suc r.0,
                (let e = ap (λ z. begins_at lo z (suc r.0)) ts_are in let f = ap (λ (n : ℕ). begins_at n us r.0) mid_so in omega (arith, e, f, a, i, mid_is)),
                (let e = ap (λ z. begins_at lo z (suc (suc r.0))) ts_are in let f = ap (λ (n : ℕ). begins_at n us (suc r.0)) mid_so in omega (arith, e, f, z, i, mid_is)),
                elim r.3 [ inl y ↦ inl y | inr y ↦ inr (y ∙ ap (λ (n : ℕ). giver_here (group_of_augment labels n)) (let e : k + 1 + r.0 ≡ k + suc r.0 = omega arith in e)) ],
              ))
        ]

    pub giver_spans : (ts : List Tree) → Spans augs ts → (i a : ℕ) → giver_at i ≡ Some a
        → (p : ℕ) × (slice_get w.augments p ≡ Some a) × (begins_at own ts p ≤ i) × (i < begins_at own ts (suc p))
    giver_spans ts spans i a gives = elim (front_or_behind i) [
      | inl l ↦ absurd (not_none (sym (own_givers i l) ∙ gives))
      | inr l ↦ by (slice_get (map (spot_view w) more) (i - own)) refl l
    ]
      where
        front_or_behind : (i : ℕ) → (i < own) ⊎ (own ≤ i)
        front_or_behind i = cases_lt i own

        by : (o : Option Spot) → slice_get (map (spot_view w) more) (i - own) ≡ o → own ≤ i → (p : ℕ) × (slice_get w.augments p ≡ Some a) × (begins_at own ts p ≤ i) × (i < begins_at own ts (suc p))
        by None is l = absurd (not_none (sym (none_at is l) ∙ gives))
          where
            none_at : slice_get (map (spot_view w) more) (i - own) ≡ None → own ≤ i → giver_at i ≡ None
            none_at is l = ap (giver_by w) (ap (λ z. slice_get z i) spots_are ∙ (ap (slice_get (new ++ more)) (let e : i ≡ own + (i - own) = omega (arith, l) in e) ∙ (at_behind new more own (i - own) long ∙ unmapped (slice_get more (i - own)) (sym (slice_get-map (spot_view w) more (i - own)) ∙ is))))
              where
                unmapped : (o : Option LaidSpot) → option_map (spot_view w) o ≡ None → o ≡ None
                unmapped None e = refl
                unmapped (Some s) e = absurd (not_none (sym e))
        by (Some s) is l =
            let most = up.1 in
            let r = block_givers augs ts within most spans (map (spot_view w) more) all_lie (i - own) s is in
            let a1 = r.1 in let a2 = r.2 in
            let here : giver_at i ≡ giver_here s.group = ap giver_at (let e : i ≡ own + (i - own) = omega (arith, l) in e) ∙ behind_it (i - own) s is in
            (r.0, elim r.3 [ inl y ↦ absurd (not_none (sym (here ∙ y) ∙ gives)) | inr y ↦ at_place r.0 (sym (here ∙ y) ∙ gives) ], omega (arith, a1, l), omega (arith, a2, l))
          where
            at_place : (p : ℕ) → giver_here (group_of_augment labels (0 + p)) ≡ Some a → slice_get w.augments p ≡ Some a
            at_place p e = sym (giver_high p) ∙ (ap (λ (n : ℕ). giver_here (group_of_augment labels n)) (let h : p ≡ 0 + p = omega arith in h) ∙ e)
