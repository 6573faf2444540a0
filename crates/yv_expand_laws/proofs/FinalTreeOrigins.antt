-- What stands in the final tree stood at the top before the rounds, or in what an augment of a
-- module gives that adds to a node.
use Rattle.std.proofs.Common.{◌⊎◌, inl, inr, ◌≡◌, ◌≢◌, ℕ, zero, suc, ◌+◌, ◌<◌, ◌≤◌, ◌==◌, if◌then◌else◌, Bool, true, false, List, [], ◌∷◌, length, set, get_or, refl, sym, ◌∙◌, ap, subst, arith, Option, Some, None}
use Rattle.std.specs.List.{Contains, slice_get}
use Rattle.std.specs.Option.{option_and_then}
use Rattle.std.proofs.lemmas.Bool.{cases_eq, cases_lt, false≢true}
use Rattle.std.proofs.lemmas.List.{length-map, get_or-replicate, get_or-set_other, get_or-set_same}
use Rattle.std.proofs.lemmas.List.Sorted.{sum_by-IsPermutation}
use Rattle.std.proofs.lemmas.Option.{same_Some}
use Rattle.yv_expand.specs.Tree.{Item}
use Rattle.yv_expand_rounds.specs.declared.end.End.{End}
use Rattle.yv_expand_rounds.specs.declared.end.End.TheVariants as end
use Rattle.yv_expand_rounds.specs.declared.label.Label.{Label}
use Rattle.yv_expand_rounds.specs.declared.row.ItemRow.{ItemRow}
use Rattle.yv_expand_rounds.specs.Groups.{Groups, IsIn, group_of_augment, members_of, move_items}
use Rattle.yv_expand_rounds.specs.Paths.{path_end}
use Rattle.yv_expand_rounds.specs.Placements.{HaveEntered, StandOnce, one_turn}
use Rattle.yv_expand_rounds.specs.Rounds.{AreApplied, round, rounds}
use Rattle.yv_expand_rounds.specs.Tree.{AreInOrder, IsTree, Make, Tree, item, tree_list}
use Rattle.yv_expand_rounds.specs.Tree as by_number
use Rattle.yv_expand_rounds.specs.Tree.Make.{no_items as none_made, one_more as one_more_made}
use Rattle.yv_expand_rounds.specs.Turns.{State, give, is_applied, is_some, is_some_target, settle, target, target_of, turn}
use Rattle.yv_expand_uses.specs.AugmentOrder.{augments_giving}
use Rattle.yv_expand_augments.specs.Augmentation.{copy_turn, last_of, placement, placed_from, turns_from}
use Rattle.yv_expand_uses.specs.Paths.{module_paths, path_in}
use Rattle.yv_expand_statements.specs.Kinds.{is_uses}
use Rattle.yv_expand_uses.specs.Spots.{LayoutView, Whole, labels_of, layout_of, laid_from, one_more, spot_of}
use Rattle.yv_expand_uses.specs.declared.spot.Spot.{Spot}
use Rattle.yv_expand_augments.proofs.ItemEntry.{whole_entered}
use Rattle.yv_expand_changes.specs.Refusals.{IsThere}
use Rattle.yv_expand_tree.proofs.NodePositions.{in_first, in_lists, in_second}
use Rattle.yv_expand.proofs.UnitListing.{pushed_at}
use Rattle.yv_expand_laws.specs.Under.{FinalStands, IsAdded, Under}
use Rattle.yv_expand_laws.specs.Under.Under.{below_item, in_group}
use Rattle.yv_expand_laws.proofs.FoundItems.{not_none, there_first, there_later}
use Rattle.yv_expand_laws.proofs.FrameSequences.{moved_other, nothing_stands}
use Rattle.yv_expand_laws.proofs.BlockNodes.{first_or}
use Rattle.yv_expand_laws.proofs.Trees.{contained, count, counted, in_all, one_if}
use Rattle.yv_expand_laws.proofs.Under.{ends_under, kept_under, moves_below, moves_more, moves_only, so_under, was_under}

-- what holds while items enter
abbrev pub Once : Type 0
Once = (labels : List Label) (augments : ℕ) (st : State) → HaveEntered labels augments 0 st → StandOnce (length labels) st.groups

abbrev pub One : Type 0
One = (groups : Groups) (items i g h : ℕ) → StandOnce items groups → IsIn i g groups → IsIn i h groups → g ≡ h

abbrev pub Room : Type 0
Room = (labels : List Label) (augments first : ℕ) (st : State) → HaveEntered labels augments first st → length st.groups ≡ length labels + 1 + augments

abbrev pub Many : Type 0
Many = (labels : List Label) (augments first : ℕ) (st : State) → HaveEntered labels augments first st → length st.ends ≡ augments

if_some : (b : Bool) (i j : ℕ) → (if b then Some i else None) ≡ Some j → i ≡ j
if_some true i j e = same_Some i j e
if_some false i j e = absurd (not_none e)

pub target_node : (labels : List Label) (e : End) (i : ℕ) → target labels e ≡ Some i → e ≡ end.Node i
target_node labels (end.Start h) i is = absurd (not_none is)
target_node labels (end.ShorthandCase j) i is = absurd (not_none is)
target_node labels (end.Node j) i is = ap (λ z. end.Node z) (if_some (is_some_target (slice_get labels j)) j i is)

module _ (once : Once) (one : One) (room : Room) (many : Many) (labels : List Label) (copies augments : ℕ) (few : augments ≤ copies) (old : State) where
  abbrev pub own : ℕ → ℕ
  own k = group_of_augment labels k

  abbrev pub Added : List (Option End) → ℕ → Type 0
  Added ends x = IsAdded labels augments old.groups ends x

  pub record Between (st : State) : Type 0 where
    pub top : (x : ℕ) → Under st.groups 0 x → Under old.groups 0 x ⊎ Added st.ends x
    pub back : (x : ℕ) → Under old.groups 0 x ⊎ Added st.ends x → Under st.groups 0 x
    pub waits : (k x : ℕ) → k < augments → is_applied st k ≡ false
        → (Under st.groups (own k) x → Under old.groups (own k) x) × (Under old.groups (own k) x → Under st.groups (own k) x)

  within : (st : State) → HaveEntered labels copies 0 st → (y i : ℕ) → Contains (members_of st.groups y) i → i < length labels
  within st E y i there = elim (cases_lt i (length labels)) [
    | inl l ↦ l
    | inr l ↦ (let a = in_all i y st.groups in let b = (once labels copies st E).no_other i l in let d = counted i (members_of st.groups y) there in absurd (omega (arith, a, b, d)))
  ]

  alone : (st : State) → HaveEntered labels copies 0 st → (y z i : ℕ) → Contains (members_of st.groups y) i → Contains (members_of st.groups z) i → y ≡ z
  alone st E y z i a b =
      let p = counted i (members_of st.groups y) a in let q = counted i (members_of st.groups z) b in
      one st.groups (length labels) i y z (once labels copies st E) (omega (arith, p)) (omega (arith, q))

  -- what stands at the top stands in no augment's block
  apart : (st : State) → HaveEntered labels copies 0 st → (k : ℕ) {i : ℕ} → Under st.groups 0 i → Under st.groups (own k) i → ⊥
  apart st E k {i = i} (in_group a) (in_group b) = (let e = alone st E 0 (own k) i a b in omega (arith, e))
  apart st E k {i = i} (in_group a) (below_item {i = q} v b) = (let e = alone st E 0 (q + 1) i a b in omega (arith, e))
  apart st E k {i = i} (below_item {i = p} u a) (in_group b) =
      (let e = alone st E (p + 1) (own k) i a b in let l = so_under (λ z. z < length labels) st.groups 0 (within st E) u in omega (arith, e, l))
  apart st E k {i = i} (below_item {i = p} u a) (below_item {i = q} v b) =
      (let e = alone st E (p + 1) (q + 1) i a b in
      apart st E k u (subst (λ (z : ℕ). Under st.groups (own k) z) (let f : q ≡ p = omega (arith, e) in f) v))

  module _ (k : ℕ) (less : k < augments) (names : List ℕ) (st : State) (E : HaveEntered labels copies 0 st) (B : Between st) (isnt : is_applied st k ≡ false) (e : End) where
    abbrev ends : List (Option End)
    ends = set st.ends k (Some e)

    here : get_or ends k None ≡ Some e
    here = get_or-set_same st.ends k (Some e) None (let m = many labels copies 0 st E in omega (arith, m, less, few))

    there : (j : ℕ) → j ≢ k → get_or ends j None ≡ get_or st.ends j None
    there j ne = get_or-set_other st.ends k j (Some e) None ne

    none_yet : target_of labels st.ends k ≡ None
    none_yet = by (get_or st.ends k None) isnt
      where
        by : (o : Option End) → is_some o ≡ false → option_and_then (target labels) o ≡ None
        by None h = refl
        by (Some x) h = absurd (false≢true (sym h))

    added_on : {x : ℕ} → Added st.ends x → Added ends x
    added_on d =
        let ne : d.place ≢ k = λ same. not_none (sym none_yet ∙ (ap (target_of labels st.ends) (sym same) ∙ d.adds)) in
        record { place = d.place; less = d.less; target = d.target; adds = ap (option_and_then (target labels)) (there d.place ne) ∙ d.adds; stands = d.stands }

    added_back : {x : ℕ} → Added ends x → Added st.ends x ⊎ (((i : ℕ) × (target labels e ≡ Some i)) × Under old.groups (own k) x)
    added_back {x = x} d = elim (cases_eq d.place k) [
      | inl same ↦ inr (
        (d.target, sym (ap (option_and_then (target labels)) here) ∙ (ap (target_of labels ends) (sym same) ∙ d.adds)),
        subst (λ (z : ℕ). Under old.groups (own z) x) same d.stands,
      )
      | inr ne ↦ inl (record { place = d.place; less = d.less; target = d.target; adds = sym (ap (option_and_then (target labels)) (there d.place ne)) ∙ d.adds; stands = d.stands })
    ]

    still_waits : (j : ℕ) → is_some (get_or ends j None) ≡ false → (j ≢ k) × (is_applied st j ≡ false)
    still_waits j h =
        let ne : j ≢ k = λ same. false≢true (sym h ∙ (ap (λ (z : ℕ). is_some (get_or ends z None)) same ∙ ap is_some here)) in
        (ne, ap is_some (sym (there j ne)) ∙ h)

    -- its path ends at no target
    gives_none : target labels e ≡ None → Between (record { groups = st.groups; ends = set st.ends k (Some e) })
    gives_none none = record {
      top = λ x u. elim (B.top x u) [ inl a ↦ inl a | inr d ↦ inr (added_on d) ];
      back = λ x u. B.back x (elim u [
        | inl a ↦ inl a
        | inr d ↦ elim (added_back d) [ inl f ↦ inr f | inr f ↦ absurd (not_none (sym none ∙ f.0.1)) ]
      ]);
      waits = λ j x l h. B.waits j x l (still_waits j h).1;
    }

    -- it ends at one
    gives_some : (i : ℕ) → target labels e ≡ Some i → path_end labels st.groups (length labels) names (end.Start 0) ≡ Some e
        → Between (record { groups = move_items (own k) (i + 1) st.groups; ends = set st.ends k (Some e) })
    gives_some i is leads =
        let at : Under st.groups 0 i =
        ends_under labels st.groups (length labels) 0 names (end.Start 0) (end.Node i) refl (leads ∙ ap (λ z. Some z) (target_node labels e i is)) in
        let low : i < length labels = so_under (λ z. z < length labels) st.groups 0 (within st E) at in
        let r = room labels copies 0 st E in
        let other : own k ≢ i + 1 = λ same. omega (arith, same, low) in
        let to_room : i + 1 < length st.groups = omega (arith, low, r, few, less) in
        let own_room : own k < length st.groups = omega (arith, r, few, less) in
        let not_top : 0 ≢ own k = λ same. omega (arith, same) in
        let away : (y j : ℕ) → Contains (members_of st.groups y) j → j + 1 ≢ own k = λ y j c same. (let h = within st E y j c in omega (arith, h, same)) in
        let new : Groups = move_items (own k) (i + 1) st.groups in
        record {
          top = λ x u. elim (moves_only labels st.groups (own k) i 0 other to_room own_room not_top away u) [
            | inl a ↦ elim (B.top x a) [ inl b ↦ inl b | inr d ↦ inr (added_on d) ]
            | inr a ↦ inr (record { place = k; less = less; target = i; adds = ap (option_and_then (target labels)) here ∙ is; stands = (B.waits k x less isnt).0 a })
          ];
          back = λ x u. elim u [
            | inl a ↦ moves_more labels st.groups (own k) i 0 other to_room own_room not_top away (B.back x (inl a))
            | inr d ↦ elim (added_back d) [
              | inl f ↦ moves_more labels st.groups (own k) i 0 other to_room own_room not_top away (B.back x (inr f))
              | inr f ↦ moves_below labels st.groups (own k) i 0 other to_room own_room not_top away at ((B.waits k x less isnt).1 f.1)
            ]
          ];
          waits = λ j x l h.
              (let s = still_waits j h in
              let was = B.waits j x l s.1 in
              let ne = s.0 in
              let same : members_of new (own j) ≡ members_of st.groups (own j) =
              moved_other labels (own k) (i + 1) (own j) st.groups (λ q. ne (let z : j ≡ k = omega (arith, q) in z)) (λ q. omega (arith, q, low)) in
              let inner : (p : ℕ) → Under st.groups (own j) p → members_of new (p + 1) ≡ members_of st.groups (p + 1) =
              λ p u. moved_other labels (own k) (i + 1) (p + 1) st.groups
              (λ q. (let b = so_under (λ z. z < length labels) st.groups (own j) (within st E) u in omega (arith, q, b)))
              (λ q. apart st E j at (subst (λ (z : ℕ). Under st.groups (own j) z) (let z : p ≡ i = omega (arith, q) in z) u)) in
              ((λ u. was.0 (was_under st.groups new (own j) same inner u)), (λ u. kept_under st.groups new (own j) same inner (was.1 u))));
        }

  turn_between : (k : ℕ) → k < augments → (names : List ℕ) (st : State) → HaveEntered labels copies 0 st → Between st → Between (turn labels k 0 (length labels) names st)
  turn_between k less names st E B = by (is_applied st k) refl
    where
      gives : (e : End) → is_applied st k ≡ false → path_end labels st.groups (length labels) names (end.Start 0) ≡ Some e → (o : Option ℕ) → target labels e ≡ o
          → Between (record { groups = give (group_of_augment labels k) o st.groups; ends = set st.ends k (Some e) })
      gives e isnt leads None is = gives_none k less names st E B isnt e is
      gives e isnt leads (Some i) is = gives_some k less names st E B isnt e i is leads

      settles : (o : Option End) → is_applied st k ≡ false → path_end labels st.groups (length labels) names (end.Start 0) ≡ o → Between (settle labels k o st)
      settles None isnt leads = B
      settles (Some e) isnt leads = gives e isnt leads (target labels e) refl

      by : (b : Bool) → is_applied st k ≡ b → Between (if b then st else settle labels k (path_end labels st.groups (length labels) names (end.Start 0)) st)
      by true is = B
      by false is = settles (path_end labels st.groups (length labels) names (end.Start 0)) is refl

  round_between : (k : ℕ) (paths : List (List ℕ)) (st : State) → k + length paths ≤ augments → HaveEntered labels copies 0 st → Between st
      → HaveEntered labels copies 0 (round labels k paths st) × Between (round labels k paths st)
  round_between k [] st l E B = (E, B)
  round_between k (names ∷ others) st l E B =
      round_between (k + 1) others (turn labels k 0 (length labels) names st) (omega (arith, l)) (one_turn k 0 (length labels) names (omega (arith, l, few)) E)
      (turn_between k (omega (arith, l)) names st E B)

  rounds_between : (paths : List (List ℕ)) (n : ℕ) (st : State) → length paths ≤ augments → HaveEntered labels copies 0 st → Between st → Between (rounds labels 0 paths n st)
  rounds_between paths zero st l E B = B
  rounds_between paths (suc n) st l E B =
      (let r = round_between 0 paths st (omega (arith, l)) E B in rounds_between paths n (round labels 0 paths st) l r.0 r.1)

  pub applied_between : (paths : List (List ℕ)) (new : State) → length paths ≤ augments → HaveEntered labels copies 0 old
      → ((k : ℕ) → k < augments → get_or old.ends k None ≡ None) → AreApplied labels 0 paths old new → Between new
  applied_between paths new l E none are =
      subst Between (sym are.is) (rounds_between paths are.count old l E (record {
        top = λ x u. inl u;
        back = λ x u. elim u [
          | inl a ↦ a
          | inr d ↦ absurd (not_none (sym (ap (option_and_then (target labels)) (none d.place d.less)) ∙ d.adds))
        ];
        waits = λ k x h isnt. ((λ u. u), (λ u. u));
      }))

-- the numbers of a tree
abbrev InTree : Tree → ℕ → Type 0
InTree by_number.none x = ⊥
InTree (item i below behind) x = (x ≡ i) ⊎ (InTree below x ⊎ InTree behind x)

module _ (labels : List Label) (groups : Groups) where
  as_often : (g : ℕ) (xs : List ℕ) → AreInOrder labels groups g xs → (y : ℕ) → count y xs ≡ count y (members_of groups g)
  as_often g xs a y = sum_by-IsPermutation (λ i. one_if (i == y)) (members_of groups g) xs a.permutation

  in_list : (g : ℕ) (xs : List ℕ) → AreInOrder labels groups g xs → (y : ℕ) → Contains (members_of groups g) y → Contains xs y
  in_list g xs a y h = contained y xs (let e = as_often g xs a y in let f = counted y (members_of groups g) h in omega (arith, e, f))

  of_group : (g : ℕ) (xs : List ℕ) → AreInOrder labels groups g xs → (y : ℕ) → Contains xs y → Contains (members_of groups g) y
  of_group g xs a y h = contained y (members_of groups g) (let e = as_often g xs a y in let f = counted y xs h in omega (arith, e, f))

  tops_in : {xs : List ℕ} {t : Tree} → Make labels groups xs t → (x : ℕ) → Contains xs x → InTree t x
  tops_in none_made x there = absurd (nothing_stands x there)
  tops_in (one_more_made {i = i} {others = others} o m r) x there = elim (first_or i others x there) [ inl same ↦ inl (sym same) | inr h ↦ inr (inr (tops_in r x h)) ]

  kids_in : {xs : List ℕ} {t : Tree} → Make labels groups xs t → (i x : ℕ) → InTree t i → Contains (members_of groups (i + 1)) x → InTree t x
  kids_in none_made i x at there = absurd at
  kids_in (one_more_made {i = j} {items = items} o m r) i x at there = elim at [
    | inl same ↦ inr (inl (tops_in m x (in_list (j + 1) items o x (subst (λ (z : ℕ). Contains (members_of groups (z + 1)) x) same there))))
    | inr (inl h) ↦ inr (inl (kids_in m i x h there))
    | inr (inr h) ↦ inr (inr (kids_in r i x h there))
  ]

  under_in : {xs : List ℕ} {t : Tree} → AreInOrder labels groups 0 xs → Make labels groups xs t → {x : ℕ} → Under groups 0 x → InTree t x
  under_in {xs = xs} o m {x = x} (in_group there) = tops_in m x (in_list 0 xs o x there)
  under_in o m {x = x} (below_item {i = i} u there) = kids_in m i x (under_in o m u) there

  in_under : {xs : List ℕ} {t : Tree} → Make labels groups xs t → ((j : ℕ) → Contains xs j → Under groups 0 j) → (x : ℕ) → InTree t x → Under groups 0 x
  in_under none_made all x at = absurd at
  in_under (one_more_made {i = i} {items = items} {others = others} o m r) all x at = elim at [
    | inl same ↦ subst (λ (z : ℕ). Under groups 0 z) (sym same) (all i (there_first i others))
    | inr (inl h) ↦ in_under m (λ j c. below_item (all i (there_first i others)) (of_group (i + 1) items o j c)) x h
    | inr (inr h) ↦ in_under r (λ j c. all j (there_later i j others c)) x h
  ]

in_rows : (t : Tree) (parent : Option ℕ) (depth x : ℕ) → InTree t x → IsThere (tree_list parent depth t) x
in_rows by_number.none parent depth x at = absurd at
in_rows (item i below behind) parent depth x at = elim at [
  | inl same ↦ record { place = 0; row = record { number = i; parent = parent; depth = depth }; at = refl; is = sym same }
  | inr (inl h) ↦
      let s = in_rows below (Some i) (depth + 1) x h in
      record { place = suc s.place; row = s.row; at = in_first (tree_list (Some i) (depth + 1) below) (tree_list parent depth behind) s.place s.row s.at; is = s.is }
  | inr (inr h) ↦
      let s = in_rows behind parent depth x h in
      record {
        place = suc (length (tree_list (Some i) (depth + 1) below) + s.place);
        row = s.row;
        at = in_second (tree_list (Some i) (depth + 1) below) (tree_list parent depth behind) (length (tree_list (Some i) (depth + 1) below) + s.place) s.place s.row refl s.at;
        is = s.is;
      }
]

row_in : (t : Tree) (parent : Option ℕ) (depth k : ℕ) (row : ItemRow) → slice_get (tree_list parent depth t) k ≡ Some row → InTree t row.number
row_in by_number.none parent depth k row at = absurd (not_none at)
row_in (item i below behind) parent depth zero row at =
    inl (sym (ap (λ (z : ItemRow). z.number) (same_Some (record { number = i; parent = parent; depth = depth }) row at)))
row_in (item i below behind) parent depth (suc k) row at =
    elim (in_lists (tree_list (Some i) (depth + 1) below) (tree_list parent depth behind) k row at) [
      | inl h ↦ inr (inl (row_in below (Some i) (depth + 1) k row h))
      | inr h ↦ inr (inr (row_in behind parent depth h.0 row h.2))
    ]

-- an item is in the final tree where it stands at the top, at any depth
pub tree_under : (labels : List Label) (groups : Groups) (t : Tree) → IsTree labels groups t → (x : ℕ) → IsThere (tree_list None 1 t) x → Under groups 0 x
tree_under labels groups t is x h =
    in_under labels groups is.2 (λ j c. in_group (of_group labels groups 0 is.0 is.1 j c)) x (subst (InTree t) h.is (row_in t None 1 h.place h.row h.at))

pub under_tree : (labels : List Label) (groups : Groups) (t : Tree) → IsTree labels groups t → (x : ℕ) → Under groups 0 x → IsThere (tree_list None 1 t) x
under_tree labels groups t is x u = in_rows t None 1 x (under_in labels groups is.1 is.2 u)

-- no augment of a module was applied when all items have entered
module _ (w : Whole) (labels : List Label) (place : ℕ) where
  turns_wait : (s : Spot) (number : ℕ) (augments : List ℕ) (st : State) → place < number → get_or st.ends place None ≡ None
      → get_or (turns_from w labels s number augments st).ends place None ≡ None
  turns_wait s number [] st l h = h
  turns_wait s number (a ∷ others) st l h =
      turns_wait s (number + 1) others (copy_turn w labels s number a st) (omega (arith, l))
      (by (is_applied st number) (path_end labels st.groups (last_of (members_of st.groups (group_of_augment labels number))) (path_in w s.module_file a) (end.Start s.group)))
    where
      by : (b : Bool) (o : Option End) → get_or (if b then st else settle labels number o st).ends place None ≡ None
      by true o = h
      by false None = h
      by false (Some e) = get_or-set_other st.ends number place (Some e) None (λ same. omega (arith, same, l)) ∙ h

  spots_wait : (copies i : ℕ) (ss : List Spot) → place < copies → ((k : ℕ) (s : Spot) → slice_get ss k ≡ Some s → place < s.first)
      → get_or (placed_from w labels copies i ss).ends place None ≡ None
  spots_wait copies i [] l all = get_or-replicate copies place None None l
  spots_wait copies i (s ∷ ss) l all = by (is_uses s.label.kind) (spots_wait copies (i + 1) ss l (λ k t at. all (suc k) t at))
    where
      by : (b : Bool) → get_or (placed_from w labels copies (i + 1) ss).ends place None ≡ None
          → get_or (if b then turns_from w labels s s.first (augments_giving w.rows s.statement) (placed_from w labels copies (i + 1) ss) else placed_from w labels copies (i + 1) ss).ends place None ≡ None
      by true rest = turns_wait s s.first (augments_giving w.rows s.statement) (placed_from w labels copies (i + 1) ss) (all 0 s refl) rest
      by false rest = rest

firsts_from : (w : Whole) (base : ℕ) (xs : List Item) (l : LayoutView) → base ≤ l.copies → ((k : ℕ) (s : Spot) → slice_get l.spots k ≡ Some s → base ≤ s.first)
    → (base ≤ (laid_from w xs l).copies) × ((k : ℕ) (s : Spot) → slice_get (laid_from w xs l).spots k ≡ Some s → base ≤ s.first)
firsts_from w base [] l le all = (le, all)
firsts_from w base (x ∷ xs) l le all =
    let y : Spot = spot_of w l.spots l.copies x in
    firsts_from w base xs (one_more w x l) (omega (arith, le))
    (λ k s at. elim (pushed_at l.spots y s k at) [
      | inl was ↦ all k s was
      | inr same ↦ (let e : l.copies ≡ s.first = ap (λ (z : Spot). z.first) same.1 in omega (arith, le, e))
    ])

firsts : (w : Whole) (items : List Item) → (length w.augments ≤ (layout_of w items).copies)
    × ((k : ℕ) (s : Spot) → slice_get (layout_of w items).spots k ≡ Some s → length w.augments ≤ s.first)
unfolding layout_of
firsts w items =
    firsts_from w (length w.augments) items (record { spots = []; copies = length w.augments }) (omega arith) (λ k s at. absurd (not_none at))

pub final_stands : Once → One → Room → Many → FinalStands
final_stands once one room many w items st t x long grafted is_tree =
    let l : LayoutView = layout_of w items in
    let labels : List Label = labels_of l.spots in
    let f = firsts w items in
    let few = f.0 in
    let paths : length (module_paths w) ≡ length w.augments = length-map w.augments _ in
    let B = applied_between once one room many labels l.copies (length w.augments) few (placement w l) (module_paths w) st (omega (arith, paths)) (whole_entered w items (sym long))
    (λ k less. spots_wait w labels k l.copies 0 l.spots (omega (arith, less, few)) (λ j s at. (let g = f.1 j s at in omega (arith, less, g)))) grafted.applied in (
      (λ h. B.top x (tree_under labels st.groups t is_tree x h)),
      (λ h. under_tree labels st.groups t is_tree x (B.back x h)),
    )
