-- The copy of an augment of a uses ends, when all augments were applied, where its path led in its
-- turn.
use Rattle.std.proofs.Common.{◌⊎◌, inl, inr, ◌≡◌, ◌≢◌, ℕ, zero, suc, ◌+◌, ◌<◌, ◌≤◌, Bool, true, false, cond, if◌then◌else◌, List, [], ◌∷◌, ◌++◌, drop, length, take, get_or, Option, Some, None, refl, sym, ◌∙◌, ap, subst, arith}
use Rattle.std.specs.List.{filter, slice_get}
use Rattle.std.specs.Option.{option_and_then}
use Rattle.std.proofs.lemmas.Bool.{cases_eq}
use Rattle.std.proofs.lemmas.List.{append-nil, get_or-replicate, get_or-set_other, get_or-set_same, length-append, length-map}
use Rattle.std.proofs.lemmas.Option.{same_Some, slice_get_within}
use Rattle.yv_expand.specs.Tree.{Item}
use Rattle.yv_expand_rounds.specs.declared.end.End.{End}
use Rattle.yv_expand_rounds.specs.declared.end.End.TheVariants as end
use Rattle.yv_expand_rounds.specs.declared.label.Label.{Label}
use Rattle.yv_expand_rounds.specs.Groups.{group_of_augment, members_of}
use Rattle.yv_expand_rounds.specs.Paths.{path_end}
use Rattle.yv_expand_rounds.specs.Placements.{HaveEntered}
use Rattle.yv_expand_rounds.specs.Rounds.{round, rounds}
use Rattle.yv_expand_rounds.specs.Turns.{State, is_applied, is_some, resolve, settle, target, turn}
use Rattle.yv_expand_uses.specs.Ends.{end_at}
use Rattle.yv_expand_uses.specs.AugmentOrder.{augments_giving, is_giving}
use Rattle.yv_expand_augments.specs.Augmentation.{copy_turn, last_of, placement, placed_from, turns, turns_from}
use Rattle.yv_expand_uses.specs.Paths.{module_paths, path_in}
use Rattle.yv_expand_uses.specs.InnerLayout.{AreLaid}
use Rattle.yv_expand_statements.specs.Kinds.{is_uses}
use Rattle.yv_expand_uses.specs.Spots.{LayoutView, Whole, copies_of, labels_of, layout_of, laid_from, one_more, spot_of}
use Rattle.yv_expand_augments.specs.MissingTargets.{after_turns, had_turns, next_number}
use Rattle.yv_expand_uses.specs.AugmentOrder.{augments_in}
use Rattle.yv_expand_uses.specs.declared.spot.Spot.{Spot}
use Rattle.yv_expand_uses.proofs.Bounds.{laid_whole}
use Rattle.yv_expand_augments.proofs.ItemEntry.{placed_entered, turns_entered}
use Rattle.yv_expand_augments.proofs.AugmentTurns.{giving_filtered, number_within}
use Rattle.yv_expand_tree.proofs.NodePositions.{in_first, in_second}
use Rattle.yv_expand_laws.specs.CopyEnds.{CopiesEnd}
use Rattle.yv_expand_laws.proofs.FoundItems.{not_none}
use Rattle.yv_expand_laws.proofs.LaidBlocks.{last_at, still_at}
use Rattle.yv_expand_laws.proofs.LabelsAndPaths.{laid_grows}

abbrev pub Many : Type 0
Many = (labels : List Label) (augments first : ℕ) (st : State) → HaveEntered labels augments first st → length st.ends ≡ augments

-- the spot that is laid next
laid_next : (w : Whole) (x : Item) (xs : List Item) (l : LayoutView) (n : ℕ) (s : Spot) → length l.spots ≡ n → slice_get (laid_from w (x ∷ xs) l).spots n ≡ Some s → spot_of w l.spots l.copies x ≡ s
laid_next w x xs l n s long at =
    let t : Spot = spot_of w l.spots l.copies x in
    let r = laid_grows w xs (one_more w x l) in
    let more = length-append l.spots (t ∷ []) in
    same_Some t s (sym (last_at l.spots t n long) ∙ (sym (still_at (l.spots ++ t ∷ []) r.0 n (omega (arith, more, long))) ∙ (ap (λ z. slice_get z n) (sym r.1) ∙ at)))

-- the copies of what is laid later come later
first_past : (w : Whole) (xs : List Item) (l : LayoutView) (n j : ℕ) (t : Spot) → length l.spots ≡ n → n ≤ j → slice_get (laid_from w xs l).spots j ≡ Some t → l.copies ≤ t.first
first_past w [] l n j t long past at = absurd (let few = slice_get_within l.spots j t at in omega (arith, few, long, past))
first_past w (x ∷ xs) l n j t long past at = elim (cases_eq j n) [
  | inl same ↦ (let s = laid_next w x xs l n t long (ap (slice_get (laid_from w (x ∷ xs) l).spots) (sym same) ∙ at) in
      let e : l.copies ≡ t.first = ap (λ (z : Spot). z.first) s in omega (arith, e))
  | inr other ↦ (let more = length-append l.spots (spot_of w l.spots l.copies x ∷ []) in
      let h = first_past w xs (one_more w x l) (n + 1) j t (omega (arith, more, long)) (omega (arith, past, other)) at in omega (arith, h))
]

firsts_rise : (w : Whole) (xs : List Item) (l : LayoutView) (n i j : ℕ) (s t : Spot) → length l.spots ≡ n → n ≤ i → i < j → slice_get (laid_from w xs l).spots i ≡ Some s
    → slice_get (laid_from w xs l).spots j ≡ Some t → s.first + copies_of w.rows s ≤ t.first
firsts_rise w [] l n i j s t long past less at to = absurd (let few = slice_get_within l.spots i s at in omega (arith, few, long, past))
firsts_rise w (x ∷ xs) l n i j s t long past less at to = elim (cases_eq i n) [
  | inl same ↦
      let is = laid_next w x xs l n s long (ap (slice_get (laid_from w (x ∷ xs) l).spots) (sym same) ∙ at) in
      let more = length-append l.spots (spot_of w l.spots l.copies x ∷ []) in
      let h = first_past w xs (one_more w x l) (n + 1) j t (omega (arith, more, long)) (omega (arith, less, same)) to in
      let e : l.copies + copies_of w.rows (spot_of w l.spots l.copies x) ≡ s.first + copies_of w.rows s = ap (λ (z : Spot). z.first + copies_of w.rows z) is in
      omega (arith, h, e)
  | inr other ↦
      let more = length-append l.spots (spot_of w l.spots l.copies x ∷ []) in
      firsts_rise w xs (one_more w x l) (n + 1) i j s t (omega (arith, more, long)) (omega (arith, past, other)) less at to
]

pub rises : (w : Whole) (items : List Item) (i j : ℕ) (s t : Spot) → i < j → slice_get (layout_of w items).spots i ≡ Some s → slice_get (layout_of w items).spots j ≡ Some t → s.first + copies_of w.rows s ≤ t.first
unfolding layout_of
rises w items i j s t less at to = firsts_rise w items (record { spots = []; copies = length w.augments }) 0 i j s t refl (omega arith) less at to

pub past_modules : (w : Whole) (items : List Item) (i : ℕ) (s : Spot) → slice_get (layout_of w items).spots i ≡ Some s → length w.augments ≤ s.first
unfolding layout_of
past_modules w items i s at = first_past w items (record { spots = []; copies = length w.augments }) 0 i s refl (omega arith) at

-- what stands before a place of a list, and behind it
pub split_at : (xs : List Spot) (i : ℕ) (x : Spot) → slice_get xs i ≡ Some x → (front : List Spot) × (xs ≡ front ++ x ∷ drop (i + 1) xs) × (length front ≡ i)
split_at [] i x at = absurd (not_none at)
split_at (y ∷ xs) zero x at = ([], ap (λ (z : Spot). z ∷ xs) (same_Some y x at), refl)
split_at (y ∷ xs) (suc i) x at =
    let r = split_at xs i x at in
    let same : drop (suc i + 1) (y ∷ xs) ≡ drop (i + 1) xs = ap (λ (m : ℕ). drop m (y ∷ xs)) (let e : suc i + 1 ≡ suc (i + 1) = omega arith in e) in
    (y ∷ r.0, ap (λ (l : List Spot). y ∷ l) (r.1 ∙ ap (λ (l : List Spot). r.0 ++ x ∷ l) (sym same)), (let e = r.2 in omega (arith, e)))

-- those that pass before one that passes, and behind it
pub filter_split : (p : ℕ → Bool) (xs : List ℕ) (k a : ℕ) → slice_get xs k ≡ Some a → p a ≡ true → (others : List ℕ) × (filter p xs ≡ filter p (take k xs) ++ a ∷ others)
filter_split p [] k a at is = absurd (not_none at)
filter_split p (x ∷ xs) zero a at is =
    let same : x ≡ a = same_Some x a at in
    (filter p xs, ap (λ (b : Bool). cond b (x ∷ filter p xs) (filter p xs)) (ap p same ∙ is) ∙ ap (λ (n : ℕ). n ∷ filter p xs) same)
filter_split p (x ∷ xs) (suc k) a at is = (let r = filter_split p xs k a at is in (r.0, by (p x) r.0 r.1))
  where
    by : (b : Bool) (others : List ℕ) → filter p xs ≡ filter p (take k xs) ++ a ∷ others
        → cond b (x ∷ filter p xs) (filter p xs) ≡ cond b (x ∷ filter p (take k xs)) (filter p (take k xs)) ++ a ∷ others
    by true others e = ap (λ (l : List ℕ). x ∷ l) e
    by false others e = e

module _ (labels : List Label) (number : ℕ) where
  abbrev EndIs : Option End → State → Type 0
  EndIs o st = get_or st.ends number None ≡ o

  settled_keeps : (o : Option End) (k : ℕ) (e : Option End) (st : State) (b : Bool) → number ≢ k → EndIs o st → EndIs o (if b then st else settle labels k e st)
  settled_keeps o k e st true apart h = h
  settled_keeps o k None st false apart h = h
  settled_keeps o k (Some e) st false apart h = get_or-set_other st.ends k number (Some e) None apart ∙ h

  turn_keeps : (o : Option End) (k start limit : ℕ) (names : List ℕ) (st : State) → number ≢ k → EndIs o st → EndIs o (turn labels k start limit names st)
  turn_keeps o k start limit names st apart h = settled_keeps o k (path_end labels st.groups limit names (end.Start start)) st (is_applied st k) apart h

  -- its turn comes to where its path leads
  turn_ends : (e : Option End) (st : State) → number < length st.ends → EndIs None st → EndIs e (resolve labels number e st)
  turn_ends e st few none = ap (λ (b : Bool). get_or (if b then st else settle labels number e st).ends number None) (ap is_some none) ∙ by e
    where
      by : (o : Option End) → get_or (settle labels number o st).ends number None ≡ o
      by None = none
      by (Some x) = get_or-set_same st.ends number (Some x) None few

  round_keeps : (o : Option End) (k : ℕ) (paths : List (List ℕ)) (st : State) → k + length paths ≤ number → EndIs o st → EndIs o (round labels k paths st)
  round_keeps o k [] st le h = h
  round_keeps o k (names ∷ others) st le h =
      round_keeps o (k + 1) others (turn labels k 0 (length labels) names st) (omega (arith, le)) (turn_keeps o k 0 (length labels) names st (λ e. omega (arith, e, le)) h)

  rounds_keep : (o : Option End) (paths : List (List ℕ)) (n : ℕ) (st : State) → length paths ≤ number → EndIs o st → EndIs o (rounds labels 0 paths n st)
  rounds_keep o paths zero st le h = h
  rounds_keep o paths (suc n) st le h = rounds_keep o paths n (round labels 0 paths st) le (round_keeps o 0 paths st (omega (arith, le)) h)

  module _ (w : Whole) (copies : ℕ) where
    -- so many copies from this one on are others
    abbrev Apart : (k many : ℕ) → Type 0
    Apart k many = (number < k) ⊎ (k + many ≤ number)

    pub turns_keep : (o : Option End) (s : Spot) (k : ℕ) (augments : List ℕ) (st : State) → Apart k (length augments) → EndIs o st → EndIs o (turns_from w labels s k augments st)
    turns_keep o s k [] st apart h = h
    turns_keep o s k (a ∷ others) st apart h =
        turns_keep o s (k + 1) others (copy_turn w labels s k a st) (elim apart [ inl l ↦ inl (omega (arith, l)) | inr l ↦ inr (omega (arith, l)) ])
        (turn_keeps o k s.group (last_of (members_of st.groups (group_of_augment labels k))) (path_in w s.module_file a) st (elim apart [ inl l ↦ (λ e. omega (arith, e, l)) | inr l ↦ (λ e. omega (arith, e, l)) ]) h)

    pub spot_keeps : (o : Option End) (s : Spot) (st : State) → Apart s.first (copies_of w.rows s) → EndIs o st → EndIs o (turns w labels s st)
    spot_keeps o s st apart h = by (is_uses s.label.kind) refl
      where
        by : (b : Bool) → is_uses s.label.kind ≡ b → EndIs o (if b then turns_from w labels s s.first (augments_giving w.rows s.statement) st else st)
        by true same =
            let c : copies_of w.rows s ≡ length (augments_giving w.rows s.statement) = ap (λ (b : Bool). if b then length (augments_giving w.rows s.statement) else 0) same in
            turns_keep o s s.first (augments_giving w.rows s.statement) st (subst (λ (n : ℕ). Apart s.first n) c apart) h
        by false same = h

    pub placed_keeps : (o : Option End) (i n : ℕ) (front rest : List Spot) → ((j : ℕ) (t : Spot) → slice_get front j ≡ Some t → Apart t.first (copies_of w.rows t)) → n ≡ i + length front
        → EndIs o (placed_from w labels copies n rest) → EndIs o (placed_from w labels copies i (front ++ rest))
    placed_keeps o i n [] rest apart is h = subst (λ (m : ℕ). EndIs o (placed_from w labels copies m rest)) (let e : n ≡ i = omega (arith, is) in e) h
    placed_keeps o i n (t ∷ front) rest apart is h =
        spot_keeps o t (placed_from w labels copies (i + 1) (front ++ rest)) (apart 0 t refl) (placed_keeps o (i + 1) n front rest (λ j u at. apart (suc j) u at) (omega (arith, is)) h)

    pub turns_append : (s : Spot) (k : ℕ) (xs ys : List ℕ) (st : State) → turns_from w labels s k (xs ++ ys) st ≡ turns_from w labels s (k + length xs) ys (turns_from w labels s k xs st)
    turns_append s k [] ys st = ap (λ (m : ℕ). turns_from w labels s m ys st) (let e : k ≡ k + 0 = omega arith in e)
    turns_append s k (x ∷ xs) ys st =
        turns_append s (k + 1) xs ys (copy_turn w labels s k x st)
        ∙ ap (λ (m : ℕ). turns_from w labels s m ys (turns_from w labels s (k + 1) xs (copy_turn w labels s k x st))) (let e : k + 1 + length xs ≡ k + length (x ∷ xs) = omega arith in e)

pub copies_end : Many → CopiesEnd
copies_end many w items st i place a s long grafted at uses_is at_a gives =
    let l : LayoutView = layout_of w items in
    let spots : List Spot = l.spots in
    let labels : List Label = labels_of spots in
    let are : AreLaid w l = laid_whole w items (sym long) in
    let number : ℕ = next_number w.rows s place in
    let (front, split, before) = split_at spots i s at in
    let rest : List Spot = drop (i + 1) spots in
    let b : State = placed_from w labels l.copies (i + 1) rest in
    let had : List ℕ = had_turns w.rows s place in
    let turned : State = after_turns w labels s place b in
    let path : List ℕ = path_in w s.module_file a in
    let limit : ℕ = last_of (members_of turned.groups (group_of_augment labels number)) in
    let e : Option End = path_end labels turned.groups limit path (end.Start s.group) in
    let count : length labels ≡ length spots = length-map spots (λ z. z.label) in
    let size = are.long in
    let whole : w.items ≡ length labels = omega (arith, size, count) in
    let all = ap length split ∙ length-append front (s ∷ rest) in
    let rest_at : (j : ℕ) (t : Spot) → slice_get rest j ≡ Some t → slice_get spots (i + 1 + j) ≡ Some t =
    λ j t h. ap (λ (z : List Spot). slice_get z (i + 1 + j)) split ∙ in_second front (s ∷ rest) (i + 1 + j) (suc j) t (omega (arith, before)) h in
    let front_at : (j : ℕ) (t : Spot) → slice_get front j ≡ Some t → slice_get spots j ≡ Some t =
    λ j t h. ap (λ (z : List Spot). slice_get z j) split ∙ in_first front (s ∷ rest) j t h in
    let own : copies_of w.rows s ≡ length (augments_giving w.rows s.statement) = ap (λ (c : Bool). if c then length (augments_giving w.rows s.statement) else 0) uses_is in
    let within : number < s.first + length (augments_giving w.rows s.statement) = number_within w.rows s place a at_a gives in
    let fit = (are.all i s at).copies in
    let few : number < l.copies = omega (arith, within, own, fit) in
    let first : get_or b.ends number None ≡ None =
    subst (λ (z : List Spot). get_or (placed_from w labels l.copies (i + 1) z).ends number None ≡ None) (append-nil rest)
    (placed_keeps labels number w l.copies None (i + 1) (i + 1 + length rest) rest []
    (λ j t h. inl (let r = rises w items i (i + 1 + j) s t (omega arith) at (rest_at j t h) in omega (arith, r, own, within))) refl (get_or-replicate l.copies number None None few)) in
    let waits : get_or turned.ends number None ≡ None = turns_keep labels number w l.copies None s s.first had b (inr (omega arith)) first in
    let entered_b : HaveEntered labels l.copies (i + 1) b =
    placed_entered w labels l.copies (i + 1) rest whole (omega (arith, all, before, count)) (λ j t h. are.all (i + 1 + j) t (rest_at j t h)) in
    let entered_turned : HaveEntered labels l.copies (i + 1) turned = turns_entered w labels l.copies s (i + 1) s.first had b (omega (arith, few)) entered_b in
    let ends = many labels l.copies (i + 1) turned entered_turned in
    let here : get_or (copy_turn w labels s number a turned).ends number None ≡ e = turn_ends labels number e turned (omega (arith, ends, few)) waits in
    let (others, parts) = filter_split (is_giving w.rows s.statement) (augments_in w.rows s.statement) place a at_a gives in
    let after : get_or (turns_from w labels s (number + 1) others (copy_turn w labels s number a turned)).ends number None ≡ e =
    turns_keep labels number w l.copies e s (number + 1) others (copy_turn w labels s number a turned) (inl (omega arith)) here in
    let same : turns w labels s b ≡ turns_from w labels s (number + 1) others (copy_turn w labels s number a turned) =
    ap (λ (c : Bool). if c then turns_from w labels s s.first (augments_giving w.rows s.statement) b else b) uses_is
    ∙ (ap (λ (z : List ℕ). turns_from w labels s s.first z b) (giving_filtered w.rows s.statement ∙ parts)
    ∙ turns_append labels number w l.copies s s.first had (a ∷ others) b) in
    let laid_here : get_or (placed_from w labels l.copies i (s ∷ rest)).ends number None ≡ e = ap (λ (z : State). get_or z.ends number None) same ∙ after in
    let start : get_or (placement w l).ends number None ≡ e =
    subst (λ (z : List Spot). get_or (placed_from w labels l.copies 0 z).ends number None ≡ e) (sym split)
    (placed_keeps labels number w l.copies e 0 i front (s ∷ rest)
    (λ j t h. inr (let f = slice_get_within front j t h in let r = rises w items j i t s (omega (arith, f, before)) (front_at j t h) at in omega (arith, r))) (omega (arith, before)) laid_here) in
    let modules = past_modules w items i s at in
    let paths : length (module_paths w) ≡ length w.augments = length-map w.augments _ in
    let last : get_or st.ends number None ≡ e =
    subst (λ (z : State). get_or z.ends number None ≡ e) (sym grafted.applied.is)
    (rounds_keep labels number e (module_paths w) grafted.applied.count (placement w l) (omega (arith, paths, modules)) start) in
    ap (option_and_then (target labels)) last
    ∙ sym (ap (λ (c : Bool). option_and_then (target labels) (path_end labels turned.groups (if c then limit else end_at items i) path (end.Start s.group))) gives)
