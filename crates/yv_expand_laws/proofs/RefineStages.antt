-- Which refines change which items, when all items from a number on have entered.
use Rattle.std.proofs.Common.{inl, inr, ◌≡◌, ℕ, ◌+◌, ◌<◌, ◌≤◌, ◌==◌, ◌&&◌, nat_lt, cond, Bool, true, false, if◌then◌else◌, List, [], ◌∷◌, ◌++◌, length, map, filter, append_assoc, refl, sym, ◌∙◌, ap, subst, arith, eqb-true, Option, Some, None}
use Rattle.std.specs.List.{Contains}
use Rattle.std.specs.Option.{option_and_then}
use Rattle.std.proofs.lemmas.Bool.{cases_lt, false≢true, lt-ltb, ltb-true}
use Rattle.std.proofs.lemmas.Option.{same_Some}
use Rattle.std.proofs.lemmas.List.{append-nil}
use Rattle.yv_link_scopes.specs.Files.{Files}
use Rattle.yv_expand_rounds.specs.declared.end.End.{End}
use Rattle.yv_expand_rounds.specs.declared.end.End.TheVariants as end_is
use Rattle.yv_expand_rounds.specs.declared.label.Label.{Label}
use Rattle.yv_expand_rounds.specs.Paths.{path_end}
use Rattle.yv_expand_rounds.specs.Turns.{State}
use Rattle.yv_expand_uses.specs.AugmentOrder.{augments_giving}
use Rattle.yv_expand_uses.specs.Paths.{path_in}
use Rattle.yv_expand_augments.specs.Augmentation.{placed_from, turns, turns_from}
use Rattle.yv_expand_statements.specs.Kinds.{is_uses}
use Rattle.yv_expand_uses.specs.RefineTargets.{node_meant, node_at, refined_at, refines_in}
use Rattle.yv_expand_augments.specs.RefineMeanings.{refined_from}
use Rattle.yv_expand_uses.specs.Spots.{Whole}
use Rattle.yv_expand_uses.specs.declared.spot.Spot.{Spot}
use Rattle.yv_expand_changes.specs.Changes.{changes, is_change, is_fit_at_item, is_meant}
use Rattle.yv_expand_refines.specs.Targets.{RefineMeaning}
use Rattle.yv_expand_laws.specs.Comes.{HasMarks}
use Rattle.yv_expand_laws.specs.Frames.{StandFrom}
use Rattle.yv_expand_laws.specs.Shows.{AreLabels, Items}
use Rattle.yv_expand_laws.proofs.Alike.{AreAlike}
use Rattle.yv_expand_laws.proofs.FoundItems.{end_within, not_none}
use Rattle.yv_expand_laws.proofs.FrameSequences.{nothing_stands}
use Rattle.yv_expand_laws.proofs.GroupMarks.{entered_marks, turn_marks}
use Rattle.yv_expand_laws.proofs.ExpansionStart.{none_there}

-- each item that one of these means is so
abbrev pub Targets : (ℕ → Type 0) → List RefineMeaning → Type 0
Targets P [] = Unit {0}
Targets P (x ∷ xs) = ((i : ℕ) → x.target ≡ Some i → P i) × Targets P xs

pub targets_then : (P : ℕ → Type 0) (xs ys : List RefineMeaning) → Targets P xs → Targets P ys → Targets P (xs ++ ys)
targets_then P [] ys a b = b
targets_then P (x ∷ xs) ys (first, a) b = (first, targets_then P xs ys a b)

pub targets_wider : (P Q : ℕ → Type 0) (xs : List RefineMeaning) → ((i : ℕ) → P i → Q i) → Targets P xs → Targets Q xs
targets_wider P Q [] wide a = tt
targets_wider P Q (x ∷ xs) wide (first, a) = (λ i is. wide i (first i is), targets_wider P Q xs wide a)

module _ (files : Files) (spots : List Spot) where
  pub changes_first : (i : ℕ) (x : RefineMeaning) (xs : List RefineMeaning) (b : Bool) → is_change files spots i x ≡ b
      → changes files spots (x ∷ xs) i ≡ cond b (x.refine ∷ changes files spots xs i) (changes files spots xs i)
  changes_first i x xs true is = ap (λ (b : Bool). map (λ (y : RefineMeaning). y.refine) (cond b (x ∷ filter (is_change files spots i) xs) (filter (is_change files spots i) xs))) is
  changes_first i x xs false is = ap (λ (b : Bool). map (λ (y : RefineMeaning). y.refine) (cond b (x ∷ filter (is_change files spots i) xs) (filter (is_change files spots i) xs))) is

  pub changes_then : (i : ℕ) (xs ys : List RefineMeaning) → changes files spots (xs ++ ys) i ≡ changes files spots xs i ++ changes files spots ys i
  changes_then i [] ys = refl
  changes_then i (x ∷ xs) ys = by (is_change files spots i x) refl (changes_then i xs ys)
    where
      by : (b : Bool) → is_change files spots i x ≡ b → changes files spots (xs ++ ys) i ≡ changes files spots xs i ++ changes files spots ys i
          → changes files spots (x ∷ (xs ++ ys)) i ≡ changes files spots (x ∷ xs) i ++ changes files spots ys i
      by true is later = changes_first i x (xs ++ ys) true is ∙ (ap (λ l. x.refine ∷ l) later ∙ ap (λ l. l ++ changes files spots ys i) (sym (changes_first i x xs true is)))
      by false is later = changes_first i x (xs ++ ys) false is ∙ (later ∙ ap (λ l. l ++ changes files spots ys i) (sym (changes_first i x xs false is)))

  -- what means other items changes this one not
  pub changes_away : (P : ℕ → Type 0) (i : ℕ) (xs : List RefineMeaning) → Targets P xs → (P i → ⊥) → changes files spots xs i ≡ []
  changes_away P i [] all other = refl
  changes_away P i (x ∷ xs) (first, all) other = changes_first i x xs false (no_change x.target refl) ∙ changes_away P i xs all other
    where
      not_meant : (o : Option ℕ) → x.target ≡ o → is_meant i o ≡ false
      not_meant None is = refl
      not_meant (Some j) is = by (j == i) refl
        where
          by : (b : Bool) → (j == i) ≡ b → (j == i) ≡ false
          by false e = e
          by true e = absurd (other (first i (is ∙ ap (λ (n : ℕ). Some n) (eqb-true j i e))))

      no_change : (o : Option ℕ) → x.target ≡ o → is_change files spots i x ≡ false
      no_change o is = ap (λ (b : Bool). b && is_fit_at_item files spots x.refine i) (ap (is_meant i) is ∙ not_meant o is)

  -- what is told of items, with these changes
  abbrev pub noted : Items → List RefineMeaning → Items
  noted its refined = record its { node_of = λ i. record (its.node_of i) { refines = changes files spots refined i } }

  pub noted_alike : (its : Items) (xs ys : List RefineMeaning) → AreAlike (noted its xs) (noted its ys)
  noted_alike its xs ys = record { given = refl; node = λ i. refl; like = λ i. record { module_file = refl; kind = refl; name = refl } }

  pub noted_labels : (labels : List Label) (its : Items) (xs : List RefineMeaning) → AreLabels labels its → AreLabels labels (noted its xs)
  noted_labels labels its xs are = record { given = are.given; node = are.node; within = λ i is. are.within i is }

module _ (w : Whole) (labels : List Label) (copies : ℕ) (end : ℕ → ℕ) where
  no_less : (n i : ℕ) → nat_lt i n ≡ false → n ≤ i
  no_less n i is = elim (cases_lt i n) [ inl l ↦ absurd (false≢true (sym is ∙ lt-ltb i n l)) | inr l ↦ l ]

  less_no : (n i : ℕ) → n ≤ i → nat_lt i n ≡ false
  less_no n i l = by (nat_lt i n) refl
    where
      by : (b : Bool) → nat_lt i n ≡ b → nat_lt i n ≡ false
      by false is = is
      by true is = absurd (let less : i < n = ltb-true i n is in omega (arith, less, l))

  abbrev From : ℕ → State → Type 0
  From n st = HasMarks (λ i. nat_lt i n) (λ x. false) st

  turns_from_stand : (n : ℕ) (s : Spot) (number : ℕ) (augments : List ℕ) (st : State) → From n st → From n (turns_from w labels s number augments st)
  turns_from_stand n s number [] st has = has
  turns_from_stand n s number (a ∷ others) st has =
      turns_from_stand n s (number + 1) others _ (turn_marks (λ i. nat_lt i n) (λ x. false) labels (λ x l. refl) number s.group _ (path_in w s.module_file a) st refl has)

  turns_stand : (n : ℕ) (s : Spot) (st : State) → From n st → From n (turns w labels s st)
  turns_stand n s st has = by (is_uses s.label.kind)
    where
      by : (b : Bool) → From n (if b then turns_from w labels s s.first (augments_giving w.rows s.statement) st else st)
      by true = turns_from_stand n s s.first (augments_giving w.rows s.statement) st has
      by false = has

  from_down : (n : ℕ) (st : State) → From (n + 1) st → From n st
  from_down n st has x i h = less_no n i (let l = no_less (n + 1) i (has x i h) in omega (arith, l))

  placed_stand : (n : ℕ) (spots : List Spot) → From n (placed_from w labels copies n spots)
  placed_stand n [] = λ x i h. absurd (nothing_stands i (subst (λ l. Contains l i) (none_there (length labels) copies x) h))
  placed_stand n (s ∷ others) =
      entered_marks (λ i. nat_lt i n) (λ x. false) labels (λ x l. refl) s.group n (turns w labels s (placed_from w labels copies (n + 1) others)) (less_no n n (omega arith))
      (turns_stand n s (placed_from w labels copies (n + 1) others) (from_down n (placed_from w labels copies (n + 1) others) (placed_stand (n + 1) others)))

  -- what has entered are the items from a number on
  pub placed_stand_from : (n : ℕ) (spots : List Spot) → StandFrom n (placed_from w labels copies n spots)
  placed_stand_from n spots x i h = no_less n i (placed_stand n spots x i h)

  meant_within : (n e k : ℕ) (s : Spot) (st : State) → StandFrom n st → (i : ℕ) → node_meant w labels s e k st ≡ Some i → (n ≤ i) × (i < e)
  meant_within n e k s st from i is = by (path_end labels st.groups e (path_in w s.module_file k) (end_is.Start s.group)) refl is
    where
      by : (o : Option End) → path_end labels st.groups e (path_in w s.module_file k) (end_is.Start s.group) ≡ o → option_and_then node_at o ≡ Some i → (n ≤ i) × (i < e)
      by None at h = absurd (not_none h)
      by (Some (end_is.Start g)) at h = absurd (not_none h)
      by (Some (end_is.ShorthandCase j)) at h = absurd (not_none h)
      by (Some (end_is.Node j)) at h =
          let in' = end_within labels st.groups n e from (path_in w s.module_file k) (end_is.Start s.group) (end_is.Node j) tt at in
          subst (λ (m : ℕ). (n ≤ m) × (m < e)) (same_Some j i h) in'

  at_within : (n e : ℕ) (s : Spot) (st : State) → StandFrom (n + 1) st → Targets (λ i. (n + 1 ≤ i) × (i < e)) (refined_at w labels s n e st)
  at_within n e s st from = by (is_uses s.label.kind)
    where
      all : (ks : List ℕ) → Targets (λ i. (n + 1 ≤ i) × (i < e)) (map (λ k. record { item = n; refine = k; target = node_meant w labels s e k st }) ks)
      all [] = tt
      all (k ∷ ks) = (λ i is. meant_within (n + 1) e k s st from i is, all ks)

      by : (b : Bool) → Targets (λ i. (n + 1 ≤ i) × (i < e)) (if b then map (λ k. record { item = n; refine = k; target = node_meant w labels s e k st }) (refines_in w.rows s.statement) else [])
      by true = all (refines_in w.rows s.statement)
      by false = tt

  -- refines mean later items
  pub all_above : (n : ℕ) (spots : List Spot) → Targets (λ i. n + 1 ≤ i) (refined_from w labels copies end n spots)
  all_above n [] = tt
  all_above n (s ∷ others) =
      targets_then (λ i. n + 1 ≤ i) (refined_from w labels copies end (n + 1) others) (refined_at w labels s n (end n) (placed_from w labels copies (n + 1) others))
      (targets_wider (λ i. n + 1 + 1 ≤ i) (λ i. n + 1 ≤ i) (refined_from w labels copies end (n + 1) others) (λ i l. omega (arith, l)) (all_above (n + 1) others))
      (targets_wider (λ i. (n + 1 ≤ i) × (i < end n)) (λ i. n + 1 ≤ i) (refined_at w labels s n (end n) (placed_from w labels copies (n + 1) others)) (λ i l. l.0)
      (at_within n (end n) s (placed_from w labels copies (n + 1) others) (placed_stand_from (n + 1) others)))

  -- the refines of the first of these
  abbrev pub part : (n : ℕ) → (new rest : List Spot) → List RefineMeaning
  part n [] rest = []
  part n (s ∷ new) rest = part (n + 1) new rest ++ refined_at w labels s n (end n) (placed_from w labels copies (n + 1) (new ++ rest))

  pub refined_parts : (n mid : ℕ) (new rest : List Spot) → n + length new ≡ mid → refined_from w labels copies end n (new ++ rest) ≡ refined_from w labels copies end mid rest ++ part n new rest
  refined_parts n mid [] rest long =
      ap (λ (m : ℕ). refined_from w labels copies end m rest) (let e : n ≡ mid = omega (arith, long) in e) ∙ sym (append-nil (refined_from w labels copies end mid rest))
  refined_parts n mid (s ∷ new) rest long =
      ap (λ l. l ++ refined_at w labels s n (end n) (placed_from w labels copies (n + 1) (new ++ rest))) (refined_parts (n + 1) mid new rest (omega (arith, long)))
      ∙ append_assoc (refined_from w labels copies end mid rest) (part (n + 1) new rest) (refined_at w labels s n (end n) (placed_from w labels copies (n + 1) (new ++ rest)))

  -- they mean items among those of these
  pub part_within : (n hi : ℕ) (new rest : List Spot) → ((j : ℕ) → n ≤ j → j < n + length new → end j ≤ hi) → Targets (λ i. (n + 1 ≤ i) × (i < hi)) (part n new rest)
  part_within n hi [] rest ends = tt
  part_within n hi (s ∷ new) rest ends =
      targets_then (λ i. (n + 1 ≤ i) × (i < hi)) (part (n + 1) new rest) (refined_at w labels s n (end n) (placed_from w labels copies (n + 1) (new ++ rest)))
      (targets_wider (λ i. (n + 1 + 1 ≤ i) × (i < hi)) (λ i. (n + 1 ≤ i) × (i < hi)) (part (n + 1) new rest) (λ i l. (let a = l.0 in (omega (arith, a), l.1)))
      (part_within (n + 1) hi new rest (λ j a b. ends j (omega (arith, a)) (omega (arith, b)))))
      (targets_wider (λ i. (n + 1 ≤ i) × (i < end n)) (λ i. (n + 1 ≤ i) × (i < hi)) (refined_at w labels s n (end n) (placed_from w labels copies (n + 1) (new ++ rest)))
      (λ i l. (let b = l.1 in let e = ends n (omega arith) (omega arith) in (l.0, omega (arith, b, e))))
      (at_within n (end n) s (placed_from w labels copies (n + 1) (new ++ rest)) (placed_stand_from (n + 1) (new ++ rest))))
