-- In their turns augments of a uses reach the items that show the nodes to which their paths lead,
-- those too that give no item.
use Rattle.std.proofs.Common.{◌⊎◌, inl, inr, ◌≡◌, ◌≢◌, ℕ, zero, suc, ◌+◌, ◌<◌, ◌≤◌, cond, Bool, true, false, if◌then◌else◌, List, [], ◌∷◌, length, take, Option, Some, None, refl, sym, ◌∙◌, ap, subst, arith}
use Rattle.std.specs.List.{Contains, filter, slice_get}
use Rattle.std.proofs.lemmas.Bool.{false≢true}
use Rattle.std.proofs.lemmas.List.Elements.{Contains-append_cases}
use Rattle.std.proofs.lemmas.Option.{same_Some}
use Rattle.yv_expand_rounds.specs.declared.label.Label.{Label}
use Rattle.yv_expand_rounds.specs.Groups.{group_of_augment, members_of}
use Rattle.yv_expand_rounds.specs.Turns.{State, turn}
use Rattle.yv_expand_uses.specs.AugmentOrder.{is_giving}
use Rattle.yv_expand_augments.specs.Augmentation.{last_of, turns_from}
use Rattle.yv_expand_uses.specs.Paths.{path_in}
use Rattle.yv_expand_uses.specs.Spots.{Whole}
use Rattle.yv_expand_augments.specs.MissingTargets.{node_reached}
use Rattle.yv_expand_uses.specs.declared.spot.Spot.{Spot}
use Rattle.yv_expand_definition.specs.Gives.{takes_block}
use Rattle.yv_expand_definition.specs.Nodes.{Forest, Node, join}
use Rattle.yv_expand_definition.specs.Paths.{Step}
use Rattle.yv_expand_laws.specs.Blocks.{Augments, Block, augment, no_augments, enter_block, run_all}
use Rattle.yv_expand_laws.specs.Comes.{Adds, AllMarked, Comes, HasMarks, Hits, MarksBlock, Misses}
use Rattle.yv_expand_laws.specs.Comes.Adds.{adds as adds_one, misses as misses_one, none_left}
use Rattle.yv_expand_laws.specs.Frames.{Frame, IsOutside, MayEnter, StandFrom}
use Rattle.yv_expand_laws.specs.PathTargets.{reached_in}
use Rattle.yv_expand_laws.specs.Shows.{Agree, AreLabels, Items, Shows}
use Rattle.yv_expand_laws.specs.Under.{Keeps, KeepsAdded}
use Rattle.yv_expand_laws.proofs.Alike.{AreAlike, Same, agree_alike, comes_kept, same_two}
use Rattle.yv_expand_laws.proofs.FoundItems.{not_none, there_first, there_later}
use Rattle.yv_expand_laws.proofs.FrameSequences.{narrower, nothing_stands, still}
use Rattle.yv_expand_laws.proofs.BlockFrame.{AllKept, MayAll, all_go_up, all_keep, block_keeps, goes_up}
use Rattle.yv_expand_laws.proofs.GroupMarks.{all_marks, run_marks}
use Rattle.yv_expand_laws.proofs.PathTargets.{paths_reach}
use Rattle.yv_expand_laws.proofs.BlockNodes.{AreDue, CopiesShow, all_show, copies_on, first_or, g_not_below, g_not_copy, may_all, may_copies, one_turn, shows_stretched, still_due}
use Rattle.yv_expand_laws.proofs.Turns.{block_shows_all, turn_adds, turn_misses}

-- where a target doesn't take a block, the augment is one more of these
abbrev pub judged_list : (is_taken : Bool) → (augment : ℕ) → List ℕ → List ℕ
judged_list true a bad = bad
judged_list false a bad = a ∷ bad

module _ (w : Whole) (labels : List Label) (s : Spot) where
  abbrev path : ℕ → List ℕ
  path a = path_in w s.module_file a

  abbrev gives : ℕ → Bool
  gives a = is_giving w.rows s.statement a

  -- where the path of one leads in its turn
  abbrev limit_at : ℕ → State → ℕ
  limit_at k st = last_of (members_of st.groups (group_of_augment labels k))

  abbrev next : (k a : ℕ) → State → State
  next k a st = turn labels k s.group (limit_at k st) (path a) st

  abbrev reached_at : (limit a : ℕ) → State → Option ℕ
  reached_at limit a st = reached_in labels st.groups s.group limit (path a)

  -- in its turn one of these reaches this item, or none
  abbrev pub EndsFrom : (o : Option ℕ) → (end : ℕ) → (adding : List ℕ) → (k : ℕ) → State → (augment : ℕ) → Type 0
  EndsFrom o end adding k st a =
      (count : ℕ) × (slice_get adding count ≡ Some a)
      × (node_reached w labels s end (k + length (filter gives (take count adding))) a (turns_from w labels s k (filter gives (take count adding)) st) ≡ o)

  abbrev pub MissesFrom : (end : ℕ) → (adding : List ℕ) → (k : ℕ) → State → (augment : ℕ) → Type 0
  MissesFrom end adding k st a = EndsFrom None end adding k st a

  -- it reaches an item that shows a node which doesn't take its block
  abbrev pub BadFrom : Items → (end : ℕ) → (adding : List ℕ) → (k : ℕ) → State → (augment : ℕ) → Type 0
  BadFrom its end adding k st a = (i : ℕ) × EndsFrom (Some i) end adding k st a × (i < length labels) × (takes_block w.rows a (its.node_of i).kind ≡ false)

  module _ (o : Option ℕ) where
    abbrev EndsAfter : (end k a : ℕ) → State → List ℕ → Type 0
    EndsAfter end k a st before = node_reached w labels s end (k + length before) a (turns_from w labels s k before st) ≡ o

    quiet_list : (b : ℕ) (xs : List ℕ) → gives b ≡ false → filter gives (b ∷ xs) ≡ filter gives xs
    quiet_list b xs is = ap (λ (t : Bool). cond t (b ∷ filter gives xs) (filter gives xs)) is

    giving_list : (b : ℕ) (xs : List ℕ) → gives b ≡ true → filter gives (b ∷ xs) ≡ b ∷ filter gives xs
    giving_list b xs is = ap (λ (t : Bool). cond t (b ∷ filter gives xs) (filter gives xs)) is

    -- what is reached in a turn, with its limit
    quiet_is : (end k a : ℕ) (st : State) → gives a ≡ false → node_reached w labels s end (k + 0) a st ≡ reached_at end a st
    quiet_is end k a st is = ap (λ (b : Bool). reached_at (if b then limit_at (k + 0) st else end) a st) is

    giving_is : (end k a : ℕ) (st : State) → gives a ≡ true → node_reached w labels s end (k + 0) a st ≡ reached_at (limit_at k st) a st
    giving_is end k a st is =
        ap (λ (b : Bool). reached_at (if b then limit_at (k + 0) st else end) a st) is
        ∙ ap (λ (n : ℕ). reached_at (limit_at n st) a st) (let e : k + 0 ≡ k = omega arith in e)

    step_quiet : (end k b : ℕ) (others : List ℕ) (st : State) (a count : ℕ) → gives b ≡ false
        → (EndsAfter end k a st (filter gives (take count others)) → EndsAfter end k a st (filter gives (take (suc count) (b ∷ others))))
        × (EndsAfter end k a st (filter gives (take (suc count) (b ∷ others))) → EndsAfter end k a st (filter gives (take count others)))
    step_quiet end k b others st a count is =
        let same = quiet_list b (take count others) is in
        (λ h. subst (EndsAfter end k a st) (sym same) h, λ h. subst (EndsAfter end k a st) same h)

    step_giving : (end k b : ℕ) (others : List ℕ) (st : State) (a count : ℕ) → gives b ≡ true
        → (EndsAfter end (k + 1) a (next k b st) (filter gives (take count others)) → EndsAfter end k a st (filter gives (take (suc count) (b ∷ others))))
        × (EndsAfter end k a st (filter gives (take (suc count) (b ∷ others))) → EndsAfter end (k + 1) a (next k b st) (filter gives (take count others)))
    step_giving end k b others st a count is =
        let before : List ℕ = filter gives (take count others) in
        let same = giving_list b (take count others) is in
        let on : k + 1 + length before ≡ k + length (b ∷ before) = omega arith in
        let after : State = turns_from w labels s (k + 1) before (next k b st) in (
          (λ h. subst (EndsAfter end k a st) (sym same) (subst (λ (n : ℕ). node_reached w labels s end n a after ≡ o) on h)),
          (λ h. subst (λ (n : ℕ). node_reached w labels s end n a after ≡ o) (sym on) (subst (EndsAfter end k a st) same h)),
        )

    -- the first of these, or one behind it
    split_quiet : (end b : ℕ) (others : List ℕ) (k : ℕ) (st : State) (a : ℕ) → gives b ≡ false → EndsFrom o end (b ∷ others) k st a
        → ((b ≡ a) × (reached_at end b st ≡ o)) ⊎ EndsFrom o end others k st a
    split_quiet end b others k st a is (zero, at, ends) =
        let same : b ≡ a = same_Some b a at in inl (same, sym (quiet_is end k b st is) ∙ subst (λ (n : ℕ). node_reached w labels s end (k + 0) n st ≡ o) (sym same) ends)
    split_quiet end b others k st a is (suc count, at, ends) = inr (count, at, (step_quiet end k b others st a count is).1 ends)

    split_giving : (end b : ℕ) (others : List ℕ) (k : ℕ) (st : State) (a : ℕ) → gives b ≡ true → EndsFrom o end (b ∷ others) k st a
        → ((b ≡ a) × (reached_at (limit_at k st) b st ≡ o)) ⊎ EndsFrom o end others (k + 1) (next k b st) a
    split_giving end b others k st a is (zero, at, ends) =
        let same : b ≡ a = same_Some b a at in inl (same, sym (giving_is end k b st is) ∙ subst (λ (n : ℕ). node_reached w labels s end (k + 0) n st ≡ o) (sym same) ends)
    split_giving end b others k st a is (suc count, at, ends) = inr (count, at, (step_giving end k b others st a count is).1 ends)

    later_quiet : (end b : ℕ) (others : List ℕ) (k : ℕ) (st : State) (a : ℕ) → gives b ≡ false → EndsFrom o end others k st a → EndsFrom o end (b ∷ others) k st a
    later_quiet end b others k st a is (count, at, ends) = (suc count, at, (step_quiet end k b others st a count is).0 ends)

    later_giving : (end b : ℕ) (others : List ℕ) (k : ℕ) (st : State) (a : ℕ) → gives b ≡ true → EndsFrom o end others (k + 1) (next k b st) a → EndsFrom o end (b ∷ others) k st a
    later_giving end b others k st a is (count, at, ends) = (suc count, at, (step_giving end k b others st a count is).0 ends)

    -- the first of them
    first_quiet : (end b : ℕ) (others : List ℕ) (k : ℕ) (st : State) → gives b ≡ false → reached_at end b st ≡ o → EndsFrom o end (b ∷ others) k st b
    first_quiet end b others k st is ends = (0, refl, quiet_is end k b st is ∙ ends)

    first_giving : (end b : ℕ) (others : List ℕ) (k : ℕ) (st : State) → gives b ≡ true → reached_at (limit_at k st) b st ≡ o → EndsFrom o end (b ∷ others) k st b
    first_giving end b others k st is ends = (0, refl, giving_is end k b st is ∙ ends)

  module _ (its : Items) where
    -- the augments of a uses in order, of which those that give an item are these: what they add,
    -- which of them miss, and of which the target doesn't take the block
    pub data Goes : (adding : List ℕ) → (lo hi c e k own : ℕ) → Augments lo hi c e k own → (m last : Forest) → (missed bad : List ℕ) → Type 0 where
      all_went : {lo c k : ℕ} {m : Forest} → Goes [] _ _ _ _ _ _ (no_augments {lo = lo} {c = c} {k = k}) m m [] []
      hits_still : {a : ℕ} {others : List ℕ} {lo hi c e k own : ℕ} {augs : Augments lo hi c e k own} {m last below there : Forest} {target : Node} {missed bad : List ℕ} (ss : List Step)
          → gives a ≡ false → Agree labels its (path a) ss → Hits ss m target below below there → Goes others _ _ _ _ _ _ augs m last missed bad
          → Goes (a ∷ others) _ _ _ _ _ _ augs m last missed (judged_list (takes_block w.rows a target.kind) a bad)
      misses_still : {a : ℕ} {others : List ℕ} {lo hi c e k own : ℕ} {augs : Augments lo hi c e k own} {m last : Forest} {missed bad : List ℕ} (ss : List Step)
          → gives a ≡ false → Agree labels its (path a) ss → Misses ss m → Goes others _ _ _ _ _ _ augs m last missed bad
          → Goes (a ∷ others) _ _ _ _ _ _ augs m last (a ∷ missed) bad
      adds : {a : ℕ} {others : List ℕ} {lo hi c e k own mid d : ℕ} {block : Block lo mid c d} {augs : Augments mid hi d e (k + 1) own} {m b below there last : Forest} {target : Node}
          {missed bad : List ℕ} (ss : List Step) → gives a ≡ true → Agree labels its (path a) ss → lo < mid → Comes labels its _ _ _ _ block b → Hits ss m target below (join below b) there
          → Goes others _ _ _ _ _ _ augs there last missed bad
          → Goes (a ∷ others) _ _ _ _ _ _ (augment {lo = lo} {hi = hi} {c = c} {e = e} {k = k} {own = own} mid d (path a) block augs) m last missed (judged_list (takes_block w.rows a target.kind) a bad)
      misses : {a : ℕ} {others : List ℕ} {lo hi c e k own mid d : ℕ} {block : Block lo mid c d} {augs : Augments mid hi d e (k + 1) own} {m last : Forest}
          {missed bad : List ℕ} (ss : List Step) → gives a ≡ true → Agree labels its (path a) ss → lo < mid → Misses ss m → Goes others _ _ _ _ _ _ augs m last missed bad
          → Goes (a ∷ others) _ _ _ _ _ _ (augment {lo = lo} {hi = hi} {c = c} {e = e} {k = k} {own = own} mid d (path a) block augs) m last (a ∷ missed) bad

    abbrev pub adds_of : {adding : List ℕ} {lo hi c e k own : ℕ} {augs : Augments lo hi c e k own} {m last : Forest} {missed bad : List ℕ} → Goes adding lo hi c e k own augs m last missed bad
        → Adds labels its lo hi c e k own augs m last
    adds_of all_went = none_left
    adds_of (hits_still ss quiet agree hits later) = adds_of later
    adds_of (misses_still ss quiet agree missed later) = adds_of later
    adds_of (adds ss is agree l comes hits later) = adds_one ss agree l comes hits (adds_of later)
    adds_of (misses ss is agree l missed later) = misses_one ss agree l missed (adds_of later)

    -- those that hit reach an item in their turns, and the others none
    abbrev pub AllReached : (end : ℕ) → {adding : List ℕ} {lo hi c e k own : ℕ} {augs : Augments lo hi c e k own} {m last : Forest} {missed bad : List ℕ}
        → Goes adding lo hi c e k own augs m last missed bad → State → Type 0
    AllReached end all_went st = Unit {0}
    AllReached end (hits_still {a = a} {target = target} ss quiet agree hits later) st = ((i : ℕ) × (reached_at end a st ≡ Some i) × (target ≡ its.node_of i) × (i < length labels)) × AllReached end later st
    AllReached end (misses_still {a = a} ss quiet agree missed later) st = (reached_at end a st ≡ None) × AllReached end later st
    AllReached end (adds {a = a} {k = k} {target = target} ss is agree l comes hits later) st = ((i : ℕ) × (reached_at (limit_at k st) a st ≡ Some i) × (target ≡ its.node_of i) × (i < length labels)) × AllReached end later (next k a st)
    AllReached end (misses {a = a} {k = k} ss is agree l missed later) st = (reached_at (limit_at k st) a st ≡ None) × AllReached end later (next k a st)

    -- those that missed are those that reach none
    pub missed_reach : (end : ℕ) {adding : List ℕ} {lo hi c e k own : ℕ} {augs : Augments lo hi c e k own} {m last : Forest} {missed bad : List ℕ}
        (G : Goes adding lo hi c e k own augs m last missed bad) (st : State) → AllReached end G st → (a : ℕ)
        → (Contains missed a → MissesFrom end adding k st a) × (MissesFrom end adding k st a → Contains missed a)
    missed_reach end all_went st all a = (λ h. absurd (nothing_stands a h), λ (count, at, none). absurd (not_none at))
    missed_reach end {k = k} (hits_still {a = b} {others = others} ss quiet agree hits later) st (here, all) a =
        let r = missed_reach end later st all a in (
          (λ h. later_quiet None end b others k st a quiet (r.0 h)),
          (λ h. elim (split_quiet None end b others k st a quiet h) [ inl x ↦ absurd (not_none (sym x.1 ∙ here.1)) | inr more ↦ r.1 more ]),
        )
    missed_reach end {k = k} (misses_still {a = b} {others = others} {missed = rest} ss quiet agree missed later) st (here, all) a =
        let r = missed_reach end later st all a in (
          (λ h. elim (first_or b rest a h) [
            | inl same ↦ subst (λ (n : ℕ). MissesFrom end (b ∷ others) k st n) same (0, refl, quiet_is None end k b st quiet ∙ here)
            | inr more ↦ later_quiet None end b others k st a quiet (r.0 more)
          ]),
          (λ h. elim (split_quiet None end b others k st a quiet h) [
            | inl x ↦ subst (Contains (b ∷ rest)) x.0 (there_first b rest)
            | inr more ↦ there_later b a rest (r.1 more)
          ]),
        )
    missed_reach end {k = k} (adds {a = b} {others = others} ss is agree l comes hits later) st (here, all) a =
        let r = missed_reach end later (next k b st) all a in (
          (λ h. later_giving None end b others k st a is (r.0 h)),
          (λ h. elim (split_giving None end b others k st a is h) [ inl x ↦ absurd (not_none (sym x.1 ∙ here.1)) | inr more ↦ r.1 more ]),
        )
    missed_reach end {k = k} (misses {a = b} {others = others} {missed = rest} ss is agree l missed later) st (here, all) a =
        let r = missed_reach end later (next k b st) all a in (
          (λ h. elim (first_or b rest a h) [
            | inl same ↦ subst (λ (n : ℕ). MissesFrom end (b ∷ others) k st n) same (0, refl, giving_is None end k b st is ∙ here)
            | inr more ↦ later_giving None end b others k st a is (r.0 more)
          ]),
          (λ h. elim (split_giving None end b others k st a is h) [
            | inl x ↦ subst (Contains (b ∷ rest)) x.0 (there_first b rest)
            | inr more ↦ there_later b a rest (r.1 more)
          ]),
        )

    -- those whose targets don't take their blocks reach such items
    in_judged : (t : Bool) (b a : ℕ) (bad : List ℕ) → Contains bad a → Contains (judged_list t b bad) a
    in_judged true b a bad h = h
    in_judged false b a bad h = there_later b a bad h

    out_judged : (t : Bool) (b a : ℕ) (bad : List ℕ) → Contains (judged_list t b bad) a → ((t ≡ false) × (b ≡ a)) ⊎ Contains bad a
    out_judged true b a bad h = inr h
    out_judged false b a bad h = elim (first_or b bad a h) [ inl same ↦ inl (refl, same) | inr more ↦ inr more ]

    head_judged : (t : Bool) (b : ℕ) (bad : List ℕ) → t ≡ false → Contains (judged_list t b bad) b
    head_judged true b bad is = absurd (false≢true (sym is))
    head_judged false b bad is = there_first b bad

    same_item : (i j : ℕ) (o : Option ℕ) → o ≡ Some i → o ≡ Some j → i ≡ j
    same_item i j o p q = same_Some i j (sym p ∙ q)

    pub bad_reach : (end : ℕ) {adding : List ℕ} {lo hi c e k own : ℕ} {augs : Augments lo hi c e k own} {m last : Forest} {missed bad : List ℕ}
        (G : Goes adding lo hi c e k own augs m last missed bad) (st : State) → AllReached end G st → (a : ℕ)
        → (Contains bad a → BadFrom its end adding k st a) × (BadFrom its end adding k st a → Contains bad a)
    bad_reach end all_went st all a = (λ h. absurd (nothing_stands a h), λ (i, (count, at, ends), few, kind). absurd (not_none at))
    bad_reach end {k = k} (hits_still {a = b} {others = others} {target = target} {bad = rest} ss quiet agree hits later) st ((j, reaches, node, few), all) a =
        let r = bad_reach end later st all a in
        let t : Bool = takes_block w.rows b target.kind in
        let t_is : t ≡ takes_block w.rows b (its.node_of j).kind = ap (λ (g : Node). takes_block w.rows b g.kind) node in (
          (λ h. elim (out_judged t b a rest h) [
            | inl x ↦ subst (BadFrom its end (b ∷ others) k st) x.1 (j, first_quiet (Some j) end b others k st quiet reaches, few, sym t_is ∙ x.0)
            | inr more ↦ (let y = r.0 more in (y.0, later_quiet (Some y.0) end b others k st a quiet y.1, y.2, y.3))
          ]),
          (λ (i, ends, less, kind). elim (split_quiet (Some i) end b others k st a quiet ends) [
            | inl x ↦
                let same : i ≡ j = same_item i j (reached_at end b st) x.1 reaches in
                subst (Contains (judged_list t b rest)) x.0 (head_judged t b rest
                (t_is ∙ (ap (λ (n : ℕ). takes_block w.rows b (its.node_of n).kind) (sym same) ∙ (ap (λ (n : ℕ). takes_block w.rows n (its.node_of i).kind) x.0 ∙ kind))))
            | inr more ↦ in_judged t b a rest (r.1 (i, more, less, kind))
          ]),
        )
    bad_reach end {k = k} (misses_still {a = b} {others = others} ss quiet agree missed later) st (here, all) a =
        let r = bad_reach end later st all a in (
          (λ h. (let y = r.0 h in (y.0, later_quiet (Some y.0) end b others k st a quiet y.1, y.2, y.3))),
          (λ (i, ends, less, kind). elim (split_quiet (Some i) end b others k st a quiet ends) [ inl x ↦ absurd (not_none (sym here ∙ x.1)) | inr more ↦ r.1 (i, more, less, kind) ]),
        )
    bad_reach end {k = k} (adds {a = b} {others = others} {target = target} {bad = rest} ss is agree l comes hits later) st ((j, reaches, node, few), all) a =
        let r = bad_reach end later (next k b st) all a in
        let t : Bool = takes_block w.rows b target.kind in
        let t_is : t ≡ takes_block w.rows b (its.node_of j).kind = ap (λ (g : Node). takes_block w.rows b g.kind) node in (
          (λ h. elim (out_judged t b a rest h) [
            | inl x ↦ subst (BadFrom its end (b ∷ others) k st) x.1 (j, first_giving (Some j) end b others k st is reaches, few, sym t_is ∙ x.0)
            | inr more ↦ (let y = r.0 more in (y.0, later_giving (Some y.0) end b others k st a is y.1, y.2, y.3))
          ]),
          (λ (i, ends, less, kind). elim (split_giving (Some i) end b others k st a is ends) [
            | inl x ↦
                let same : i ≡ j = same_item i j (reached_at (limit_at k st) b st) x.1 reaches in
                subst (Contains (judged_list t b rest)) x.0 (head_judged t b rest
                (t_is ∙ (ap (λ (n : ℕ). takes_block w.rows b (its.node_of n).kind) (sym same) ∙ (ap (λ (n : ℕ). takes_block w.rows n (its.node_of i).kind) x.0 ∙ kind))))
            | inr more ↦ in_judged t b a rest (r.1 (i, more, less, kind))
          ]),
        )
    bad_reach end {k = k} (misses {a = b} {others = others} ss is agree l missed later) st (here, all) a =
        let r = bad_reach end later (next k b st) all a in (
          (λ h. (let y = r.0 h in (y.0, later_giving (Some y.0) end b others k st a is y.1, y.2, y.3))),
          (λ (i, ends, less, kind). elim (split_giving (Some i) end b others k st a is ends) [ inl x ↦ absurd (not_none (sym here ∙ x.1)) | inr more ↦ r.1 (i, more, less, kind) ]),
        )

    module _ (are : AreLabels labels its) (mark : ℕ → Bool) (low : (x : ℕ) → x ≤ length labels → mark x ≡ false) where
      -- in their turns they reach what their paths mean
      pub goes_reach : (lo hi : ℕ) (st : State) {cur end d e k own : ℕ} {augs : Augments cur end d e k own} {adding : List ℕ} {m last : Forest} {missed bad : List ℕ}
          (G : Goes adding cur end d e k own augs m last missed bad) → AllMarked labels its.given mark augs → AreDue labels its mark low s.group lo hi cur end k own st
          → CopiesShow labels its mark low (adds_of G) st → Shows its st.groups s.group (lo + 1) cur m → AllReached end G st
      goes_reach lo hi st all_went marked due show S = tt
      goes_reach lo hi st {cur = cur} {end = end} {m = m} (hits_still {a = a} {augs = augs} {below = below} {there = there} {target = target} ss quiet agree hits later) marked due show S =
          let up = all_go_up augs in let ce = up.0 in
          let others = due.others in
          let r = paths_reach labels its are st.groups s.group (lo + 1) cur end (path a) ss m ce (λ i h. others i h) (λ i j h l. due.marks s.group i h ∙ sym (due.marks s.group j l)) agree S in
          let x = r.0 target below below there hits in
          (let u = x.4 in let items = due.items in ((x.0, x.1, x.2, omega (arith, u, ce, items)), goes_reach lo hi st later marked due show S))
      goes_reach lo hi st {cur = cur} {end = end} {m = m} (misses_still {a = a} {augs = augs} ss quiet agree missed later) marked due show S =
          let up = all_go_up augs in let ce = up.0 in
          let others = due.others in
          let r = paths_reach labels its are st.groups s.group (lo + 1) cur end (path a) ss m ce (λ i h. others i h) (λ i j h l. due.marks s.group i h ∙ sym (due.marks s.group j l)) agree S in
          (r.1 missed, goes_reach lo hi st later marked due show S)
      goes_reach lo hi st {cur = cur} {end = end} {k = k} {own = own} {m = m}
          (adds {a = a} {mid = mid} {augs = augs} {b = b} {below = below} {there = there} {target = target} ss gives_one agree l comes hits later)
          (own_mark, in', marked) due (copy, shows, more) S =
          let g : ℕ = s.group in
          let up' = all_go_up augs in let mh = up'.0 in let ko = up'.2 in
          let items = due.items in let ends = due.ends in let begins = due.begins in
          let is = one_turn labels its mark low g lo hi cur mid end k own st due copy l mh (omega (arith, ko)) own_mark in
          let limit : ℕ = limit_at k st in
          let after : State = next k a st in
          let t = is.0 in
          let r = paths_reach labels its are st.groups g (lo + 1) cur limit (path a) ss m t.limit_low
          (λ i h. elim (t.others i h) [ inl x ↦ inl x | inr x ↦ inr x.1 ]) (λ i j h l. due.marks g i h ∙ sym (due.marks g j l)) agree S in
          let x = r.0 target below (join below b) there hits in
          let now : Shows its after.groups g (lo + 1) mid there = turn_adds labels its are mark g (lo + 1) cur mid k limit (path a) ss st m b below there target t agree S shows hits in
          let due_then = still_due labels its mark low g lo hi cur mid end k own limit (path a) st due l mh (omega (arith, ko)) own_mark is.1 in
          let frame = due_then.0 in
          let u = x.4 in (
            (x.0, x.1, x.2, omega (arith, u, l, mh, items)),
            goes_reach lo hi after later marked due_then.1
                (copies_on labels its mark low st after (adds_of later)
                (λ i x y. frame.outside (i + 1) (λ e. g_not_below labels its mark low g lo hi k own i due.out (omega (arith, x, l, begins)) (omega (arith, y, ends)) (sym e))
                (inr (omega (arith, x)), inl (omega (arith, y, items))))
                (λ j x y. frame.outside (group_of_augment labels j) (λ e. g_not_copy labels its mark low g lo hi k own j due.out (omega (arith, x)) y (sym e))
                (inr (omega (arith, items, mh)), inr (omega (arith, x)))) more)
                now,
          )
      goes_reach lo hi st {cur = cur} {end = end} {k = k} {own = own} {m = m} (misses {a = a} {mid = mid} {augs = augs} ss gives_one agree l missed later)
          (own_mark, in', marked) due (copy, more) S =
          let g : ℕ = s.group in
          let up' = all_go_up augs in let mh = up'.0 in let ko = up'.2 in
          let items = due.items in let ends = due.ends in let begins = due.begins in
          let is = one_turn labels its mark low g lo hi cur mid end k own st due copy l mh (omega (arith, ko)) own_mark in
          let limit : ℕ = limit_at k st in
          let after : State = next k a st in
          let t = is.0 in
          let r = paths_reach labels its are st.groups g (lo + 1) cur limit (path a) ss m t.limit_low
          (λ i h. elim (t.others i h) [ inl x ↦ inl x | inr x ↦ inr x.1 ]) (λ i j h l. due.marks g i h ∙ sym (due.marks g j l)) agree S in
          let same : after.groups ≡ st.groups = turn_misses labels its are mark g (lo + 1) cur mid k limit (path a) ss st m t agree S missed in
          let due_then = still_due labels its mark low g lo hi cur mid end k own limit (path a) st due l mh (omega (arith, ko)) own_mark is.1 in (
            r.1 missed,
            goes_reach lo hi after later marked due_then.1
                (copies_on labels its mark low st after (adds_of later) (λ i x y. ap (λ gs. members_of gs (i + 1)) same) (λ j x y. ap (λ gs. members_of gs (group_of_augment labels j)) same) more)
                (shows_stretched labels its mark low after.groups g (lo + 1) cur mid m (omega (arith, l))
                (λ i x h. elim (due.others i (subst (λ gs. Contains (members_of gs g) i) same x)) [ inl w ↦ w.1 | inr w ↦ absurd (omega (arith, w, h, mh)) ])
                (subst (λ gs. Shows its gs g (lo + 1) cur m) (sym same) S)),
          )

-- the same augments go so where what is told of their items is the same
module _ (w : Whole) (labels : List Label) (s : Spot) (its new : Items) (are : AreAlike its new) where
  pub goes_kept : {adding : List ℕ} {lo hi c e k own : ℕ} {augs : Augments lo hi c e k own} {m last : Forest} {missed bad : List ℕ}
      → ((i : ℕ) → lo ≤ i → i < hi → new.node_of i ≡ its.node_of i) → (G : Goes w labels s its adding lo hi c e k own augs m last missed bad)
      → (D : Goes w labels s new adding lo hi c e k own augs m last missed bad)
      × Same (λ x. KeepsAdded (adds_of w labels s new D) x) (λ x. KeepsAdded (adds_of w labels s its G) x)
  goes_kept same all_went = (all_went, λ x. (λ h. h, λ h. h))
  goes_kept same (hits_still {a = a} ss quiet agree hits later) =
      let y = goes_kept same later in (hits_still ss quiet (agree_alike labels its new are (path_in w s.module_file a) ss agree) hits y.0, y.1)
  goes_kept same (misses_still {a = a} ss quiet agree missed later) =
      let y = goes_kept same later in (misses_still ss quiet (agree_alike labels its new are (path_in w s.module_file a) ss agree) missed y.0, y.1)
  goes_kept same (adds {a = a} {block = block} {augs = augs} ss is agree l comes hits later) =
      let up = goes_up block in let lm = up.0 in
      let up' = all_go_up augs in let mh = up'.0 in
      let x = comes_kept labels its new are (λ i x h. same i x (omega (arith, h, mh))) comes in
      let y = goes_kept (λ i x h. same i (omega (arith, x, lm)) h) later in (
        adds ss is (agree_alike labels its new are (path_in w s.module_file a) ss agree) l x.0 hits y.0,
        same_two (λ i. Keeps x.0 i) (λ i. Keeps comes i) (λ i. KeepsAdded (adds_of w labels s new y.0) i) (λ i. KeepsAdded (adds_of w labels s its later) i) x.1 y.1,
      )
  goes_kept same (misses {a = a} {block = block} ss is agree l missed later) =
      let up = goes_up block in let lm = up.0 in
      let y = goes_kept (λ i x h. same i (omega (arith, x, lm)) h) later in
      (misses ss is (agree_alike labels its new are (path_in w s.module_file a) ss agree) l missed y.0, y.1)

-- the state in which the turns of a uses begin
module _ (labels : List Label) (its : Items) (are : AreLabels labels its) (mark : ℕ → Bool) (low : (x : ℕ) → x ≤ length labels → mark x ≡ false)
    (g lo mid end c own d e : ℕ) (copies : Block (lo + 1) mid own d) (augs : Augments mid end d e c own) (st : State) (m : MayEnter labels g lo end c e st)
    (empty : (x : ℕ) → lo < x → x ≤ end → members_of st.groups x ≡ []) (has : HasMarks its.given mark st)
    (marks_m : MarksBlock labels its.given mark g copies) (marks_g : AllMarked labels its.given mark augs) where
  abbrev st2 : State
  st2 = run_all labels augs st

  abbrev st3 : State
  st3 = enter_block labels g copies st2

  up : (lo + 1 ≤ mid) × (own ≤ d)
  up = goes_up copies

  up' : (mid ≤ end) × (d ≤ e) × (c ≤ own)
  up' = all_go_up augs

  not_g : (x : ℕ) → lo < x → x ≤ end → x ≢ g
  not_g x l h same = elim m.outside.0 [ inl p ↦ omega (arith, p, l, same) | inr p ↦ omega (arith, p, h, same) ]

  m2 : MayAll labels mid end d e c own st
  m2 = may_all labels its mark low g lo end c e mid end own d e st st up.0 up'.0 (omega arith) up'.2 up.1 up'.1 (omega arith) m (still labels g end end e e st) m.from

  out2 : IsOutside labels mid end c e g
  out2 = (let lm = up.0 in narrower labels lo end c e mid end c e g (omega (arith, lm)) (omega arith) (omega arith) (omega arith) m.outside)

  all : AllKept labels g mid end d e c own st st2
  all = all_keep labels g augs st out2 m2

  m3 : MayEnter labels g (lo + 1) mid own d st2
  m3 = may_copies labels its mark low g lo end c e mid end own d e st st st2 up.0 up'.0 (omega arith) up'.2 up.1 up'.1 (omega arith) m (still labels g end end e e st) all

  three : Frame labels g (lo + 1) mid own d st2 st3 × StandFrom (lo + 1) st3
  three = block_keeps labels g copies st2 m3

  has2 : HasMarks its.given mark st2
  has2 = all_marks its.given mark labels low augs st marks_g has

  pub due : AreDue labels its mark low g lo end mid end c own st3
  due =
      let lm = up.0 in let od = up.1 in let me = up'.0 in let de = up'.1 in let co = up'.2 in
      let items = m.items in let room = m.room in let many = m.copies in
      let f2 = all.frame in let f3 = three.0 in
      let long2 = f2.groups in let long3 = f3.groups in let many2 = f2.augments in let many3 = f3.augments in
      let quiet = (all_keep labels (lo + 1) augs st (inl lm, inl (omega (arith, items, lm, me))) m2).frame in
      record {
        room = omega (arith, room, long2, many2, long3, many3);
        items = items;
        copies = omega (arith, many, od, de, many2, many3);
        begins = omega (arith, lm);
        ends = omega arith;
        out = narrower labels lo end c e lo end c own g (omega arith) (omega arith) (omega arith) (omega (arith, od, de)) m.outside;
        others = λ i x. elim (Contains-append_cases (members_of st2.groups g) f3.entered i (subst (λ ms. Contains ms i) f3.behind x)) [
          | inl was ↦ inr (m.from g i (subst (λ ms. Contains ms i) (quiet.outside g (λ same. not_g (lo + 1) (omega arith) (omega (arith, lm, me)) (sym same)) out2) was))
          | inr new ↦ inl (f3.theirs i new)
        ];
        marks = run_marks its.given mark labels low g copies st2 marks_m has2;
        from = three.1;
        waits = λ j x y. f3.ends j (inl y) ∙ (all.gap_ends j (omega (arith, y, od)) ∙ m.waiting j x (omega (arith, y, od, de)));
      }

  pub copies_show : {made last : Forest} (G : Adds labels its _ _ _ _ _ _ augs made last) → CopiesShow labels its mark low G st3
  copies_show G =
      let lm = up.0 in let od = up.1 in let me = up'.0 in let de = up'.1 in
      let items = m.items in let f3 = three.0 in
      let not_copy : (j : ℕ) → c ≤ j → j < e → group_of_augment labels j ≢ g = λ j l h same. elim m.outside.1 [ inl p ↦ omega (arith, p, l, same) | inr p ↦ omega (arith, p, h, same) ] in
      copies_on labels its mark low st2 st3 G
      (λ i x y. f3.outside (i + 1) (not_g (i + 1) (omega (arith, x, lm)) (omega (arith, y))) (inr (omega (arith, x)), inl (omega (arith, y, items))))
      (λ j x y. f3.outside (group_of_augment labels j) (not_copy j x (omega (arith, y, od, de))) (inr (omega (arith, items, me)), inl (omega (arith, y))))
      (all_show labels its mark low (turn_adds labels its are mark) (turn_misses labels its are mark) g st G marks_g out2 m2 (λ x l h. empty x (omega (arith, l, lm)) h) has)

  pub shows_made : {made : Forest} → Comes labels its _ _ _ _ copies made → Shows its st3.groups g (lo + 1) mid made
  shows_made M =
      let lm = up.0 in let me = up'.0 in let items = m.items in let f2 = all.frame in
      block_shows_all labels its mark are low g st2 M marks_m m3
      (λ x l h. f2.outside x (not_g x (omega (arith, l)) (omega (arith, h, me))) (inl h, inl (omega (arith, h, me, items))) ∙ empty x (omega (arith, l)) (omega (arith, h, me))) has2
