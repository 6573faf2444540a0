-- A block that has entered a group has there, at any depth, what it keeps.
use Rattle.std.proofs.Common.{◌⊎◌, inl, inr, ◌≡◌, ◌≢◌, ℕ, ◌+◌, ◌<◌, ◌≤◌, nat_lt, not, Bool, true, false, List, [], length, refl, sym, ◌∙◌, ap, subst, arith}
use Rattle.std.specs.List.{Contains}
use Rattle.std.proofs.lemmas.Bool.{false≢true, lt-ltb, ltb-true}
use Rattle.std.proofs.lemmas.List.Elements.{Contains-append_cases}
use Rattle.yv_expand_rounds.specs.declared.end.End.TheVariants as end_of
use Rattle.yv_expand_rounds.specs.declared.label.Label.{Label}
use Rattle.yv_expand_rounds.specs.Groups.{Groups, group_of_augment, members_of, move_items}
use Rattle.yv_expand_rounds.specs.Placements.{enter}
use Rattle.yv_expand_rounds.specs.Turns.{State, turn}
use Rattle.yv_expand_augments.specs.Augmentation.{last_of}
use Rattle.yv_expand_definition.specs.Nodes.{Forest}
use Rattle.yv_expand_laws.specs.Blocks.{Augments, Block, augment, item, no_augments, nothing, enter_block, run_all, take_turns, uses}
use Rattle.yv_expand_laws.specs.Comes.{Adds, AllMarked, Comes, HasMarks, MarksBlock}
use Rattle.yv_expand_laws.specs.Comes.Comes.{no_items as none_come, of_uses, one_node}
use Rattle.yv_expand_laws.specs.Comes.Adds.{adds, misses, none_left}
use Rattle.yv_expand_laws.specs.Frames.{IsOutside, MayEnter}
use Rattle.yv_expand_laws.specs.Shows.{AreLabels, Items, Shows}
use Rattle.yv_expand_laws.specs.Under.{Keeps, KeepsAdded, StandWithin, Under}
use Rattle.yv_expand_laws.proofs.FrameSequences.{moved_other, narrower}
use Rattle.yv_expand_laws.proofs.BlockFrame.{MayAll, all_go_up, all_keep, block_keeps, goes_up, may_behind, turns_keep}
use Rattle.yv_expand_laws.proofs.GroupMarks.{all_marks, run_marks, turn_marks}
use Rattle.yv_expand_laws.proofs.BlockNodes.{AreDue, CopiesShow, block_shows, all_show, copies_on, g_not_below, g_not_copy, may_all, may_below, may_block, may_copies, may_others, one_turn, shows_stretched, still_due}
use Rattle.yv_expand_laws.proofs.Turns.{turn_adds, turn_misses, turned_to}
use Rattle.yv_expand_laws.proofs.Under.{ends_under, enters_below, enters_here, enters_more, enters_only, kept_under, moves_below, moves_more, moves_only, none_under, so_under, was_under}

-- numbers past the last item
module _ (labels : List Label) where
  abbrev past : ℕ → Bool
  past i = not (nat_lt i (length labels))

  abbrev unmarked : ℕ → Bool
  unmarked x = false

  before : (i : ℕ) → i < length labels → past i ≡ false
  before i l = ap not (lt-ltb i (length labels) l)

  to_marks : (st : State) → StandWithin labels st → HasMarks past unmarked st
  to_marks st within x i there = before i (within x i there)

  from_marks : (st : State) → HasMarks past unmarked st → StandWithin labels st
  from_marks st has x i there = by (nat_lt i (length labels)) refl (has x i there)
    where
      by : (b : Bool) → nat_lt i (length labels) ≡ b → not b ≡ false → i < length labels
      by true is e = ltb-true i (length labels) is
      by false is e = absurd (false≢true (sym e))

  mutual
    low_marked : (g : ℕ) {lo hi c e : ℕ} (block : Block lo hi c e) → hi ≤ length labels → MarksBlock labels past unmarked g block
    low_marked g nothing l = tt
    low_marked g {lo = lo} (item mid d inner behind) l =
        let a = (goes_up inner).0 in let b = (goes_up behind).0 in
        (before lo (omega (arith, a, b, l)), low_marked (lo + 1) inner (omega (arith, b, l)), low_marked g behind l)
    low_marked g {lo = lo} (uses mid end own d e copies augments behind) l =
        let a = (goes_up copies).0 in let b = (all_go_up augments).0 in let c = (goes_up behind).0 in
        (before lo (omega (arith, a, b, c, l)), low_marked g copies (omega (arith, b, c, l)), low_all augments (omega (arith, c, l)), low_marked g behind l)

    low_all : {lo hi c e k own : ℕ} (augments : Augments lo hi c e k own) → hi ≤ length labels → AllMarked labels past unmarked augments
    low_all no_augments l = tt
    low_all {k = k} (augment mid d names block others) l =
        let a = (all_go_up others).0 in (refl, low_marked (group_of_augment labels k) block (omega (arith, a, l)), low_all others l)

  pub run_within : (g : ℕ) {lo hi c e : ℕ} (block : Block lo hi c e) (st : State) → hi ≤ length labels → StandWithin labels st → StandWithin labels (enter_block labels g block st)
  run_within g block st l within =
      from_marks (enter_block labels g block st) (run_marks past unmarked labels (λ x h. refl) g block st (low_marked g block l) (to_marks st within))

  pub all_within : {lo hi c e k own : ℕ} (augments : Augments lo hi c e k own) (st : State) → hi ≤ length labels → StandWithin labels st → StandWithin labels (run_all labels augments st)
  all_within augments st l within =
      from_marks (run_all labels augments st) (all_marks past unmarked labels (λ x h. refl) augments st (low_all augments l) (to_marks st within))

  turn_within : (k start limit : ℕ) (names : List ℕ) (st : State) → StandWithin labels st → StandWithin labels (turn labels k start limit names st)
  turn_within k start limit names st within =
      from_marks (turn labels k start limit names st) (turn_marks past unmarked labels (λ x h. refl) k start limit names st refl (to_marks st within))

module _ (labels : List Label) (its : Items) (are : AreLabels labels its) (mark : ℕ → Bool) (below_mark : (x : ℕ) → x ≤ length labels → mark x ≡ false) where
  mutual
    -- what a block keeps is of the block
    pub keeps_within : {lo hi c e : ℕ} {block : Block lo hi c e} {f : Forest} (comes : Comes labels its _ _ _ _ block f) (x : ℕ) → Keeps comes x → (lo ≤ x) × (x < hi)
    keeps_within none_come x k = absurd k
    keeps_within (one_node {below = inner} {behind = behind} is_node B F) x k =
        let a = (goes_up inner).0 in let b = (goes_up behind).0 in elim k [
          | inl same ↦ (omega (arith, same), omega (arith, same, a, b))
          | inr (inl v) ↦ (let w = keeps_within B x v in let p = w.0 in let q = w.1 in (omega (arith, p), omega (arith, q, b)))
          | inr (inr v) ↦ (let w = keeps_within F x v in let p = w.0 in let q = w.1 in (omega (arith, p, a), omega (arith, q)))
        ]
    keeps_within (of_uses {copies = copies} {augments = augments} {behind = behind} no_node M G F) x k =
        let a = (goes_up copies).0 in let b = (all_go_up augments).0 in let c = (goes_up behind).0 in elim k [
          | inl same ↦ (omega (arith, same), omega (arith, same, a, b, c))
          | inr (inl (inl v)) ↦ (let w = keeps_within M x v in let p = w.0 in let q = w.1 in (omega (arith, p), omega (arith, q, b, c)))
          | inr (inl (inr v)) ↦ (let w = adds_within G x v in let p = w.0 in let q = w.1 in (omega (arith, p, a), omega (arith, q, c)))
          | inr (inr v) ↦ (let w = keeps_within F x v in let p = w.0 in let q = w.1 in (omega (arith, p, a, b), omega (arith, q)))
        ]

    adds_within : {lo hi c e k own : ℕ} {augments : Augments lo hi c e k own} {m last : Forest} (all : Adds labels its _ _ _ _ _ _ augments m last) (x : ℕ) → KeepsAdded all x
        → (lo ≤ x) × (x < hi)
    adds_within none_left x k = absurd k
    adds_within (adds {block = block} {others = others} ss agree l comes hits later) x k =
        let a = (goes_up block).0 in let b = (all_go_up others).0 in elim k [
          | inl v ↦ (let w = keeps_within comes x v in let p = w.0 in let q = w.1 in (omega (arith, p), omega (arith, q, b)))
          | inr v ↦ (let w = adds_within later x v in let p = w.0 in let q = w.1 in (omega (arith, p, a), omega (arith, q)))
        ]
    adds_within (misses {block = block} ss agree l missed later) x k =
        let a = (goes_up block).0 in let w = adds_within later x k in let p = w.0 in let q = w.1 in (omega (arith, p, a), omega (arith, q))

  -- an item stands in the group of an augment that hits
  abbrev InCopies : {lo hi c e k own : ℕ} {augments : Augments lo hi c e k own} {m last : Forest} → Adds labels its _ _ _ _ _ _ augments m last → Groups → ℕ → Type 0
  InCopies none_left gs x = ⊥
  InCopies (adds {k = k} ss agree l comes hits later) gs x = Under gs (group_of_augment labels k) x ⊎ InCopies later gs x
  InCopies (misses ss agree l missed later) gs x = InCopies later gs x

  -- what stands in such a group is of its block
  abbrev AreBound : {lo hi c e k own : ℕ} {augments : Augments lo hi c e k own} {m last : Forest} → Adds labels its _ _ _ _ _ _ augments m last → Groups → Type 0
  AreBound none_left gs = Unit {0}
  AreBound (adds {lo = lo} {k = k} {mid = mid} ss agree l comes hits later) gs =
      ((x : ℕ) → Under gs (group_of_augment labels k) x → (lo ≤ x) × (x < mid)) × AreBound later gs
  AreBound (misses ss agree l missed later) gs = AreBound later gs

  abbrev Same : (P Q : ℕ → Type 0) → Type 0
  Same P Q = (x : ℕ) → (P x → Q x) × (Q x → P x)

  -- the same stands there in groups that are the same
  copies_under : (old new : Groups) {lo hi c e k own : ℕ} {augments : Augments lo hi c e k own} {m last : Forest} (all : Adds labels its _ _ _ _ _ _ augments m last)
      → ((i : ℕ) → lo ≤ i → i < hi → members_of new (i + 1) ≡ members_of old (i + 1))
      → ((j : ℕ) → k ≤ j → j < own → members_of new (group_of_augment labels j) ≡ members_of old (group_of_augment labels j))
      → AreBound all old → AreBound all new × Same (InCopies all new) (InCopies all old)
  copies_under old new none_left same copies bound = (tt, λ x. (λ a. a, λ a. a))
  copies_under old new (adds {lo = lo} {k = k} {mid = mid} {block = block} {others = others} ss agree l comes hits later) same copies (bound, more) =
      let up' = all_go_up others in let mh = up'.0 in let ko = up'.2 in
      let own : ℕ = group_of_augment labels k in
      let here : members_of new own ≡ members_of old own = copies k (omega arith) (omega (arith, ko)) in
      let inner : (j : ℕ) → Under old own j → members_of new (j + 1) ≡ members_of old (j + 1) =
      λ j u. (let w = bound j u in let h = w.1 in same j w.0 (omega (arith, h, mh))) in
      let rest = copies_under old new later (λ i x h. same i (omega (arith, x, l)) h) (λ j x h. copies j (omega (arith, x)) h) more in (
        (λ x u. bound x (was_under old new own here inner u), rest.0),
        λ x. (
          (λ a. elim a [ inl u ↦ inl (was_under old new own here inner u) | inr u ↦ inr ((rest.1 x).0 u) ]),
          (λ a. elim a [ inl u ↦ inl (kept_under old new own here inner u) | inr u ↦ inr ((rest.1 x).1 u) ]),
        ),
      )
  copies_under old new (misses {lo = lo} {k = k} {mid = mid} {others = others} ss agree l missed later) same copies bound =
      copies_under old new later (λ i x h. same i (omega (arith, x, l)) h) (λ j x h. copies j (omega (arith, x)) h) bound

  -- the turns of a uses put what augments give that hit below what stands in its group
  turns_stand : (g lo hi : ℕ) (st : State) {cur end d e k own : ℕ} {augments : Augments cur end d e k own} {m given : Forest}
      (all : Adds labels its _ _ _ _ _ _ augments m given) → AllMarked labels its.given mark augments → AreDue labels its mark below_mark g lo hi cur end k own st
      → CopiesShow labels its mark below_mark all st → Shows its st.groups g (lo + 1) cur m → AreBound all st.groups → StandWithin labels st
      → (members_of (take_turns labels g augments st).groups (lo + 1) ≡ members_of st.groups (lo + 1))
      × Same (λ x. Under (take_turns labels g augments st).groups g x) (λ x. Under st.groups g x ⊎ InCopies all st.groups x)
  turns_stand g lo hi st none_left marked due show S bound within = (refl, λ x. (λ u. inl u, λ u. elim u [ inl a ↦ a | inr b ↦ absurd b ]))
  turns_stand g lo hi st {cur = cur} {end = end} {k = k} {own = last} {m = m}
      (adds {mid = mid} {names = names} {others = others} {b = b} {below = below} {there = there} {target = target} ss agree l comes hits later)
      (own_mark, in', marked) due (copy, shows, more) S (bound, bounds) within =
      let up' = all_go_up others in let mh = up'.0 in let ko = up'.2 in
      let items = due.items in let ends = due.ends in let begins = due.begins in let room = due.room in let many = due.copies in
      let is = one_turn labels its mark below_mark g lo hi cur mid end k last st due copy l mh (omega (arith, ko)) own_mark in
      let limit : ℕ = last_of (members_of st.groups (group_of_augment labels k)) in
      let next : State = turn labels k g limit names st in
      let now : Shows its next.groups g (lo + 1) mid there =
      turn_adds labels its are mark g (lo + 1) cur mid k limit names ss st m b below there target is.0 agree S shows hits in
      let due_then = still_due labels its mark below_mark g lo hi cur mid end k last limit names st due l mh (omega (arith, ko)) own_mark is.1 in
      let frame = due_then.0 in
      let same_items : (i : ℕ) → mid ≤ i → i < end → members_of next.groups (i + 1) ≡ members_of st.groups (i + 1) =
      λ i x y. frame.outside (i + 1) (λ e. g_not_below labels its mark below_mark g lo hi k last i due.out (omega (arith, x, l, begins)) (omega (arith, y, ends)) (sym e))
      (inr (omega (arith, x)), inl (omega (arith, y, items))) in
      let same_copies : (j : ℕ) → k + 1 ≤ j → j < last → members_of next.groups (group_of_augment labels j) ≡ members_of st.groups (group_of_augment labels j) =
      λ j x y. frame.outside (group_of_augment labels j) (λ e. g_not_copy labels its mark below_mark g lo hi k last j due.out (omega (arith, x)) y (sym e))
      (inr (omega (arith, items, mh)), inr (omega (arith, x))) in
      let cs = copies_under st.groups next.groups later same_items same_copies bounds in
      let r = turns_stand g lo hi next later marked due_then.1 (copies_on labels its mark below_mark st next later same_items same_copies more) now cs.0
      (turn_within labels k g limit names st within) in
      let t = turned_to labels its are mark g (lo + 1) cur mid k limit st m is.0 S names ss below _ there target agree hits in
      let i : ℕ = t.0 in
      let w = S.bounds i t.1 in let il = w.0 in let iu = w.1 in
      let own : ℕ = group_of_augment labels k in
      let at : Under st.groups g i = ends_under labels st.groups limit g names (end_of.Start g) (end_of.Node i) refl t.2 in
      let moves : next.groups ≡ move_items own (i + 1) st.groups = t.3 in
      let other : own ≢ i + 1 = λ e. omega (arith, e, iu, l, mh, items) in
      let to_room : i + 1 < length st.groups = omega (arith, iu, l, mh, items, room) in
      let own_room : own < length st.groups = omega (arith, ko, many, room) in
      let apart : g ≢ own = g_not_copy labels its mark below_mark g lo hi k last k due.out (omega arith) (omega (arith, ko)) in
      let away : (y j : ℕ) → Contains (members_of st.groups y) j → j + 1 ≢ own = λ y j c e. (let h = within y j c in omega (arith, h, e)) in (
        r.0 ∙ (ap (λ gs. members_of gs (lo + 1)) moves ∙ moved_other labels own (i + 1) (lo + 1) st.groups (λ e. omega (arith, e, begins, l, mh, items)) (λ e. omega (arith, e, il))),
        λ x. (
          (λ u. elim ((r.1 x).0 u) [
            | inl v ↦ elim (moves_only labels st.groups own i g other to_room own_room apart away (subst (λ gs. Under gs g x) moves v)) [ inl a ↦ inl a | inr b ↦ inr (inl b) ]
            | inr v ↦ inr (inr ((cs.1 x).0 v))
          ]),
          (λ u. (r.1 x).1 (elim u [
            | inl v ↦ inl (subst (λ gs. Under gs g x) (sym moves) (moves_more labels st.groups own i g other to_room own_room apart away v))
            | inr (inl v) ↦ inl (subst (λ gs. Under gs g x) (sym moves) (moves_below labels st.groups own i g other to_room own_room apart away at v))
            | inr (inr v) ↦ inr ((cs.1 x).1 v)
          ])),
        ),
      )
  turns_stand g lo hi st {cur = cur} {end = end} {k = k} {own = last} {m = m} (misses {mid = mid} {names = names} {others = others} ss agree l missed later)
      (own_mark, in', marked) due (copy, more) S bound within =
      let up' = all_go_up others in let mh = up'.0 in let ko = up'.2 in
      let is = one_turn labels its mark below_mark g lo hi cur mid end k last st due copy l mh (omega (arith, ko)) own_mark in
      let limit : ℕ = last_of (members_of st.groups (group_of_augment labels k)) in
      let next : State = turn labels k g limit names st in
      let same : next.groups ≡ st.groups = turn_misses labels its are mark g (lo + 1) cur mid k limit names ss st m is.0 agree S missed in
      let due_then = still_due labels its mark below_mark g lo hi cur mid end k last limit names st due l mh (omega (arith, ko)) own_mark is.1 in
      let r = turns_stand g lo hi next later marked due_then.1
      (copies_on labels its mark below_mark st next later (λ i x y. ap (λ gs. members_of gs (i + 1)) same) (λ j x y. ap (λ gs. members_of gs (group_of_augment labels j)) same) more)
      (shows_stretched labels its mark below_mark next.groups g (lo + 1) cur mid m (omega (arith, l))
      (λ i x h. elim (due.others i (subst (λ gs. Contains (members_of gs g) i) same x)) [ inl w ↦ w.1 | inr w ↦ absurd (omega (arith, w, h, mh)) ])
      (subst (λ gs. Shows its gs g (lo + 1) cur m) (sym same) S))
      (subst (AreBound later) (sym same) bound) (turn_within labels k g limit names st within) in (
        r.0 ∙ ap (λ gs. members_of gs (lo + 1)) same,
        λ x. (
          (λ u. subst (λ gs. Under gs g x ⊎ InCopies later gs x) same ((r.1 x).0 u)),
          (λ u. (r.1 x).1 (subst (λ gs. Under gs g x ⊎ InCopies later gs x) (sym same) u)),
        ),
      )

  mutual
    pub block_stands : (g : ℕ) (st : State) {lo hi c e : ℕ} {block : Block lo hi c e} {f : Forest} (comes : Comes labels its _ _ _ _ block f) → MarksBlock labels its.given mark g block
        → MayEnter labels g lo hi c e st → ((x : ℕ) → lo < x → x ≤ hi → members_of st.groups x ≡ []) → HasMarks its.given mark st → StandWithin labels st
        → Same (λ x. Under (enter_block labels g block st).groups g x) (λ x. Under st.groups g x ⊎ Keeps comes x)
    block_stands g st none_come marked m empty has within = λ x. (λ u. inl u, λ u. elim u [ inl a ↦ a | inr b ↦ absurd b ])
    block_stands g st {lo = lo} {hi = hi} {c = c} {e = e} (one_node {mid = mid} {d = d} {below = below} {behind = behind} is_node B F) (is, marks_b, marks_f) m empty has within =
        let up = goes_up below in let lm = up.0 in let cd = up.1 in
        let up' = goes_up behind in let mh = up'.0 in let de = up'.1 in
        let items = m.items in let room = m.room in let group = m.group in
        let st1 : State = enter_block labels g behind st in
        let m1 : MayEnter labels g mid hi d e st = may_behind labels g lo hi c e mid d st (omega (arith, lm)) cd m in
        let one = block_keeps labels g behind st m1 in
        let f1 = one.0 in
        let not_g : (x : ℕ) → lo < x → x ≤ hi → x ≢ g = λ x l h same. elim m.outside.0 [ inl p ↦ omega (arith, p, l, same) | inr p ↦ omega (arith, p, h, same) ] in
        let st2 : State = enter_block labels (lo + 1) below st1 in
        let m2 : MayEnter labels (lo + 1) (lo + 1) mid c d st1 = may_below labels its mark below_mark g lo hi c e mid d st st1 lm mh de m f1 one.1 in
        let two = block_keeps labels (lo + 1) below st1 m2 in
        let f2 = two.0 in
        let has1 : HasMarks its.given mark st1 = run_marks its.given mark labels below_mark g behind st marks_f has in
        let empty1 : (x : ℕ) → lo < x → x ≤ mid → members_of st1.groups x ≡ [] =
        λ x l h. f1.outside x (not_g x l (omega (arith, h, mh))) (inl h, inl (omega (arith, h, mh, items))) ∙ empty x l (omega (arith, h, mh)) in
        let within1 = run_within labels g behind st items within in
        let F' = block_stands g st F marks_f m1 (λ x l h. empty x (omega (arith, l, lm)) h) has within in
        let B' = block_stands (lo + 1) st1 B marks_b m2 (λ x l h. empty1 x (omega (arith, l)) h) has1 within1 in
        let away : IsOutside labels (lo + 1) mid c d g = narrower labels lo hi c e (lo + 1) mid c d g (omega arith) mh (omega arith) de m.outside in
        let g_same : members_of st2.groups g ≡ members_of st1.groups g = f2.outside g (λ same. not_g (lo + 1) (omega arith) (omega (arith, lm, mh)) (sym same)) away in
        let inner : (j : ℕ) → Under st1.groups g j → members_of st2.groups (j + 1) ≡ members_of st1.groups (j + 1) =
        λ j u. (let l = so_under (λ z. mid ≤ z) st1.groups g one.1 u in let h = so_under (λ z. z < length labels) st1.groups g within1 u in
        f2.outside (j + 1) (λ same. omega (arith, same, l, lm)) (inr (omega (arith, l)), inl (omega (arith, h)))) in
        let long1 = f1.groups in let long2 = f2.groups in
        let to : g < length st2.groups = omega (arith, group, long1, long2) in
        λ x. (
          (λ u. elim (enters_only lo g st2 to u) [
            | inl same ↦ inr (inl same)
            | inr (inl v) ↦ elim ((B' x).0 v) [
              | inl a ↦ absurd (none_under st1.groups (lo + 1) (empty1 (lo + 1) (omega arith) lm) a)
              | inr b ↦ inr (inr (inl b))
            ]
            | inr (inr v) ↦ elim ((F' x).0 (was_under st1.groups st2.groups g g_same inner v)) [ inl a ↦ inl a | inr b ↦ inr (inr (inr b)) ]
          ]),
          (λ u. elim u [
            | inl a ↦ enters_more lo g st2 to (kept_under st1.groups st2.groups g g_same inner ((F' x).1 (inl a)))
            | inr (inl same) ↦ subst (λ z. Under (enter lo g st2).groups g z) (sym same) (enters_here lo g st2 to)
            | inr (inr (inl b)) ↦ enters_below lo g st2 to ((B' x).1 (inr b))
            | inr (inr (inr b)) ↦ enters_more lo g st2 to (kept_under st1.groups st2.groups g g_same inner ((F' x).1 (inr b)))
          ]),
        )
    block_stands g st {lo = lo} {hi = hi} {c = c} {e = f} (of_uses {mid = mid} {end = end} {own = own} {d = d} {e = e} {copies = copies} {augments = augments} {behind = behind}
        {m = made} {given = gives} {others = last} no_node M G F) (is, marks_m, marks_g, marks_f) m empty has within =
        let up = goes_up copies in let lm = up.0 in let od = up.1 in
        let up' = all_go_up augments in let me = up'.0 in let de = up'.1 in let co = up'.2 in
        let up'' = goes_up behind in let eh = up''.0 in let ef = up''.1 in
        let items = m.items in let room = m.room in let group = m.group in let many = m.copies in
        let not_g : (x : ℕ) → lo < x → x ≤ hi → x ≢ g = λ x l h same. elim m.outside.0 [ inl p ↦ omega (arith, p, l, same) | inr p ↦ omega (arith, p, h, same) ] in
        let st1 : State = enter_block labels g behind st in
        let m1 : MayEnter labels g end hi e f st = may_behind labels g lo hi c f end e st (omega (arith, lm, me)) (omega (arith, co, od, de)) m in
        let one = block_keeps labels g behind st m1 in
        let f1 = one.0 in
        let st2 : State = run_all labels augments st1 in
        let m2 : MayAll labels mid end d e c own st1 = may_all labels its mark below_mark g lo hi c f mid end own d e st st1 lm me eh co od de ef m f1 one.1 in
        let out2 : IsOutside labels mid end c e g = narrower labels lo hi c f mid end c e g (omega (arith, lm)) eh (omega arith) ef m.outside in
        let all = all_keep labels g augments st1 out2 m2 in
        let f2 = all.frame in
        let quiet = (all_keep labels (lo + 1) augments st1 (inl lm, inl (omega (arith, items, lm, me, eh))) m2).frame in
        let st3 : State = enter_block labels g copies st2 in
        let m3 : MayEnter labels g (lo + 1) mid own d st2 = may_copies labels its mark below_mark g lo hi c f mid end own d e st st1 st2 lm me eh co od de ef m f1 all in
        let three = block_keeps labels g copies st2 m3 in
        let f3 = three.0 in
        let st4 : State = take_turns labels g augments st3 in
        let long1 = f1.groups in let long2 = f2.groups in let long3 = f3.groups in
        let many1 = f1.augments in let many2 = f2.augments in let many3 = f3.augments in
        let has1 : HasMarks its.given mark st1 = run_marks its.given mark labels below_mark g behind st marks_f has in
        let has2 : HasMarks its.given mark st2 = all_marks its.given mark labels below_mark augments st1 marks_g has1 in
        let has3 : HasMarks its.given mark st3 = run_marks its.given mark labels below_mark g copies st2 marks_m has2 in
        let within1 = run_within labels g behind st items within in
        let within2 = all_within labels augments st1 (omega (arith, items, eh)) within1 in
        let within3 = run_within labels g copies st2 (omega (arith, items, me, eh)) within2 in
        let empty1 : (x : ℕ) → lo < x → x ≤ end → members_of st1.groups x ≡ [] =
        λ x l h. f1.outside x (not_g x l (omega (arith, h, eh))) (inl h, inl (omega (arith, h, eh, items))) ∙ empty x l (omega (arith, h, eh)) in
        let empty2 : (x : ℕ) → lo < x → x ≤ mid → members_of st2.groups x ≡ [] =
        λ x l h. f2.outside x (not_g x l (omega (arith, h, me, eh))) (inl h, inl (omega (arith, h, me, eh, items))) ∙ empty1 x l (omega (arith, h, me)) in
        let shows_c : CopiesShow labels its mark below_mark G st2 =
        all_show labels its mark below_mark (turn_adds labels its are mark) (turn_misses labels its are mark) g st1 G marks_g out2 m2 (λ x l h. empty1 x (omega (arith, l, lm)) h) has1 in
        let shows_m : Shows its st3.groups g (lo + 1) mid made =
        block_shows labels its mark below_mark (turn_adds labels its are mark) (turn_misses labels its are mark) g st2 M marks_m m3 (λ x l h. empty2 x (omega (arith, l)) h) has2 in
        let not_copy : (j : ℕ) → c ≤ j → j < f → group_of_augment labels j ≢ g = λ j l h same. elim m.outside.1 [ inl p ↦ omega (arith, p, l, same) | inr p ↦ omega (arith, p, h, same) ] in
        let same_items : (i : ℕ) → mid ≤ i → i < end → members_of st3.groups (i + 1) ≡ members_of st2.groups (i + 1) =
        λ i x y. f3.outside (i + 1) (not_g (i + 1) (omega (arith, x, lm)) (omega (arith, y, eh))) (inr (omega (arith, x)), inl (omega (arith, y, eh, items))) in
        let same_copies : (j : ℕ) → c ≤ j → j < own → members_of st3.groups (group_of_augment labels j) ≡ members_of st2.groups (group_of_augment labels j) =
        λ j x y. f3.outside (group_of_augment labels j) (not_copy j x (omega (arith, y, od, de, ef))) (inr (omega (arith, items, me, eh)), inl (omega (arith, y))) in
        let A' = all_stands g st1 G marks_g out2 m2 (λ x l h. empty1 x (omega (arith, l, lm)) h) has1 within1 in
        let C' = copies_under st2.groups st3.groups G same_items same_copies A'.0 in
        let F' = block_stands g st F marks_f m1 (λ x l h. empty x (omega (arith, l, lm, me)) h) has within in
        let M' = block_stands g st2 M marks_m m3 (λ x l h. empty2 x (omega (arith, l)) h) has2 within2 in
        let T' = turns_stand g lo hi st3 G marks_g (record {
          room = omega (arith, room, long1, many1, long2, many2, long3, many3);
          items = omega (arith, items, eh);
          copies = omega (arith, many, od, de, ef, many1, many2, many3);
          begins = omega (arith, lm);
          ends = eh;
          out = narrower labels lo hi c f lo hi c own g (omega arith) (omega arith) (omega arith) (omega (arith, od, de, ef)) m.outside;
          others = λ i x. elim (Contains-append_cases (members_of st2.groups g) f3.entered i (subst (λ ms. Contains ms i) f3.behind x)) [
            | inl was ↦ inr (one.1 g i (subst (λ ms. Contains ms i) (quiet.outside g (λ same. not_g (lo + 1) (omega arith) (omega (arith, lm, me, eh)) (sym same)) out2) was))
            | inr new ↦ inl (f3.theirs i new)
          ];
          marks = has3;
          from = three.1;
          waits = λ j x y. f3.ends j (inl y) ∙ (all.gap_ends j (omega (arith, y, od)) ∙ (f1.ends j (inl (omega (arith, y, od, de))) ∙ m.waiting j x (omega (arith, y, od, de, ef))));
        }) (copies_on labels its mark below_mark st2 st3 G same_items same_copies shows_c) shows_m C'.0 within3 in
        let four = turns_keep labels g lo end c e augments st3 (omega (arith, room, long1, many1, long2, many2, long3, many3)) (omega (arith, items, eh))
        (omega (arith, many, ef, many1, many2, many3)) (omega arith) (omega (arith, od, de)) three.1
        (narrower labels lo hi c f lo end c e g (omega arith) eh (omega arith) ef m.outside)
        (λ j l h i there. all.before j l h i (subst (λ ms. Contains ms i) (f3.outside (group_of_augment labels j) (not_copy j l (omega (arith, h, od, de, ef)))
        (inr (omega (arith, items, me, eh)), inl (omega (arith, h)))) there)) in
        let long4 = four.0.groups in
        let to : g < length st4.groups = omega (arith, group, long1, long2, long3, long4) in
        let none_own : members_of st4.groups (lo + 1) ≡ [] =
        T'.0 ∙ (f3.outside (lo + 1) (not_g (lo + 1) (omega arith) (omega (arith, lm, me, eh))) (inl (omega arith), inl (omega (arith, lm, me, eh, items))) ∙ empty2 (lo + 1) (omega arith) lm) in
        let g_same : members_of st2.groups g ≡ members_of st1.groups g = quiet.outside g (λ same. not_g (lo + 1) (omega arith) (omega (arith, lm, me, eh)) (sym same)) out2 in
        let inner : (j : ℕ) → Under st1.groups g j → members_of st2.groups (j + 1) ≡ members_of st1.groups (j + 1) =
        λ j u. (let l = so_under (λ z. end ≤ z) st1.groups g one.1 u in let h = so_under (λ z. z < length labels) st1.groups g within1 u in
        quiet.outside (j + 1) (λ same. omega (arith, same, l, lm, me)) (inr (omega (arith, l)), inl (omega (arith, h)))) in
        λ x. (
          (λ u. elim (enters_only lo g st4 to u) [
            | inl same ↦ inr (inl same)
            | inr (inl v) ↦ absurd (none_under st4.groups (lo + 1) none_own v)
            | inr (inr v) ↦ elim ((T'.1 x).0 v) [
              | inr a ↦ inr (inr (inl (inr ((A'.1 x).0 ((C'.1 x).0 a)))))
              | inl a ↦ elim ((M' x).0 a) [
                | inr b ↦ inr (inr (inl (inl b)))
                | inl b ↦ elim ((F' x).0 (was_under st1.groups st2.groups g g_same inner b)) [ inl y ↦ inl y | inr y ↦ inr (inr (inr y)) ]
              ]
            ]
          ]),
          (λ u. elim u [
            | inl a ↦ enters_more lo g st4 to ((T'.1 x).1 (inl ((M' x).1 (inl (kept_under st1.groups st2.groups g g_same inner ((F' x).1 (inl a)))))))
            | inr (inl same) ↦ subst (λ z. Under (enter lo g st4).groups g z) (sym same) (enters_here lo g st4 to)
            | inr (inr (inl (inl b))) ↦ enters_more lo g st4 to ((T'.1 x).1 (inl ((M' x).1 (inr b))))
            | inr (inr (inl (inr b))) ↦ enters_more lo g st4 to ((T'.1 x).1 (inr ((C'.1 x).1 ((A'.1 x).1 b))))
            | inr (inr (inr b)) ↦ enters_more lo g st4 to ((T'.1 x).1 (inl ((M' x).1 (inl (kept_under st1.groups st2.groups g g_same inner ((F' x).1 (inr b)))))))
          ]),
        )

    all_stands : (g : ℕ) (st : State) {lo hi c e k own : ℕ} {augments : Augments lo hi c e k own} {made last : Forest} (all : Adds labels its _ _ _ _ _ _ augments made last)
        → AllMarked labels its.given mark augments → IsOutside labels lo hi k e g → MayAll labels lo hi c e k own st → ((x : ℕ) → lo < x → x ≤ hi → members_of st.groups x ≡ [])
        → HasMarks its.given mark st → StandWithin labels st
        → AreBound all (run_all labels augments st).groups × Same (InCopies all (run_all labels augments st).groups) (KeepsAdded all)
    all_stands g st none_left marked out m empty has within = (tt, λ x. (λ a. a, λ a. a))
    all_stands g st {lo = lo} {hi = hi} {c = c} {e = e} {k = k} {own = own} (adds {mid = mid} {d = d} {block = block} {others = others} {b = b} ss agree l comes hits later)
        (own_mark, marks_b, marks_o) out m empty has within =
        let up = goes_up block in let lm = up.0 in let cd = up.1 in
        let up' = all_go_up others in let mh = up'.0 in let de = up'.1 in let ko = up'.2 in
        let items = m.items in let oc = m.inner in
        let st1 : State = run_all labels others st in
        let m1 : MayAll labels mid hi d e (k + 1) own st = may_others labels its mark below_mark lo hi c e k own mid d st cd m in
        let out1 : IsOutside labels mid hi (k + 1) e g = narrower labels lo hi k e mid hi (k + 1) e g lm (omega arith) (omega arith) (omega arith) out in
        let rest = all_keep labels g others st out1 m1 in
        let f1 = rest.frame in
        let copy : ℕ = group_of_augment labels k in
        let st2 : State = enter_block labels copy block st1 in
        let m2 : MayEnter labels copy lo mid c d st1 = may_block labels its mark below_mark g lo hi c e k own mid d st st1 mh cd de ko m rest in
        let f2 = (block_keeps labels copy block st1 m2).0 in
        let was : members_of st1.groups copy ≡ [] =
        f1.outside copy (λ same. elim out.1 [ inl p ↦ omega (arith, p, same) | inr p ↦ omega (arith, p, same, ko, oc, cd, de) ])
        (inr (omega (arith, items)), inl (omega arith)) ∙ m.fresh k (inl (omega arith, omega (arith, ko))) in
        let has1 : HasMarks its.given mark st1 = all_marks its.given mark labels below_mark others st marks_o has in
        let within1 = all_within labels others st items within in
        let r = all_stands g st later marks_o out1 m1 (λ x a h. empty x (omega (arith, a, lm)) h) has within in
        let cs = copies_under st1.groups st2.groups later
        (λ i x y. f2.outside (i + 1) (λ same. omega (arith, same, y, items)) (inr (omega (arith, x)), inl (omega (arith, y, items))))
        (λ j x y. f2.outside (group_of_augment labels j) (λ same. omega (arith, same, x)) (inr (omega (arith, items, mh)), inl (omega (arith, y, oc)))) r.0 in
        let B' = block_stands copy st1 comes marks_b m2
        (λ x a h. f1.outside x (λ same. elim out.0 [ inl p ↦ omega (arith, p, a, same) | inr p ↦ omega (arith, p, h, mh, same) ]) (inl h, inl (omega (arith, h, mh, items)))
        ∙ empty x a (omega (arith, h, mh))) has1 within1 in (
          (λ x u. elim ((B' x).0 u) [ inl a ↦ absurd (none_under st1.groups copy was a) | inr a ↦ keeps_within comes x a ], cs.0),
          λ x. (
            (λ u. elim u [
              | inl v ↦ elim ((B' x).0 v) [ inl a ↦ absurd (none_under st1.groups copy was a) | inr a ↦ inl a ]
              | inr v ↦ inr ((r.1 x).0 ((cs.1 x).0 v))
            ]),
            (λ u. elim u [ inl v ↦ inl ((B' x).1 (inr v)) | inr v ↦ inr ((cs.1 x).1 ((r.1 x).1 v)) ]),
          ),
        )
    all_stands g st {lo = lo} {hi = hi} {c = c} {e = e} {k = k} {own = own} (misses {mid = mid} {d = d} {block = block} {others = others} ss agree l missed later)
        (own_mark, marks_b, marks_o) out m empty has within =
        let up = goes_up block in let lm = up.0 in let cd = up.1 in
        let up' = all_go_up others in let mh = up'.0 in let de = up'.1 in let ko = up'.2 in
        let items = m.items in let oc = m.inner in
        let st1 : State = run_all labels others st in
        let m1 : MayAll labels mid hi d e (k + 1) own st = may_others labels its mark below_mark lo hi c e k own mid d st cd m in
        let out1 : IsOutside labels mid hi (k + 1) e g = narrower labels lo hi k e mid hi (k + 1) e g lm (omega arith) (omega arith) (omega arith) out in
        let rest = all_keep labels g others st out1 m1 in
        let copy : ℕ = group_of_augment labels k in
        let st2 : State = enter_block labels copy block st1 in
        let m2 : MayEnter labels copy lo mid c d st1 = may_block labels its mark below_mark g lo hi c e k own mid d st st1 mh cd de ko m rest in
        let f2 = (block_keeps labels copy block st1 m2).0 in
        let r = all_stands g st later marks_o out1 m1 (λ x a h. empty x (omega (arith, a, lm)) h) has within in
        let cs = copies_under st1.groups st2.groups later
        (λ i x y. f2.outside (i + 1) (λ same. omega (arith, same, y, items)) (inr (omega (arith, x)), inl (omega (arith, y, items))))
        (λ j x y. f2.outside (group_of_augment labels j) (λ same. omega (arith, same, x)) (inr (omega (arith, items, mh)), inl (omega (arith, y, oc)))) r.0 in
        (cs.0, λ x. ((λ u. (r.1 x).0 ((cs.1 x).0 u)), (λ u. (cs.1 x).1 ((r.1 x).1 u))))
