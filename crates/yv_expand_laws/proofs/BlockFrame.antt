-- A block that enters leaves what is outside as it was (the frame).
use Rattle.std.proofs.Common.{◌⊎◌, inl, inr, ◌≡◌, ◌≢◌, ℕ, ◌+◌, ◌-◌, ◌<◌, ◌≤◌, Bool, true, false, if◌then◌else◌, List, [], ◌∷◌, ◌++◌, length, set, length-set, get_or, refl, sym, ◌∙◌, ap, subst, arith, Option, Some, None}
use Rattle.std.specs.List.{Contains, slice_get}
use Rattle.std.proofs.lemmas.Bool.{cases_eq}
use Rattle.std.proofs.lemmas.List.{append-nil, get_or-set_other}
use Rattle.std.proofs.lemmas.List.Elements.{Contains-get_or}
use Rattle.std.proofs.lemmas.Option.{same_Some}
use Rattle.yv_expand_rounds.specs.declared.end.End.{End}
use Rattle.yv_expand_rounds.specs.declared.end.End.TheVariants as end
use Rattle.yv_expand_rounds.specs.declared.label.Label.{Label}
use Rattle.yv_expand_rounds.specs.Groups.{group_of_augment, members_of, move_items}
use Rattle.yv_expand_rounds.specs.Placements.{enter}
use Rattle.yv_expand_rounds.specs.Turns.{State, give, is_applied, is_some_target, settle, target, turn}
use Rattle.yv_expand_laws.specs.Blocks.{Augments, Block, augment, copy_turn, item, no_augments, nothing, enter_block, run_all, take_turns, uses}
use Rattle.yv_expand_laws.specs.Frames.{Frame, IsOutside, MayEnter, StandFrom}
use Rattle.yv_expand_laws.proofs.FoundItems.{EndIsWithin, end_within, not_none}
use Rattle.yv_expand_laws.proofs.FrameSequences.{and_then, enters, enters_from, inner, moved_long, moved_other, moved_stand, narrower, nothing_stands, still, wider}
use Rattle.yv_expand_rounds.specs.Paths.{path_end}
use Rattle.yv_expand_augments.specs.Augmentation.{last_of}

mutual
  -- numbers go up
  pub goes_up : {lo hi c e : ℕ} → Block lo hi c e → (lo ≤ hi) × (c ≤ e)
  goes_up nothing = (omega arith, omega arith)
  goes_up (item mid d below behind) =
      let p = goes_up below in let q = goes_up behind in
      let a = p.0 in let b = p.1 in let x = q.0 in let y = q.1 in
      (omega (arith, a, x), omega (arith, b, y))
  goes_up (uses mid end own d e copies augments behind) =
      let p = goes_up copies in let r = all_go_up augments in let q = goes_up behind in
      let a = p.0 in let b = p.1 in let x = q.0 in let y = q.1 in let u = r.0 in let v = r.1 in let z = r.2 in
      (omega (arith, a, x, u), omega (arith, b, y, v, z))

  pub all_go_up : {lo hi c e k own : ℕ} → Augments lo hi c e k own → (lo ≤ hi) × (c ≤ e) × (k ≤ own)
  all_go_up no_augments = (omega arith, omega arith, omega arith)
  all_go_up (augment mid d names block others) =
      let p = goes_up block in let q = all_go_up others in
      let a = p.0 in let b = p.1 in let x = q.0 in let y = q.1 in let z = q.2 in
      (omega (arith, a, x), omega (arith, b, y), omega (arith, z))

pub last_before : (items : List ℕ) (n : ℕ) → ((i : ℕ) → Contains items i → i < n) → last_of items ≤ n
last_before [] n all = omega arith
last_before (x ∷ xs) n all =
    let there : Contains (x ∷ xs) (last_of (x ∷ xs)) = Contains-get_or (x ∷ xs) (length (x ∷ xs) - 1) 0 (omega arith) in
    let l = all (last_of (x ∷ xs)) there in
    omega (arith, l)

if_some : (b : Bool) (i j : ℕ) → (if b then Some i else None) ≡ Some j → i ≡ j
if_some true i j e = same_Some i j e
if_some false i j e = absurd (not_none e)

module _ (labels : List Label) where
  -- a turn
  module _ (g lo hi k limit : ℕ) (st : State) (room : length st.groups ≡ length labels + 1 + length st.ends) (items : hi ≤ length labels) (copies : k < length st.ends)
      (low : limit ≤ hi) (from : StandFrom (lo + 1) st) (out : IsOutside labels lo hi k (k + 1) g) where
    target_there : (e : End) (i : ℕ) → EndIsWithin (lo + 1) limit e → target labels e ≡ Some i → (lo < i) × (i < hi)
    target_there (end.Start x) i w is = absurd (not_none is)
    target_there (end.ShorthandCase x) i w is = absurd (not_none is)
    target_there (end.Node j) i w is =
        let same : j ≡ i = if_some (is_some_target (slice_get labels j)) j i is in
        let a = w.0 in let b = w.1 in
        (omega (arith, same, a), omega (arith, same, b, low))

    ends_other : (e : End) (m : ℕ) → (m < k) ⊎ (k + 1 ≤ m) → get_or (set st.ends k (Some e)) m None ≡ get_or st.ends m None
    ends_other e m apart = get_or-set_other st.ends k m (Some e) None (λ same. elim apart [ inl l ↦ omega (arith, l, same) | inr l ↦ omega (arith, l, same) ])

    gives_to : (e : End) (o : Option ℕ) → ((i : ℕ) → o ≡ Some i → (lo < i) × (i < hi))
        → Frame labels g lo hi k (k + 1) st (record { groups = give (group_of_augment labels k) o st.groups; ends = set st.ends k (Some e) })
        × StandFrom (lo + 1) (record { groups = give (group_of_augment labels k) o st.groups; ends = set st.ends k (Some e) })
    gives_to e None within = (
      record {
        groups = refl;
        augments = length-set st.ends k (Some e);
        outside = λ x other o. refl;
        entered = [];
        theirs = λ i h. absurd (nothing_stands i h);
        behind = sym (append-nil (members_of st.groups g));
        ends = ends_other e;
      },
      from,
    )
    gives_to e (Some i) within =
        let w = within i refl in let l = w.0 in let h = w.1 in
        let own : ℕ = group_of_augment labels k in
        let other : own ≢ i + 1 = λ same. omega (arith, same, h, items) in
        let is_room : i + 1 < length st.groups = omega (arith, h, items, room) in
        let own_room : own < length st.groups = omega (arith, room, copies) in
        let away : (x : ℕ) → IsOutside labels lo hi k (k + 1) x → members_of (move_items own (i + 1) st.groups) x ≡ members_of st.groups x =
        λ x o. moved_other labels own (i + 1) x st.groups
        (λ same. elim o.1 [ inl p ↦ omega (arith, p, same) | inr p ↦ omega (arith, p, same) ])
        (λ same. elim o.0 [ inl p ↦ omega (arith, p, same, l) | inr p ↦ omega (arith, p, same, h) ]) in (
          record {
            groups = moved_long labels own (i + 1) st.groups;
            augments = length-set st.ends k (Some e);
            outside = λ x ne o. away x o;
            entered = [];
            theirs = λ j there. absurd (nothing_stands j there);
            behind = away g out ∙ sym (append-nil (members_of st.groups g));
            ends = ends_other e;
          },
          moved_stand labels (lo + 1) own (i + 1) st.groups other is_room own_room from,
        )

    settles : (o : Option End) → ((e : End) → o ≡ Some e → EndIsWithin (lo + 1) limit e)
        → Frame labels g lo hi k (k + 1) st (settle labels k o st) × StandFrom (lo + 1) (settle labels k o st)
    settles None within = (still labels g lo hi k (k + 1) st, from)
    settles (Some e) within = gives_to e (target labels e) (λ i is. target_there e i (within e refl) is)

    pub turn_keeps : (start : ℕ) (names : List ℕ)
        → Frame labels g lo hi k (k + 1) st (turn labels k start limit names st) × StandFrom (lo + 1) (turn labels k start limit names st)
    turn_keeps start names = by (is_applied st k)
      where
        o : Option End
        o = path_end labels st.groups limit names (end.Start start)

        by : (b : Bool) → Frame labels g lo hi k (k + 1) st (if b then st else settle labels k (path_end labels st.groups limit names (end.Start start)) st)
            × StandFrom (lo + 1) (if b then st else settle labels k (path_end labels st.groups limit names (end.Start start)) st)
        by true = (still labels g lo hi k (k + 1) st, from)
        by false = settles (path_end labels st.groups limit names (end.Start start))
            (λ e is. end_within labels st.groups (lo + 1) limit from names (end.Start start) e tt is)

  -- what the copies of these augments give is before this number
  abbrev pub AreBefore : (n k own : ℕ) → State → Type 0
  AreBefore n k own st = (j : ℕ) → k ≤ j → j < own → (i : ℕ) → Contains (members_of st.groups (group_of_augment labels j)) i → i < n

  -- the turns of the augments of a uses
  pub turns_keep : (g lo hi c f : ℕ) {m end d e k own : ℕ} (augments : Augments m end d e k own) (st : State) → length st.groups ≡ length labels + 1 + length st.ends
      → hi ≤ length labels → f ≤ length st.ends → c ≤ k → own ≤ f → StandFrom (lo + 1) st → IsOutside labels lo hi c f g → AreBefore hi k own st
      → Frame labels g lo hi c f st (take_turns labels g augments st) × StandFrom (lo + 1) (take_turns labels g augments st)
  turns_keep g lo hi c f no_augments st room items copies ck ko from out before = (still labels g lo hi c f st, from)
  turns_keep g lo hi c f {k = k} {own = own} (augment mid n names block others) st room items copies ck ko from out before =
      let up = all_go_up others in let more = up.2 in
      let limit : ℕ = last_of (members_of st.groups (group_of_augment labels k)) in
      let low : limit ≤ hi = last_before (members_of st.groups (group_of_augment labels k)) hi (before k (omega arith) (omega (arith, more))) in
      let out_one : IsOutside labels lo hi k (k + 1) g = narrower labels lo hi c f lo hi k (k + 1) g (omega arith) (omega arith) ck (omega (arith, more, ko)) out in
      let next : State = copy_turn labels g k names st in
      let one : Frame labels g lo hi k (k + 1) st next × StandFrom (lo + 1) next =
      turn_keeps g lo hi k limit st room items (omega (arith, more, ko, copies)) low from out_one g names in
      let frame = one.0 in
      let long = frame.groups in
      let many = frame.augments in
      let rest = turns_keep g lo hi c f others next (omega (arith, long, many, room)) items (omega (arith, many, copies)) (omega (arith, ck)) ko one.1 out
      (λ j l h i there. before j (omega (arith, l)) h i
      (subst (λ ms. Contains ms i) (frame.outside (group_of_augment labels j)
      (λ same. elim out.1 [ inl p ↦ omega (arith, p, same, l, ck) | inr p ↦ omega (arith, p, same, h, ko) ])
      (inr (omega (arith, items)), inr (omega (arith, l)))) there)) in (
        and_then labels g lo hi c f st next (take_turns labels g others next)
            (wider labels g lo hi c f lo hi k (k + 1) st next (omega arith) (omega arith) ck (omega (arith, more, ko)) frame) rest.0,
        rest.1,
      )

  pub from_less : (n m : ℕ) (st : State) → m ≤ n → StandFrom n st → StandFrom m st
  from_less n m st l from x i there = (let h = from x i there in omega (arith, l, h))

  -- what is said of the items of a block holds of those behind the first
  pub may_behind : (g lo hi c e mid d : ℕ) (st : State) → lo ≤ mid → c ≤ d → MayEnter labels g lo hi c e st → MayEnter labels g mid hi d e st
  may_behind g lo hi c e mid d st l k m = record {
    room = m.room;
    items = m.items;
    copies = m.copies;
    group = m.group;
    outside = narrower labels lo hi c e mid hi d e g l (omega arith) k (omega arith) m.outside;
    from = m.from;
    fresh = λ j a b. m.fresh j (omega (arith, a, k)) b;
    waiting = λ j a b. m.waiting j (omega (arith, a, k)) b;
  }

  -- what may enter the groups of copies
  pub record MayAll (lo hi c e k own : ℕ) (st : State) : Type 0 where
    pub room : length st.groups ≡ length labels + 1 + length st.ends
    pub items : hi ≤ length labels
    pub copies : e ≤ length st.ends
    pub inner : own ≤ c
    pub from : StandFrom hi st
    pub fresh : (j : ℕ) → ((k ≤ j) × (j < own)) ⊎ ((c ≤ j) × (j < e)) → members_of st.groups (group_of_augment labels j) ≡ []
    pub waiting : (j : ℕ) → (c ≤ j) × (j < e) → get_or st.ends j None ≡ None

  pub record AllKept (g lo hi c e k own : ℕ) (old new : State) : Type 0 where
    pub frame : Frame labels g lo hi k e old new
    pub from : StandFrom lo new
    pub before : AreBefore hi k own new
    pub gap : (j : ℕ) → own ≤ j → j < c → members_of new.groups (group_of_augment labels j) ≡ members_of old.groups (group_of_augment labels j)
    pub gap_ends : (j : ℕ) → j < c → get_or new.ends j None ≡ get_or old.ends j None

  mutual
    -- the items of a block: the frame
    pub block_keeps : (g : ℕ) {lo hi c e : ℕ} (block : Block lo hi c e) (st : State) → MayEnter labels g lo hi c e st
        → Frame labels g lo hi c e st (enter_block labels g block st) × StandFrom lo (enter_block labels g block st)
    block_keeps g {lo = lo} {hi = hi} {c = c} {e = e} nothing st m = (still labels g lo hi c e st, m.from)
    block_keeps g {lo = lo} {hi = hi} {c = c} {e = e} (item mid d below behind) st m =
        let up = goes_up below in let lm = up.0 in let cd = up.1 in
        let up' = goes_up behind in let mh = up'.0 in let de = up'.1 in
        let st1 : State = enter_block labels g behind st in
        let one : Frame labels g mid hi d e st st1 × StandFrom mid st1 =
        block_keeps g behind st (may_behind g lo hi c e mid d st (omega (arith, lm)) cd m) in
        let f1 = one.0 in
        let long1 = f1.groups in let many1 = f1.augments in
        let room = m.room in let items = m.items in let copies = m.copies in let group = m.group in
        let st2 : State = enter_block labels (lo + 1) below st1 in
        let two : Frame labels (lo + 1) (lo + 1) mid c d st1 st2 × StandFrom (lo + 1) st2 =
        block_keeps (lo + 1) below st1 (record {
          room = omega (arith, room, long1, many1);
          items = omega (arith, items, mh);
          copies = omega (arith, copies, de, many1);
          group = omega (arith, items, lm, mh, room, long1);
          outside = (inl (omega arith), inl (omega (arith, items, lm, mh)));
          from = one.1;
          fresh = λ j a b. f1.outside (group_of_augment labels j)
              (λ same. elim m.outside.1 [ inl p ↦ omega (arith, p, same, a) | inr p ↦ omega (arith, p, same, b, de) ])
              (inr (omega (arith, items)), inl (omega (arith, b))) ∙ m.fresh j a (omega (arith, b, de));
          waiting = λ j a b. f1.ends j (inl b) ∙ m.waiting j a (omega (arith, b, de));
        }) in
        let f2 = two.0 in
        let long2 = f2.groups in
        let last : Frame labels g lo hi c e st2 (enter lo g st2) = enters labels g lo hi c e st2 (omega (arith, group, long1, long2)) (omega (arith, lm, mh)) in (
          and_then labels g lo hi c e st st1 (enter lo g st2)
              (wider labels g lo hi c e mid hi d e st st1 (omega (arith, lm)) (omega arith) cd (omega arith) f1)
              (and_then labels g lo hi c e st1 st2 (enter lo g st2)
              (inner labels g (lo + 1) lo hi c e st1 st2
              (λ same. elim m.outside.0 [ inl p ↦ omega (arith, p, same) | inr p ↦ omega (arith, p, same, lm, mh) ]) m.outside
              (λ o. elim o.0 [ inl p ↦ omega (arith, p) | inr p ↦ omega (arith, p, lm, mh) ])
              (wider labels (lo + 1) lo hi c e (lo + 1) mid c d st1 st2 (omega arith) mh (omega arith) de f2)) last),
          enters_from labels g lo st2 (from_less (lo + 1) lo st2 (omega arith) two.1) (omega (arith, group, long1, long2)),
        )
    block_keeps g {lo = lo} {hi = hi} {c = c} {e = f} (uses mid end own d e copies augments behind) st m =
        let up = goes_up copies in let lm = up.0 in let od = up.1 in
        let up' = all_go_up augments in let me = up'.0 in let de = up'.1 in let co = up'.2 in
        let up'' = goes_up behind in let eh = up''.0 in let ef = up''.1 in
        let st1 : State = enter_block labels g behind st in
        let one : Frame labels g end hi e f st st1 × StandFrom end st1 =
        block_keeps g behind st (may_behind g lo hi c f end e st (omega (arith, lm, me)) (omega (arith, co, od, de)) m) in
        let f1 = one.0 in
        let long1 = f1.groups in let many1 = f1.augments in
        let room = m.room in let items = m.items in let many = m.copies in let group = m.group in
        let fresh1 : (j : ℕ) → c ≤ j → j < e → members_of st1.groups (group_of_augment labels j) ≡ [] =
        λ j a b. f1.outside (group_of_augment labels j)
        (λ same. elim m.outside.1 [ inl p ↦ omega (arith, p, same, a) | inr p ↦ omega (arith, p, same, b, ef) ])
        (inr (omega (arith, items)), inl (omega (arith, b))) ∙ m.fresh j a (omega (arith, b, ef)) in
        let waiting1 : (j : ℕ) → c ≤ j → j < e → get_or st1.ends j None ≡ None =
        λ j a b. f1.ends j (inl b) ∙ m.waiting j a (omega (arith, b, ef)) in
        let st2 : State = run_all labels augments st1 in
        let out2 : IsOutside labels mid end c e g = narrower labels lo hi c f mid end c e g (omega (arith, lm)) eh (omega arith) ef m.outside in
        let all : AllKept g mid end d e c own st1 st2 =
        all_keep g augments st1 out2 (record {
          room = omega (arith, room, long1, many1);
          items = omega (arith, items, eh);
          copies = omega (arith, many, ef, many1);
          inner = od;
          from = one.1;
          fresh = λ j w. elim w [ inl p ↦ (let a = p.0 in let b = p.1 in fresh1 j a (omega (arith, b, od, de))) | inr p ↦ (let a = p.0 in let b = p.1 in fresh1 j (omega (arith, a, co, od)) b) ];
          waiting = λ j w. (let a = w.0 in let b = w.1 in waiting1 j (omega (arith, a, co, od)) b);
        }) in
        let f2 = all.frame in
        let long2 = f2.groups in let many2 = f2.augments in
        let st3 : State = enter_block labels g copies st2 in
        let three : Frame labels g (lo + 1) mid own d st2 st3 × StandFrom (lo + 1) st3 =
        block_keeps g copies st2 (record {
          room = omega (arith, room, long1, many1, long2, many2);
          items = omega (arith, items, me, eh);
          copies = omega (arith, many, de, ef, many1, many2);
          group = omega (arith, group, long1, long2);
          outside = narrower labels lo hi c f (lo + 1) mid own d g (omega arith) (omega (arith, me, eh)) co (omega (arith, de, ef)) m.outside;
          from = all.from;
          fresh = λ j a b. all.gap j a b ∙ fresh1 j (omega (arith, a, co)) (omega (arith, b, de));
          waiting = λ j a b. all.gap_ends j b ∙ waiting1 j (omega (arith, a, co)) (omega (arith, b, de));
        }) in
        let f3 = three.0 in
        let long3 = f3.groups in let many3 = f3.augments in
        let st4 : State = take_turns labels g augments st3 in
        let four : Frame labels g lo hi c f st3 st4 × StandFrom (lo + 1) st4 =
        turns_keep g lo hi c f augments st3 (omega (arith, room, long1, many1, long2, many2, long3, many3)) items (omega (arith, many, many1, many2, many3))
        (omega arith) (omega (arith, od, de, ef)) three.1 m.outside
        (λ j l h i there. (let b = all.before j l h i (subst (λ ms. Contains ms i) (f3.outside (group_of_augment labels j)
        (λ same. elim m.outside.1 [ inl p ↦ omega (arith, p, same, l) | inr p ↦ omega (arith, p, same, h, od, de, ef) ])
        (inr (omega (arith, items, me, eh)), inl (omega (arith, h)))) there) in omega (arith, b, eh))) in
        let f4 = four.0 in
        let long4 = f4.groups in (
          and_then labels g lo hi c f st st1 (enter lo g st4)
              (wider labels g lo hi c f end hi e f st st1 (omega (arith, lm, me)) (omega arith) (omega (arith, co, od, de)) (omega arith) f1)
              (and_then labels g lo hi c f st1 st2 (enter lo g st4)
              (wider labels g lo hi c f mid end c e st1 st2 (omega (arith, lm)) eh (omega arith) ef f2)
              (and_then labels g lo hi c f st2 st3 (enter lo g st4)
              (wider labels g lo hi c f (lo + 1) mid own d st2 st3 (omega arith) (omega (arith, me, eh)) co (omega (arith, de, ef)) f3)
              (and_then labels g lo hi c f st3 st4 (enter lo g st4) f4
              (enters labels g lo hi c f st4 (omega (arith, group, long1, long2, long3, long4)) (omega (arith, lm, me, eh)))))),
          enters_from labels g lo st4 (from_less (lo + 1) lo st4 (omega arith) four.1) (omega (arith, group, long1, long2, long3, long4)),
        )

    pub all_keep : (g : ℕ) {lo hi c e k own : ℕ} (augments : Augments lo hi c e k own) (st : State) → IsOutside labels lo hi k e g → MayAll lo hi c e k own st
        → AllKept g lo hi c e k own st (run_all labels augments st)
    all_keep g {lo = lo} {hi = hi} {c = c} {e = e} {k = k} {own = own} no_augments st out m = record {
      frame = still labels g lo hi k e st;
      from = m.from;
      before = λ j l h i there. absurd (omega (arith, l, h));
      gap = λ j a b. refl;
      gap_ends = λ j b. refl;
    }
    all_keep g {lo = lo} {hi = hi} {c = c} {e = e} {k = k} {own = own} (augment mid d names block others) st out m =
        let up = goes_up block in let lm = up.0 in let cd = up.1 in
        let up' = all_go_up others in let mh = up'.0 in let de = up'.1 in let ko = up'.2 in
        let room = m.room in let items = m.items in let many = m.copies in let oc = m.inner in
        let st1 : State = run_all labels others st in
        let rest : AllKept g mid hi d e (k + 1) own st st1 =
        all_keep g others st (narrower labels lo hi k e mid hi (k + 1) e g lm (omega arith) (omega arith) (omega arith) out) (record {
          room = room;
          items = items;
          copies = many;
          inner = omega (arith, oc, cd);
          from = m.from;
          fresh = λ j w. m.fresh j (elim w [ inl p ↦ (let a = p.0 in inl (omega (arith, a), p.1)) | inr p ↦ (let a = p.0 in inr (omega (arith, a, cd), p.1)) ]);
          waiting = λ j w. (let a = w.0 in m.waiting j (omega (arith, a, cd), w.1));
        }) in
        let f1 = rest.frame in
        let long1 = f1.groups in let many1 = f1.augments in
        let st2 : State = enter_block labels (group_of_augment labels k) block st1 in
        let two : Frame labels (group_of_augment labels k) lo mid c d st1 st2 × StandFrom lo st2 =
        block_keeps (group_of_augment labels k) block st1 (record {
          room = omega (arith, room, long1, many1);
          items = omega (arith, items, mh);
          copies = omega (arith, many, de, many1);
          group = omega (arith, room, long1, many, ko, oc, cd, de);
          outside = (inr (omega (arith, items, mh)), inl (omega (arith, ko, oc)));
          from = rest.from;
          fresh = λ j a b. rest.gap j (omega (arith, a, oc)) b ∙ m.fresh j (inr (a, omega (arith, b, de)));
          waiting = λ j a b. rest.gap_ends j b ∙ m.waiting j (a, omega (arith, b, de));
        }) in
        let f2 = two.0 in
        let apart : g ≢ group_of_augment labels k =
        λ same. elim out.1 [ inl p ↦ omega (arith, p, same) | inr p ↦ omega (arith, p, same, ko, oc, cd, de) ] in
        record {
          frame = and_then labels g lo hi k e st st1 st2
              (wider labels g lo hi k e mid hi (k + 1) e st st1 lm (omega arith) (omega arith) (omega arith) f1)
              (inner labels g (group_of_augment labels k) lo hi k e st1 st2 apart out
              (λ o. elim o.1 [ inl p ↦ omega (arith, p) | inr p ↦ omega (arith, p, ko, oc, cd, de) ])
              (wider labels (group_of_augment labels k) lo hi k e lo mid c d st1 st2 (omega arith) mh (omega (arith, ko, oc)) de f2));
          from = two.1;
          before = λ j l h i there. elim (cases_eq j k) [
            | inl same ↦
                let was : members_of st1.groups (group_of_augment labels k) ≡ [] =
                f1.outside (group_of_augment labels k) (λ e. apart (sym e)) (inr (omega (arith, items)), inl (omega arith)) ∙ m.fresh k (inl (omega arith, omega (arith, ko))) in
                let now : members_of st2.groups (group_of_augment labels j) ≡ f2.entered =
                ap (λ (n : ℕ). members_of st2.groups (group_of_augment labels n)) same ∙ f2.behind ∙ ap (λ ms. ms ++ f2.entered) was in
                let w = f2.theirs i (subst (λ ms. Contains ms i) now there) in
                let b = w.1 in omega (arith, b, mh)
            | inr other ↦
                let b = rest.before j (omega (arith, l, other)) h i
                (subst (λ ms. Contains ms i) (f2.outside (group_of_augment labels j) (λ e. omega (arith, e, other))
                (inr (omega (arith, items, mh)), inl (omega (arith, h, oc)))) there) in
                omega (arith, b)
          ];
          gap = λ j a b.
              f2.outside (group_of_augment labels j) (λ e. omega (arith, e, a, ko)) (inr (omega (arith, items, mh)), inl (omega (arith, b)))
              ∙ rest.gap j a (omega (arith, b, cd));
          gap_ends = λ j b. f2.ends j (inl b) ∙ rest.gap_ends j (omega (arith, b, cd));
        }
