-- A block that has entered shows what it gives, where one turn does what it should (`TurnAdds`,
-- `TurnMisses`).
use Rattle.std.proofs.Common.{◌⊎◌, inl, inr, ◌≡◌, ◌≢◌, ℕ, ◌+◌, ◌-◌, ◌<◌, ◌≤◌, ◌==◌, ◌||◌, ◌&&◌, nat_lt, Bool, true, false, if◌then◌else◌, List, [], ◌∷◌, ◌++◌, length, length-set, get_or, refl, sym, ◌∙◌, ap, subst, arith, eqb-true, eq-eqb, None}
use Rattle.std.specs.List.{Contains}
use Rattle.std.proofs.lemmas.Bool.{cases_lt, false≢true, lt-ltb}
use Rattle.std.proofs.lemmas.List.{get_or-set_same, get_or-set_other}
use Rattle.std.proofs.lemmas.List.Elements.{Contains-append_cases, Contains-append_left, Contains-append_right, Contains-get_or, Contains-push, Contains-push_cases}
use Rattle.yv_expand_rounds.specs.declared.label.Label.{Label}
use Rattle.yv_expand_rounds.specs.Groups.{Groups, group_of_augment, members_of}
use Rattle.yv_expand_rounds.specs.Placements.{enter}
use Rattle.yv_expand_rounds.specs.Turns.{State, turn}
use Rattle.yv_expand_augments.specs.Augmentation.{last_of}
use Rattle.yv_expand_definition.specs.Nodes.{Forest, node, join}
use Rattle.yv_expand_laws.specs.Blocks.{Augments, Block, item, nothing, enter_block, run_all, take_turns, uses}
use Rattle.yv_expand_laws.specs.Comes.{Adds, AllMarked, Comes, HasMarks, MarksBlock}
use Rattle.yv_expand_laws.specs.Comes.Comes.{no_items as none_come, of_uses, one_node}
use Rattle.yv_expand_laws.specs.Comes.Adds.{adds, misses, none_left}
use Rattle.yv_expand_laws.specs.Frames.{Frame, IsOutside, MayEnter, StandFrom}
use Rattle.yv_expand_laws.specs.Order.{comes_before}
use Rattle.yv_expand_laws.specs.Shows.{Items, Shows}
use Rattle.yv_expand_laws.specs.Shows.Ascend.{no_items, one_more}
use Rattle.yv_expand_laws.specs.Shows.Stand.{no_items as none_stand, not_a_node, shown_node}
use Rattle.yv_expand_laws.specs.Turn.{IsTurn, TurnAdds, TurnMisses}
use Rattle.yv_expand_laws.proofs.FoundItems.{there_first, there_later}
use Rattle.yv_expand_laws.proofs.FrameSequences.{narrower, nothing_stands}
use Rattle.yv_expand_laws.proofs.BlockFrame.{AllKept, MayAll, all_go_up, all_keep, block_keeps, goes_up, last_before, may_behind, turn_keeps, turns_keep}
use Rattle.yv_expand_laws.proofs.GroupMarks.{all_marks, run_marks, turn_marks, turned_marks}
use Rattle.yv_expand_laws.proofs.StableItems.{ascend_joined, either, or_cases, or_right, shows_on, stands_joined, stands_on, stands_wider}

pub first_or : (x : ℕ) (xs : List ℕ) (i : ℕ) → Contains (x ∷ xs) i → (x ≡ i) ⊎ Contains xs i
first_or x xs i h = elim (Contains-append_cases (x ∷ []) xs i h) [
  | inl a ↦ elim (Contains-push_cases [] x i a) [ inl empty ↦ absurd (nothing_stands i empty) | inr is ↦ inl is ]
  | inr b ↦ inr b
]

-- of two that have one mark the lesser comes first
pub less_first : (given : ℕ → Bool) (i j : ℕ) → given i ≡ given j → i < j → comes_before given i j ≡ true
less_first given i j same l = by (given i) (given j) same
  where
    less : nat_lt i j ≡ true
    less = lt-ltb i j l

    by : (a b : Bool) → a ≡ b → (if a then b && nat_lt i j else b || nat_lt i j) ≡ true
    by true true e = lt-ltb i j l
    by false false e = lt-ltb i j l
    by true false e = absurd (false≢true (sym e))
    by false true e = refl

module _ (labels : List Label) (its : Items) (mark : ℕ → Bool) (below_mark : (x : ℕ) → x ≤ length labels → mark x ≡ false) where
  -- what a frame leaves is shown as before
  pub shows_kept : (g a b c e lo hi : ℕ) (old new : State) (f : Forest) → hi ≤ length labels → (hi ≤ a) ⊎ (b ≤ lo)
      → ((i : ℕ) → lo ≤ i → i < hi → i + 1 ≢ g) → Frame labels g a b c e old new → Shows its old.groups g lo hi f → Shows its new.groups g lo hi f
  shows_kept g a b c e lo hi old new f items apart other frame =
      shows_on old.groups new.groups g lo hi
      (λ i l h. frame.outside (i + 1) (other i l h)
      (elim apart [ inl p ↦ inl (omega (arith, p, h)) | inr p ↦ inr (omega (arith, p, l)) ], inl (omega (arith, h, items))))
      (λ i l h there. elim (Contains-append_cases (members_of old.groups g) frame.entered i (subst (λ ms. Contains ms i) frame.behind there)) [
        | inl was ↦ was
        | inr new ↦ (let w = frame.theirs i new in let x = w.0 in let y = w.1 in
            absurd (elim apart [ inl p ↦ omega (arith, p, x, h) | inr p ↦ omega (arith, p, y, l) ]))
      ])
      (λ i l h was. subst (λ ms. Contains ms i) (sym frame.behind) (Contains-append_left (members_of old.groups g) frame.entered i was))

  -- in another group
  pub shows_away : (g own a b c e lo hi : ℕ) (old new : State) (f : Forest) → hi ≤ length labels → (hi ≤ a) ⊎ (b ≤ lo)
      → ((i : ℕ) → lo ≤ i → i < hi → i + 1 ≢ g) → own ≢ g → IsOutside labels a b c e own → Frame labels g a b c e old new
      → Shows its old.groups own lo hi f → Shows its new.groups own lo hi f
  shows_away g own a b c e lo hi old new f items apart other ne out frame =
      let same : members_of new.groups own ≡ members_of old.groups own = frame.outside own ne out in
      shows_on old.groups new.groups own lo hi
      (λ i l h. frame.outside (i + 1) (other i l h)
      (elim apart [ inl p ↦ inl (omega (arith, p, h)) | inr p ↦ inr (omega (arith, p, l)) ], inl (omega (arith, h, items))))
      (λ i l h there. subst (λ ms. Contains ms i) same there) (λ i l h was. subst (λ ms. Contains ms i) (sym same) was)

  -- nothing is in the groups below these
  abbrev pub AreEmpty : (lo hi : ℕ) → State → Type 0
  AreEmpty lo hi st = (x : ℕ) → lo < x → x ≤ hi → members_of st.groups x ≡ []

  -- one node in front of others
  node_shown : (g lo mid hi : ℕ) (st : State) (b f : Forest) → lo < mid → mid ≤ hi → g < length st.groups → ((i : ℕ) → lo ≤ i → i < hi → i + 1 ≢ g)
      → its.is_node lo ≡ true → its.given lo ≡ mark g → HasMarks its.given mark st → StandFrom (lo + 1) st
      → ((i : ℕ) → Contains (members_of st.groups g) i → i < hi → mid ≤ i)
      → ((i : ℕ) → Contains (members_of st.groups (lo + 1)) i → i < mid) → Shows its st.groups (lo + 1) (lo + 1) mid b → Shows its st.groups g mid hi f
      → Shows its (enter lo g st).groups g lo hi (node (its.node_of lo) b f)
  node_shown g lo mid hi st b f lm mh room other is_node is has from behind below B F =
      let now : members_of (enter lo g st).groups g ≡ members_of st.groups g ++ lo ∷ [] = get_or-set_same st.groups g (members_of st.groups g ++ lo ∷ []) [] room in
      let same : (x : ℕ) → x ≢ g → members_of (enter lo g st).groups x ≡ members_of st.groups x = λ x ne. get_or-set_other st.groups g x (members_of st.groups g ++ lo ∷ []) [] ne in
      record {
        items = lo ∷ F.items;
        owns = λ x. (x == lo) || (B.owns x || F.owns x);
        bounds = λ i h. elim (or_cases (i == lo) (B.owns i || F.owns i) h) [
          | inl e ↦ (let same : i ≡ lo = eqb-true i lo e in (omega (arith, same), omega (arith, same, lm, mh)))
          | inr e ↦ elim (or_cases (B.owns i) (F.owns i) e) [
            | inl x ↦ (let w = B.bounds i x in let l = w.0 in let h = w.1 in (omega (arith, l), omega (arith, h, mh)))
            | inr x ↦ (let w = F.bounds i x in let l = w.0 in let h = w.1 in (omega (arith, l, lm), h))
          ]
        ];
        orders = record {
          ascend = one_more (λ j h. (let w = F.orders.only j h in let l = w.1.0 in less_first its.given lo j (is ∙ sym (has g j w.0)) (omega (arith, l, lm)))) F.orders.ascend;
          all = λ i w. elim (Contains-push_cases (members_of st.groups g) lo i (subst (λ ms. Contains ms i) now w.0)) [
            | inl was ↦ there_later lo i F.items (F.orders.all i (was, (behind i was w.1.1, w.1.1)))
            | inr it ↦ subst (λ n. Contains (lo ∷ F.items) n) it (there_first lo F.items)
          ];
          only = λ i h. elim (first_or lo F.items i h) [
            | inl it ↦ (
              subst (λ ms. Contains ms i) (sym now) (subst (λ n. Contains (members_of st.groups g ++ lo ∷ []) n) it (Contains-push (members_of st.groups g) lo)),
              (omega (arith, it), omega (arith, it, lm, mh)),
            )
            | inr was ↦ (let w = F.orders.only i was in let l = w.1.0 in
                (subst (λ ms. Contains ms i) (sym now) (Contains-append_left (members_of st.groups g) (lo ∷ []) i w.0), (omega (arith, l, lm), w.1.1)))
          ];
        };
        stand = shown_node B.owns F.owns is_node (record {
          has = is_first;
          below_in = λ x h. second_in x (B.owns x) (F.owns x) (x == lo) (inl h);
          behind_in = λ x h. second_in x (B.owns x) (F.owns x) (x == lo) (inr h);
          apart = λ x h. not_so (F.owns x) (λ y. (let p = (B.bounds x h).1 in let q = (F.bounds x y).0 in omega (arith, p, q)));
          not_below = not_so (B.owns lo) (λ y. (let p = (B.bounds lo y).0 in omega (arith, p)));
          not_behind = not_so (F.owns lo) (λ y. (let p = (F.bounds lo y).0 in omega (arith, p, lm)));
        }) (record {
          ascend = B.orders.ascend;
          all = λ i there. (let was : Contains (members_of st.groups (lo + 1)) i = subst (λ ms. Contains ms i) (same (lo + 1) (other lo (omega arith) (omega (arith, lm, mh)))) there in
              B.orders.all i (was, (from (lo + 1) i was, below i was)));
          only = λ i h. subst (λ ms. Contains ms i) (sym (same (lo + 1) (other lo (omega arith) (omega (arith, lm, mh))))) (B.orders.only i h).0;
        })
            (stands_on st.groups (enter lo g st).groups (λ i h. (let w = B.bounds i h in let l = w.0 in let u = w.1 in same (i + 1) (other i (omega (arith, l)) (omega (arith, u, mh))))) B.stand)
            (stands_on st.groups (enter lo g st).groups (λ i h. (let w = F.bounds i h in let l = w.0 in same (i + 1) (other i (omega (arith, l, lm)) w.1))) F.stand);
      }
    where
      is_first : ((lo == lo) || (B.owns lo || F.owns lo)) ≡ true
      is_first = ap (λ (t : Bool). t || (B.owns lo || F.owns lo)) (eq-eqb lo lo refl)

      second_in : (x : ℕ) (p q r : Bool) → (p ≡ true) ⊎ (q ≡ true) → (r || (p || q)) ≡ true
      second_in x p q true h = refl
      second_in x true q false h = refl
      second_in x false true false h = refl
      second_in x false false false (inl h) = h
      second_in x false false false (inr h) = h

      not_so : (t : Bool) → (t ≡ true → ⊥) → t ≡ false
      not_so true h = absurd (h refl)
      not_so false h = refl

  -- a uses in front of others: what it gives stands in its group, and it shows nothing itself
  uses_shown : (g lo end hi : ℕ) (st : State) (given f : Forest) → lo < end → end ≤ hi → g < length st.groups → ((i : ℕ) → lo ≤ i → i < hi → i + 1 ≢ g)
      → its.is_node lo ≡ false → its.given lo ≡ mark g → HasMarks its.given mark st → StandFrom (lo + 1) st
      → Shows its st.groups g (lo + 1) end given → Shows its st.groups g end hi f → Shows its (enter lo g st).groups g lo hi (join given f)
  uses_shown g lo end hi st given f le eh room other no_node is has from G F =
      let now : members_of (enter lo g st).groups g ≡ members_of st.groups g ++ lo ∷ [] = get_or-set_same st.groups g (members_of st.groups g ++ lo ∷ []) [] room in
      let same : (x : ℕ) → x ≢ g → members_of (enter lo g st).groups x ≡ members_of st.groups x = λ x ne. get_or-set_other st.groups g x (members_of st.groups g ++ lo ∷ []) [] ne in
      record {
        items = lo ∷ (G.items ++ F.items);
        owns = λ x. (x == lo) || either G.owns F.owns x;
        bounds = λ i h. elim (or_cases (i == lo) (either G.owns F.owns i) h) [
          | inl e ↦ (let same : i ≡ lo = eqb-true i lo e in (omega (arith, same), omega (arith, same, le, eh)))
          | inr e ↦ elim (or_cases (G.owns i) (F.owns i) e) [
            | inl x ↦ (let w = G.bounds i x in let l = w.0 in let u = w.1 in (omega (arith, l), omega (arith, u, eh)))
            | inr x ↦ (let w = F.bounds i x in let l = w.0 in let u = w.1 in (omega (arith, l, le), u))
          ]
        ];
        orders = record {
          ascend = one_more
              (λ j h. elim (Contains-append_cases G.items F.items j h) [
                | inl a ↦ (let w = G.orders.only j a in let l = w.1.0 in less_first its.given lo j (is ∙ sym (has g j w.0)) (omega (arith, l)))
                | inr b ↦ (let w = F.orders.only j b in let l = w.1.0 in less_first its.given lo j (is ∙ sym (has g j w.0)) (omega (arith, l, le)))
              ])
              (ascend_joined G.orders.ascend F.orders.ascend
              (λ i j a b. (let v = G.orders.only i a in let w = F.orders.only j b in let x = v.1.1 in let y = w.1.0 in
              less_first its.given i j (has g i v.0 ∙ sym (has g j w.0)) (omega (arith, x, y)))));
          all = λ i w. elim (Contains-push_cases (members_of st.groups g) lo i (subst (λ ms. Contains ms i) now w.0)) [
            | inl was ↦ there_later lo i (G.items ++ F.items) (elim (cases_lt i end) [
              | inl l ↦ Contains-append_left G.items F.items i (G.orders.all i (was, (from g i was, l)))
              | inr l ↦ Contains-append_right G.items F.items i (F.orders.all i (was, (l, w.1.1)))
            ])
            | inr it ↦ subst (λ n. Contains (lo ∷ (G.items ++ F.items)) n) it (there_first lo (G.items ++ F.items))
          ];
          only = λ i h. elim (first_or lo (G.items ++ F.items) i h) [
            | inl it ↦ (
              subst (λ ms. Contains ms i) (sym now) (subst (λ n. Contains (members_of st.groups g ++ lo ∷ []) n) it (Contains-push (members_of st.groups g) lo)),
              (omega (arith, it), omega (arith, it, le, eh)),
            )
            | inr was ↦ elim (Contains-append_cases G.items F.items i was) [
              | inl a ↦ (let w = G.orders.only i a in let l = w.1.0 in let u = w.1.1 in
                  (subst (λ ms. Contains ms i) (sym now) (Contains-append_left (members_of st.groups g) (lo ∷ []) i w.0), (omega (arith, l), omega (arith, u, eh))))
              | inr b ↦ (let w = F.orders.only i b in let l = w.1.0 in
                  (subst (λ ms. Contains ms i) (sym now) (Contains-append_left (members_of st.groups g) (lo ∷ []) i w.0), (omega (arith, l, le), w.1.1)))
            ]
          ];
        };
        stand = not_a_node (ap (λ (t : Bool). t || either G.owns F.owns lo) (eq-eqb lo lo refl)) no_node (stands_wider (λ x h. or_right (x == lo) (either G.owns F.owns x) h) (stands_joined (λ x h. not_so (F.owns x) (λ y. (let p = (G.bounds x h).1 in let q = (F.bounds x y).0 in omega (arith, p, q))))
            (stands_on st.groups (enter lo g st).groups (λ i h. (let w = G.bounds i h in let l = w.0 in let u = w.1 in same (i + 1) (other i (omega (arith, l)) (omega (arith, u, eh))))) G.stand)
            (stands_on st.groups (enter lo g st).groups (λ i h. (let w = F.bounds i h in let l = w.0 in same (i + 1) (other i (omega (arith, l, le)) w.1))) F.stand)));
      }
    where
      not_so : (t : Bool) → (t ≡ true → ⊥) → t ≡ false
      not_so true h = absurd (h refl)
      not_so false h = refl

  -- a copy of an augment has these items, and shows this
  pub record IsCopy (k lo mid : ℕ) (st : State) : Type 0 where
    pub whole : (i : ℕ) → Contains (members_of st.groups (group_of_augment labels k)) i → (lo ≤ i) × (i < mid)
    pub here : lo < mid → Contains (members_of st.groups (group_of_augment labels k)) lo

  -- what copies of augments show that have no turn yet
  abbrev pub CopiesShow : {lo hi c e k own : ℕ} {augments : Augments lo hi c e k own} {m last : Forest} → Adds labels its _ _ _ _ _ _ augments m last → State → Type 0
  CopiesShow none_left st = Unit {0}
  CopiesShow (adds {lo = lo} {k = k} {mid = mid} {b = b} ss agree l comes hits later) st =
      IsCopy k lo mid st × Shows its st.groups (group_of_augment labels k) lo mid b × CopiesShow later st
  CopiesShow (misses {lo = lo} {k = k} {mid = mid} ss agree l missed later) st = IsCopy k lo mid st × CopiesShow later st

  copy_on : (k lo mid : ℕ) (old new : State) → members_of new.groups (group_of_augment labels k) ≡ members_of old.groups (group_of_augment labels k)
      → IsCopy k lo mid old → IsCopy k lo mid new
  copy_on k lo mid old new same c = record {
    whole = λ i x. c.whole i (subst (λ ms. Contains ms i) same x);
    here = λ l. subst (λ ms. Contains ms lo) (sym same) (c.here l);
  }

  -- the same in groups that are the same
  pub copies_on : (old new : State) {lo hi c e k own : ℕ} {augments : Augments lo hi c e k own} {m last : Forest} (all : Adds labels its _ _ _ _ _ _ augments m last)
      → ((i : ℕ) → lo ≤ i → i < hi → members_of new.groups (i + 1) ≡ members_of old.groups (i + 1))
      → ((j : ℕ) → k ≤ j → j < own → members_of new.groups (group_of_augment labels j) ≡ members_of old.groups (group_of_augment labels j))
      → CopiesShow all old → CopiesShow all new
  copies_on old new none_left same copies show = tt
  copies_on old new (adds {lo = lo} {k = k} {mid = mid} {block = block} {others = others} ss agree l comes hits later) same copies (copy, shows, rest) =
      let up' = all_go_up others in let mh = up'.0 in let ko = up'.2 in
      let here : members_of new.groups (group_of_augment labels k) ≡ members_of old.groups (group_of_augment labels k) = copies k (omega arith) (omega (arith, ko)) in (
        copy_on k lo mid old new here copy,
        shows_on old.groups new.groups (group_of_augment labels k) lo mid (λ i x h. same i x (omega (arith, h, mh)))
            (λ i x h y. subst (λ ms. Contains ms i) here y) (λ i x h y. subst (λ ms. Contains ms i) (sym here) y) shows,
        copies_on old new later (λ i x h. same i (omega (arith, x, l)) h) (λ j x h. copies j (omega (arith, x)) h) rest,
      )
  copies_on old new (misses {lo = lo} {k = k} {mid = mid} {others = others} ss agree l missed later) same copies (copy, rest) =
      let up' = all_go_up others in let ko = up'.2 in (
        copy_on k lo mid old new (copies k (omega arith) (omega (arith, ko))) copy,
        copies_on old new later (λ i x h. same i (omega (arith, x, l)) h) (λ j x h. copies j (omega (arith, x)) h) rest,
      )

  last_from : (xs : List ℕ) (n x : ℕ) → Contains xs x → ((i : ℕ) → Contains xs i → n ≤ i) → n ≤ last_of xs
  last_from [] n x there all = absurd (nothing_stands x there)
  last_from (y ∷ ys) n x there all = all (last_of (y ∷ ys)) (Contains-get_or (y ∷ ys) (length (y ∷ ys) - 1) 0 (omega arith))

  -- when turns of the copies from k on are due, of items from `cur` to before `end`: what is there
  -- so far is from `lo + 1` on
  pub record AreDue (g lo hi cur end k own : ℕ) (st : State) : Type 0 where
    pub room : length st.groups ≡ length labels + 1 + length st.ends
    pub items : end ≤ length labels
    pub copies : own ≤ length st.ends
    pub begins : lo < cur
    pub ends : end ≤ hi
    pub out : IsOutside labels lo hi k own g
    pub others : (i : ℕ) → Contains (members_of st.groups g) i → ((lo + 1 ≤ i) × (i < cur)) ⊎ (end ≤ i)
    pub marks : HasMarks its.given mark st
    pub from : StandFrom (lo + 1) st
    pub waits : (j : ℕ) → k ≤ j → j < own → get_or st.ends j None ≡ None

  pub g_not_below : (g lo hi k own i : ℕ) → IsOutside labels lo hi k own g → lo ≤ i → i < hi → g ≢ i + 1
  g_not_below g lo hi k own i out l h same = elim out.0 [ inl p ↦ omega (arith, p, l, same) | inr p ↦ omega (arith, p, h, same) ]

  pub g_not_copy : (g lo hi k own j : ℕ) → IsOutside labels lo hi k own g → k ≤ j → j < own → g ≢ group_of_augment labels j
  g_not_copy g lo hi k own j out l h same = elim out.1 [ inl p ↦ omega (arith, p, l, same) | inr p ↦ omega (arith, p, h, same) ]

  limit_at : ℕ → State → ℕ
  limit_at k st = last_of (members_of st.groups (group_of_augment labels k))

  -- one turn is as it should be
  pub one_turn : (g lo hi cur mid end k own : ℕ) (st : State) → AreDue g lo hi cur end k own st → IsCopy k cur mid st → cur < mid → mid ≤ end → k < own
      → mark (group_of_augment labels k) ≡ false
      → IsTurn labels its mark g (lo + 1) cur mid k (last_of (members_of st.groups (group_of_augment labels k))) st
      × (last_of (members_of st.groups (group_of_augment labels k)) ≤ mid)
  one_turn g lo hi cur mid end k own st due copy cm me ko own_mark =
      let room = due.room in let items = due.items in let copies = due.copies in let begins = due.begins in let ends = due.ends in
      let limit : ℕ = last_of (members_of st.groups (group_of_augment labels k)) in
      let high : limit ≤ mid = last_before (members_of st.groups (group_of_augment labels k)) mid (λ i x. (copy.whole i x).1) in
      let low : cur ≤ limit = last_from (members_of st.groups (group_of_augment labels k)) cur cur (copy.here cm) (λ i x. (copy.whole i x).0) in (
        record {
          room = room;
          items = omega (arith, items, me);
          copies = omega (arith, ko, copies);
          up = omega (arith, cm);
          limit_low = low;
          outside = λ i x y. g_not_below g lo hi k own i due.out (omega (arith, x)) (omega (arith, y, cm, me, ends));
          apart = g_not_copy g lo hi k own k due.out (omega arith) ko;
          others = λ i x. elim (due.others i x) [ inl w ↦ inl w | inr w ↦ inr (omega (arith, w, me), omega (arith, w, me, high)) ];
          own = copy.whole;
          marks = due.marks;
          own_mark = own_mark;
          below_mark = below_mark;
          waits = due.waits k (omega arith) ko;
        },
        high,
      )

  -- and then the turns of those behind are due
  pub still_due : (g lo hi cur mid end k own limit : ℕ) (names : List ℕ) (st : State) → AreDue g lo hi cur end k own st → cur < mid → mid ≤ end → k < own
      → mark (group_of_augment labels k) ≡ false → limit ≤ mid
      → Frame labels g lo mid k (k + 1) st (turn labels k g limit names st)
      × AreDue g lo hi mid end (k + 1) own (turn labels k g limit names st)
  still_due g lo hi cur mid end k own limit names st due cm me ko own_mark high =
      let room = due.room in let items = due.items in let copies = due.copies in let begins = due.begins in let ends = due.ends in
      let next : State = turn labels k g limit names st in
      let keeps : Frame labels g lo mid k (k + 1) st next × StandFrom (lo + 1) next =
      turn_keeps labels g lo mid k limit st room (omega (arith, items, me)) (omega (arith, ko, copies)) high due.from
      (narrower labels lo hi k own lo mid k (k + 1) g (omega arith) (omega (arith, me, ends)) (omega arith) (omega (arith, ko)) due.out) g names in
      let frame = keeps.0 in
      let long = frame.groups in let many = frame.augments in (
        frame,
        record {
          room = omega (arith, room, long, many);
          items = items;
          copies = omega (arith, many, copies);
          begins = omega (arith, begins, cm);
          ends = ends;
          out = narrower labels lo hi k own lo hi (k + 1) own g (omega arith) (omega arith) (omega arith) (omega arith) due.out;
          others = λ i x. elim (Contains-append_cases (members_of st.groups g) frame.entered i (subst (λ ms. Contains ms i) frame.behind x)) [
            | inl was ↦ elim (due.others i was) [ inl w ↦ (let u = w.1 in inl (w.0, omega (arith, u, cm))) | inr w ↦ inr w ]
            | inr new ↦ inl (keeps.1 g i x, (frame.theirs i new).1)
          ];
          marks = turn_marks its.given mark labels below_mark k g limit names st own_mark due.marks;
          from = keeps.1;
          waits = λ j x y. frame.ends j (inr x) ∙ due.waits j (omega (arith, x)) y;
        },
      )

  -- where nothing stands between
  pub shows_stretched : (groups : Groups) (g lo hi more : ℕ) (f : Forest) → hi ≤ more → ((i : ℕ) → Contains (members_of groups g) i → i < more → i < hi)
      → Shows its groups g lo hi f → Shows its groups g lo more f
  shows_stretched groups g lo hi more f l between s = record {
    items = s.items;
    owns = s.owns;
    bounds = λ i h. (let w = s.bounds i h in let u = w.1 in (w.0, omega (arith, u, l)));
    orders = record {
      ascend = s.orders.ascend;
      all = λ i w. s.orders.all i (w.0, (w.1.0, between i w.0 w.1.1));
      only = λ i h. (let w = s.orders.only i h in let u = w.1.1 in (w.0, (w.1.0, omega (arith, u, l))));
    };
    stand = s.stand;
  }

  -- what may enter after others
  pub may_below : (g lo hi c e mid d : ℕ) (st st1 : State) → lo + 1 ≤ mid → mid ≤ hi → d ≤ e → MayEnter labels g lo hi c e st → Frame labels g mid hi d e st st1
      → StandFrom mid st1 → MayEnter labels (lo + 1) (lo + 1) mid c d st1
  may_below g lo hi c e mid d st st1 lm mh de m f1 from1 =
      let long1 = f1.groups in let many1 = f1.augments in
      let room = m.room in let items = m.items in let copies = m.copies in
      record {
        room = omega (arith, room, long1, many1);
        items = omega (arith, items, mh);
        copies = omega (arith, copies, de, many1);
        group = omega (arith, items, lm, mh, room, long1);
        outside = (inl (omega arith), inl (omega (arith, items, lm, mh)));
        from = from1;
        fresh = λ j a b. f1.outside (group_of_augment labels j)
            (λ same. elim m.outside.1 [ inl p ↦ omega (arith, p, same, a) | inr p ↦ omega (arith, p, same, b, de) ])
            (inr (omega (arith, items)), inl (omega (arith, b))) ∙ m.fresh j a (omega (arith, b, de));
        waiting = λ j a b. f1.ends j (inl b) ∙ m.waiting j a (omega (arith, b, de));
      }

  pub may_all : (g lo hi c f mid end own d e : ℕ) (st st1 : State) → lo + 1 ≤ mid → mid ≤ end → end ≤ hi → c ≤ own → own ≤ d → d ≤ e → e ≤ f → MayEnter labels g lo hi c f st
      → Frame labels g end hi e f st st1 → StandFrom end st1 → MayAll labels mid end d e c own st1
  may_all g lo hi c f mid end own d e st st1 lm me eh co od de ef m f1 from1 =
      let long1 = f1.groups in let many1 = f1.augments in
      let room = m.room in let items = m.items in let many = m.copies in
      let fresh1 : (j : ℕ) → c ≤ j → j < e → members_of st1.groups (group_of_augment labels j) ≡ [] =
      λ j a b. f1.outside (group_of_augment labels j)
      (λ same. elim m.outside.1 [ inl p ↦ omega (arith, p, same, a) | inr p ↦ omega (arith, p, same, b, ef) ])
      (inr (omega (arith, items)), inl (omega (arith, b))) ∙ m.fresh j a (omega (arith, b, ef)) in
      record {
        room = omega (arith, room, long1, many1);
        items = omega (arith, items, eh);
        copies = omega (arith, many, ef, many1);
        inner = od;
        from = from1;
        fresh = λ j w. elim w [ inl p ↦ (let a = p.0 in let b = p.1 in fresh1 j a (omega (arith, b, od, de))) | inr p ↦ (let a = p.0 in let b = p.1 in fresh1 j (omega (arith, a, co, od)) b) ];
        waiting = λ j w. (let a = w.0 in let b = w.1 in f1.ends j (inl b) ∙ m.waiting j (omega (arith, a, co, od)) (omega (arith, b, ef)));
      }

  pub may_copies : (g lo hi c f mid end own d e : ℕ) (st st1 st2 : State) → lo + 1 ≤ mid → mid ≤ end → end ≤ hi → c ≤ own → own ≤ d → d ≤ e → e ≤ f → MayEnter labels g lo hi c f st
      → Frame labels g end hi e f st st1 → AllKept labels g mid end d e c own st1 st2 → MayEnter labels g (lo + 1) mid own d st2
  may_copies g lo hi c f mid end own d e st st1 st2 lm me eh co od de ef m f1 all =
      let long1 = f1.groups in let many1 = f1.augments in
      let f2 = all.frame in
      let long2 = f2.groups in let many2 = f2.augments in
      let room = m.room in let items = m.items in let many = m.copies in let group = m.group in
      record {
        room = omega (arith, room, long1, many1, long2, many2);
        items = omega (arith, items, me, eh);
        copies = omega (arith, many, de, ef, many1, many2);
        group = omega (arith, group, long1, long2);
        outside = narrower labels lo hi c f (lo + 1) mid own d g (omega arith) (omega (arith, me, eh)) co (omega (arith, de, ef)) m.outside;
        from = all.from;
        fresh = λ j a b. all.gap j a b ∙ (f1.outside (group_of_augment labels j)
            (λ same. elim m.outside.1 [ inl p ↦ omega (arith, p, same, a, co) | inr p ↦ omega (arith, p, same, b, de, ef) ])
            (inr (omega (arith, items)), inl (omega (arith, b, de))) ∙ m.fresh j (omega (arith, a, co)) (omega (arith, b, de, ef)));
        waiting = λ j a b. all.gap_ends j b ∙ (f1.ends j (inl (omega (arith, b, de))) ∙ m.waiting j (omega (arith, a, co)) (omega (arith, b, de, ef)));
      }

  pub may_others : (lo hi c e k own mid d : ℕ) (st : State) → c ≤ d → MayAll labels lo hi c e k own st → MayAll labels mid hi d e (k + 1) own st
  may_others lo hi c e k own mid d st cd m = (let oc = m.inner in record {
    room = m.room;
    items = m.items;
    copies = m.copies;
    inner = omega (arith, oc, cd);
    from = m.from;
    fresh = λ j w. m.fresh j (elim w [ inl p ↦ (let a = p.0 in inl (omega (arith, a), p.1)) | inr p ↦ (let a = p.0 in inr (omega (arith, a, cd), p.1)) ]);
    waiting = λ j w. (let a = w.0 in m.waiting j (omega (arith, a, cd), w.1));
  })

  pub may_block : (g lo hi c e k own mid d : ℕ) (st st1 : State) → mid ≤ hi → c ≤ d → d ≤ e → k + 1 ≤ own → MayAll labels lo hi c e k own st
      → AllKept labels g mid hi d e (k + 1) own st st1 → MayEnter labels (group_of_augment labels k) lo mid c d st1
  may_block g lo hi c e k own mid d st st1 mh cd de ko m rest =
      let room = m.room in let items = m.items in let many = m.copies in let oc = m.inner in
      let f1 = rest.frame in
      let long1 = f1.groups in let many1 = f1.augments in
      record {
        room = omega (arith, room, long1, many1);
        items = omega (arith, items, mh);
        copies = omega (arith, many, de, many1);
        group = omega (arith, room, long1, many, ko, oc, cd, de);
        outside = (inr (omega (arith, items, mh)), inl (omega (arith, ko, oc)));
        from = rest.from;
        fresh = λ j a b. rest.gap j (omega (arith, a, oc)) b ∙ m.fresh j (inr (a, omega (arith, b, de)));
        waiting = λ j a b. rest.gap_ends j b ∙ m.waiting j (a, omega (arith, b, de));
      }

  -- the first item of a block stands in its group
  block_here : (g : ℕ) {lo hi c e : ℕ} (block : Block lo hi c e) (st : State) → lo < hi → g < length (enter_block labels g block st).groups
      → Contains (members_of (enter_block labels g block st).groups g) lo
  block_here g {lo = lo} nothing st l room = absurd (omega (arith, l))
  block_here g {lo = lo} (item mid d below behind) st l room = here g lo (enter_block labels (lo + 1) below (enter_block labels g behind st)) room
    where
      here : (g i : ℕ) (st : State) → g < length (enter i g st).groups → Contains (members_of (enter i g st).groups g) i
      here g i st room =
          let long : length (enter i g st).groups ≡ length st.groups = length-set st.groups g (members_of st.groups g ++ i ∷ []) in
          subst (λ ms. Contains ms i) (sym (get_or-set_same st.groups g (members_of st.groups g ++ i ∷ []) [] (omega (arith, room, long)))) (Contains-push (members_of st.groups g) i)
  block_here g {lo = lo} (uses mid end own d e copies augments behind) st l room =
      here g lo (take_turns labels g augments (enter_block labels g copies (run_all labels augments (enter_block labels g behind st)))) room
    where
      here : (g i : ℕ) (st : State) → g < length (enter i g st).groups → Contains (members_of (enter i g st).groups g) i
      here g i st room =
          let long : length (enter i g st).groups ≡ length st.groups = length-set st.groups g (members_of st.groups g ++ i ∷ []) in
          subst (λ ms. Contains ms i) (sym (get_or-set_same st.groups g (members_of st.groups g ++ i ∷ []) [] (omega (arith, room, long)))) (Contains-push (members_of st.groups g) i)

  -- where a copy's group was empty, its block is all that stands there
  pub is_copy : (k c e : ℕ) {lo mid : ℕ} (block : Block lo mid c e) (st : State) → MayEnter labels (group_of_augment labels k) lo mid c e st
      → members_of st.groups (group_of_augment labels k) ≡ [] → IsCopy k lo mid (enter_block labels (group_of_augment labels k) block st)
  is_copy k c e {lo = lo} {mid = mid} block st m empty =
      let f = (block_keeps labels (group_of_augment labels k) block st m).0 in
      let group = m.group in let long = f.groups in
      record {
        whole = λ i x. f.theirs i (subst (λ ms. Contains ms i) (f.behind ∙ ap (λ ms. ms ++ f.entered) empty) x);
        here = λ l. block_here (group_of_augment labels k) block st l (omega (arith, group, long));
      }

  module _ (turn_adds : TurnAdds labels its mark) (turn_misses : TurnMisses labels its mark) where
    -- the turns of a uses, in order
    pub turns_show : (g lo hi : ℕ) (st : State) {cur end d e k own : ℕ} {augments : Augments cur end d e k own} {m given : Forest}
        (all : Adds labels its _ _ _ _ _ _ augments m given) → AllMarked labels its.given mark augments → AreDue g lo hi cur end k own st
        → CopiesShow all st → Shows its st.groups g (lo + 1) cur m → Shows its (take_turns labels g augments st).groups g (lo + 1) end given
    turns_show g lo hi st none_left marked due show S = S
    turns_show g lo hi st {cur = cur} {end = end} {k = k} {own = own} {m = m}
        (adds {mid = mid} {names = names} {others = others} {b = b} {below = below} {there = there} {target = target} ss agree l comes hits later)
        (own_mark, in', marked) due (copy, shows, more) S =
        let up' = all_go_up others in let mh = up'.0 in let ko = up'.2 in
        let items = due.items in let ends = due.ends in let begins = due.begins in
        let is = one_turn g lo hi cur mid end k own st due copy l mh (omega (arith, ko)) own_mark in
        let limit : ℕ = last_of (members_of st.groups (group_of_augment labels k)) in
        let next : State = turn labels k g limit names st in
        let now : Shows its next.groups g (lo + 1) mid there =
        turn_adds g (lo + 1) cur mid k limit names ss st m b below there target is.0 agree S shows hits in
        let due_then = still_due g lo hi cur mid end k own limit names st due l mh (omega (arith, ko)) own_mark is.1 in
        let frame = due_then.0 in
        turns_show g lo hi next later marked due_then.1
        (copies_on st next later
        (λ i x y. frame.outside (i + 1) (λ e. g_not_below g lo hi k own i due.out (omega (arith, x, l, begins)) (omega (arith, y, ends)) (sym e))
        (inr (omega (arith, x)), inl (omega (arith, y, items))))
        (λ j x y. frame.outside (group_of_augment labels j) (λ e. g_not_copy g lo hi k own j due.out (omega (arith, x)) y (sym e))
        (inr (omega (arith, items, mh)), inr (omega (arith, x)))) more)
        now
    turns_show g lo hi st {cur = cur} {end = end} {k = k} {own = own} {m = m} (misses {mid = mid} {names = names} {others = others} ss agree l missed later)
        (own_mark, in', marked) due (copy, more) S =
        let up' = all_go_up others in let mh = up'.0 in let ko = up'.2 in
        let items = due.items in let ends = due.ends in let begins = due.begins in
        let is = one_turn g lo hi cur mid end k own st due copy l mh (omega (arith, ko)) own_mark in
        let limit : ℕ = last_of (members_of st.groups (group_of_augment labels k)) in
        let next : State = turn labels k g limit names st in
        let same : next.groups ≡ st.groups = turn_misses g (lo + 1) cur mid k limit names ss st m is.0 agree S missed in
        let due_then = still_due g lo hi cur mid end k own limit names st due l mh (omega (arith, ko)) own_mark is.1 in
        turns_show g lo hi next later marked due_then.1
        (copies_on st next later (λ i x y. ap (λ gs. members_of gs (i + 1)) same) (λ j x y. ap (λ gs. members_of gs (group_of_augment labels j)) same) more)
        (shows_stretched next.groups g (lo + 1) cur mid m (omega (arith, l))
        (λ i x h. elim (due.others i (subst (λ gs. Contains (members_of gs g) i) same x)) [ inl w ↦ w.1 | inr w ↦ absurd (omega (arith, w, h, mh)) ])
        (subst (λ gs. Shows its gs g (lo + 1) cur m) (sym same) S))

    mutual
      -- a block that has entered shows what it gives
      pub block_shows : (g : ℕ) (st : State) {lo hi c e : ℕ} {block : Block lo hi c e} {f : Forest} (comes : Comes labels its _ _ _ _ block f) → MarksBlock labels its.given mark g block
          → MayEnter labels g lo hi c e st → AreEmpty lo hi st → HasMarks its.given mark st → Shows its (enter_block labels g block st).groups g lo hi f
      block_shows g st none_come marked m empty has = record {
        items = [];
        owns = λ x. false;
        bounds = λ i h. absurd (false≢true h);
        orders = record {
          ascend = no_items;
          all = λ i w. (let l = w.1.0 in let h = w.1.1 in absurd (omega (arith, l, h)));
          only = λ i h. absurd (nothing_stands i h);
        };
        stand = none_stand;
      }
      block_shows g st {lo = lo} {hi = hi} {c = c} {e = e} (one_node {mid = mid} {d = d} {below = below} {behind = behind} {b = b} {f = f} is_node B F) (is, marks_b, marks_f) m empty has =
          let up = goes_up below in let lm = up.0 in let cd = up.1 in
          let up' = goes_up behind in let mh = up'.0 in let de = up'.1 in
          let items = m.items in let room = m.room in let group = m.group in
          let st1 : State = enter_block labels g behind st in
          let m1 : MayEnter labels g mid hi d e st = may_behind labels g lo hi c e mid d st (omega (arith, lm)) cd m in
          let one = block_keeps labels g behind st m1 in
          let f1 = one.0 in
          let not_g : (x : ℕ) → lo < x → x ≤ hi → x ≢ g = λ x l h same. elim m.outside.0 [ inl p ↦ omega (arith, p, l, same) | inr p ↦ omega (arith, p, h, same) ] in
          let st2 : State = enter_block labels (lo + 1) below st1 in
          let m2 : MayEnter labels (lo + 1) (lo + 1) mid c d st1 = may_below g lo hi c e mid d st st1 lm mh de m f1 one.1 in
          let two = block_keeps labels (lo + 1) below st1 m2 in
          let f2 = two.0 in
          let has1 : HasMarks its.given mark st1 = run_marks its.given mark labels below_mark g behind st marks_f has in
          let has2 : HasMarks its.given mark st2 = run_marks its.given mark labels below_mark (lo + 1) below st1 marks_b has1 in
          let shows_f : Shows its st1.groups g mid hi f = block_shows g st F marks_f m1 (λ x l h. empty x (omega (arith, l, lm)) h) has in
          let empty1 : (x : ℕ) → lo < x → x ≤ mid → members_of st1.groups x ≡ [] =
          λ x l h. f1.outside x (not_g x l (omega (arith, h, mh))) (inl h, inl (omega (arith, h, mh, items))) ∙ empty x l (omega (arith, h, mh)) in
          let shows_b : Shows its st2.groups (lo + 1) (lo + 1) mid b = block_shows (lo + 1) st1 B marks_b m2 (λ x l h. empty1 x (omega (arith, l)) h) has1 in
          let away : IsOutside labels (lo + 1) mid c d g = narrower labels lo hi c e (lo + 1) mid c d g (omega arith) mh (omega arith) de m.outside in
          let shows_f2 : Shows its st2.groups g mid hi f =
          shows_away (lo + 1) g (lo + 1) mid c d mid hi st1 st2 f items (inr (omega arith)) (λ i l h same. omega (arith, same, l, lm))
          (λ same. not_g (lo + 1) (omega arith) (omega (arith, lm, mh)) (sym same)) away f2 shows_f in
          let long1 = f1.groups in let long2 = f2.groups in
          node_shown g lo mid hi st2 b f (omega (arith, lm)) mh (omega (arith, group, long1, long2)) (λ i l h. not_g (i + 1) (omega (arith, l)) (omega (arith, h)))
          is_node is has2 two.1
          (λ i there h. one.1 g i (subst (λ ms. Contains ms i) (f2.outside g (λ same. not_g (lo + 1) (omega arith) (omega (arith, lm, mh)) (sym same)) away) there))
          (λ i there. (f2.theirs i (subst (λ ms. Contains ms i) (f2.behind ∙ ap (λ ms. ms ++ f2.entered) (empty1 (lo + 1) (omega arith) lm)) there)).1)
          shows_b shows_f2
      block_shows g st {lo = lo} {hi = hi} {c = c} {e = f} (of_uses {mid = mid} {end = end} {own = own} {d = d} {e = e} {copies = copies} {augments = augments} {behind = behind}
          {m = made} {given = gives} {others = last} no_node M G F) (is, marks_m, marks_g, marks_f) m empty has =
          let up = goes_up copies in let lm = up.0 in let od = up.1 in
          let up' = all_go_up augments in let me = up'.0 in let de = up'.1 in let co = up'.2 in
          let up'' = goes_up behind in let eh = up''.0 in let ef = up''.1 in
          let items = m.items in let room = m.room in let group = m.group in let many = m.copies in
          let not_g : (x : ℕ) → lo < x → x ≤ hi → x ≢ g = λ x l h same. elim m.outside.0 [ inl p ↦ omega (arith, p, l, same) | inr p ↦ omega (arith, p, h, same) ] in
          let st1 : State = enter_block labels g behind st in
          let m1 : MayEnter labels g end hi e f st = may_behind labels g lo hi c f end e st (omega (arith, lm, me)) (omega (arith, co, od, de)) m in
          let one = block_keeps labels g behind st m1 in
          let f1 = one.0 in
          let st2 : State = run_all labels augments st1 in
          let m2 : MayAll labels mid end d e c own st1 = may_all g lo hi c f mid end own d e st st1 lm me eh co od de ef m f1 one.1 in
          let out2 : IsOutside labels mid end c e g = narrower labels lo hi c f mid end c e g (omega (arith, lm)) eh (omega arith) ef m.outside in
          let all = all_keep labels g augments st1 out2 m2 in
          let f2 = all.frame in
          let quiet = (all_keep labels (lo + 1) augments st1 (inl lm, inl (omega (arith, items, lm, me, eh))) m2).frame in
          let st3 : State = enter_block labels g copies st2 in
          let m3 : MayEnter labels g (lo + 1) mid own d st2 = may_copies g lo hi c f mid end own d e st st1 st2 lm me eh co od de ef m f1 all in
          let three = block_keeps labels g copies st2 m3 in
          let f3 = three.0 in
          let st4 : State = take_turns labels g augments st3 in
          let long1 = f1.groups in let long2 = f2.groups in let long3 = f3.groups in
          let many1 = f1.augments in let many2 = f2.augments in let many3 = f3.augments in
          let has1 : HasMarks its.given mark st1 = run_marks its.given mark labels below_mark g behind st marks_f has in
          let has2 : HasMarks its.given mark st2 = all_marks its.given mark labels below_mark augments st1 marks_g has1 in
          let has3 : HasMarks its.given mark st3 = run_marks its.given mark labels below_mark g copies st2 marks_m has2 in
          let has4 : HasMarks its.given mark st4 = turned_marks its.given mark labels below_mark g augments st3 marks_g has3 in
          let empty1 : (x : ℕ) → lo < x → x ≤ end → members_of st1.groups x ≡ [] =
          λ x l h. f1.outside x (not_g x l (omega (arith, h, eh))) (inl h, inl (omega (arith, h, eh, items))) ∙ empty x l (omega (arith, h, eh)) in
          let empty2 : (x : ℕ) → lo < x → x ≤ mid → members_of st2.groups x ≡ [] =
          λ x l h. f2.outside x (not_g x l (omega (arith, h, me, eh))) (inl h, inl (omega (arith, h, me, eh, items))) ∙ empty1 x l (omega (arith, h, me)) in
          let shows_f : Shows its st1.groups g end hi last = block_shows g st F marks_f m1 (λ x l h. empty x (omega (arith, l, lm, me)) h) has in
          let shows_c : CopiesShow G st2 = all_show g st1 G marks_g out2 m2 (λ x l h. empty1 x (omega (arith, l, lm)) h) has1 in
          let shows_m : Shows its st3.groups g (lo + 1) mid made = block_shows g st2 M marks_m m3 (λ x l h. empty2 x (omega (arith, l)) h) has2 in
          let not_copy : (j : ℕ) → c ≤ j → j < f → group_of_augment labels j ≢ g = λ j l h same. elim m.outside.1 [ inl p ↦ omega (arith, p, l, same) | inr p ↦ omega (arith, p, h, same) ] in
          let shows_c3 : CopiesShow G st3 =
          copies_on st2 st3 G
          (λ i x y. f3.outside (i + 1) (not_g (i + 1) (omega (arith, x, lm)) (omega (arith, y, eh))) (inr (omega (arith, x)), inl (omega (arith, y, eh, items))))
          (λ j x y. f3.outside (group_of_augment labels j) (not_copy j x (omega (arith, y, od, de, ef))) (inr (omega (arith, items, me, eh)), inl (omega (arith, y)))) shows_c in
          let four = turns_keep labels g lo end c e augments st3 (omega (arith, room, long1, many1, long2, many2, long3, many3)) (omega (arith, items, eh))
          (omega (arith, many, ef, many1, many2, many3)) (omega arith) (omega (arith, od, de)) three.1
          (narrower labels lo hi c f lo end c e g (omega arith) eh (omega arith) ef m.outside)
          (λ j l h i there. all.before j l h i (subst (λ ms. Contains ms i) (f3.outside (group_of_augment labels j) (not_copy j l (omega (arith, h, od, de, ef)))
          (inr (omega (arith, items, me, eh)), inl (omega (arith, h)))) there)) in
          let f4 = four.0 in
          let long4 = f4.groups in
          let other : (i : ℕ) → end ≤ i → i < hi → i + 1 ≢ g = λ i l h. not_g (i + 1) (omega (arith, l, lm, me)) (omega (arith, h)) in
          let shows_f2 : Shows its st2.groups g end hi last = shows_kept g mid end c e end hi st1 st2 last items (inr (omega arith)) other f2 shows_f in
          let shows_f3 : Shows its st3.groups g end hi last = shows_kept g (lo + 1) mid own d end hi st2 st3 last items (inr me) other f3 shows_f2 in
          let shows_f4 : Shows its st4.groups g end hi last = shows_kept g lo end c e end hi st3 st4 last items (inr (omega arith)) other f4 shows_f3 in
          let shows_g : Shows its st4.groups g (lo + 1) end gives =
          turns_show g lo hi st3 G marks_g (record {
            room = omega (arith, room, long1, many1, long2, many2, long3, many3);
            items = omega (arith, items, eh);
            copies = omega (arith, many, od, de, ef, many1, many2, many3);
            begins = omega (arith, lm);
            ends = eh;
            out = narrower labels lo hi c f lo hi c own g (omega arith) (omega arith) (omega arith) (omega (arith, od, de, ef)) m.outside;
            others = λ i x. elim (Contains-append_cases (members_of st2.groups g) f3.entered i (subst (λ ms. Contains ms i) f3.behind x)) [
              | inl was ↦ inr (one.1 g i (subst (λ ms. Contains ms i) (quiet.outside g (λ same. not_g (lo + 1) (omega arith) (omega (arith, lm, me, eh)) (sym same)) out2) was))
              | inr new ↦ inl (f3.theirs i new)
            ];
            marks = has3;
            from = three.1;
            waits = λ j x y. f3.ends j (inl y) ∙ (all.gap_ends j (omega (arith, y, od)) ∙ (f1.ends j (inl (omega (arith, y, od, de))) ∙ m.waiting j x (omega (arith, y, od, de, ef))));
          }) shows_c3 shows_m in
          uses_shown g lo end hi st4 gives last (omega (arith, lm, me)) eh (omega (arith, group, long1, long2, long3, long4))
          (λ i l h. not_g (i + 1) (omega (arith, l)) (omega (arith, h))) no_node is has4 four.1 shows_g shows_f4

      pub all_show : (g : ℕ) (st : State) {lo hi c e k own : ℕ} {augments : Augments lo hi c e k own} {made last : Forest} (all : Adds labels its _ _ _ _ _ _ augments made last)
          → AllMarked labels its.given mark augments → IsOutside labels lo hi k e g → MayAll labels lo hi c e k own st → AreEmpty lo hi st → HasMarks its.given mark st
          → CopiesShow all (run_all labels augments st)
      all_show g st none_left marked out m empty has = tt
      all_show g st {lo = lo} {hi = hi} {c = c} {e = e} {k = k} {own = own} (adds {mid = mid} {d = d} {block = block} {others = others} {b = b} ss agree l comes hits later)
          (own_mark, marks_b, marks_o) out m empty has =
          let up = goes_up block in let lm = up.0 in let cd = up.1 in
          let up' = all_go_up others in let mh = up'.0 in let de = up'.1 in let ko = up'.2 in
          let items = m.items in let oc = m.inner in
          let st1 : State = run_all labels others st in
          let m1 : MayAll labels mid hi d e (k + 1) own st = may_others lo hi c e k own mid d st cd m in
          let out1 : IsOutside labels mid hi (k + 1) e g = narrower labels lo hi k e mid hi (k + 1) e g lm (omega arith) (omega arith) (omega arith) out in
          let rest = all_keep labels g others st out1 m1 in
          let f1 = rest.frame in
          let st2 : State = enter_block labels (group_of_augment labels k) block st1 in
          let m2 : MayEnter labels (group_of_augment labels k) lo mid c d st1 = may_block g lo hi c e k own mid d st st1 mh cd de ko m rest in
          let f2 = (block_keeps labels (group_of_augment labels k) block st1 m2).0 in
          let was : members_of st1.groups (group_of_augment labels k) ≡ [] =
          f1.outside (group_of_augment labels k) (λ same. elim out.1 [ inl p ↦ omega (arith, p, same) | inr p ↦ omega (arith, p, same, ko, oc, cd, de) ])
          (inr (omega (arith, items)), inl (omega arith)) ∙ m.fresh k (inl (omega arith, omega (arith, ko))) in
          let has1 : HasMarks its.given mark st1 = all_marks its.given mark labels below_mark others st marks_o has in
          let shows_later : CopiesShow later st1 = all_show g st later marks_o out1 m1 (λ x a h. empty x (omega (arith, a, lm)) h) has in
          let still_later : CopiesShow later st2 =
          copies_on st1 st2 later
          (λ i x y. f2.outside (i + 1) (λ same. omega (arith, same, y, items)) (inr (omega (arith, x)), inl (omega (arith, y, items))))
          (λ j x y. f2.outside (group_of_augment labels j) (λ same. omega (arith, same, x)) (inr (omega (arith, items, mh)), inl (omega (arith, y, oc)))) shows_later in
          let shows_b : Shows its st2.groups (group_of_augment labels k) lo mid b =
          block_shows (group_of_augment labels k) st1 comes marks_b m2
          (λ x a h. f1.outside x (λ same. elim out.0 [ inl p ↦ omega (arith, p, a, same) | inr p ↦ omega (arith, p, h, mh, same) ]) (inl h, inl (omega (arith, h, mh, items)))
          ∙ empty x a (omega (arith, h, mh))) has1 in
          (is_copy k c d block st1 m2 was, shows_b, still_later)
      all_show g st {lo = lo} {hi = hi} {c = c} {e = e} {k = k} {own = own} (misses {mid = mid} {d = d} {block = block} {others = others} ss agree l missed later)
          (own_mark, marks_b, marks_o) out m empty has =
          let up = goes_up block in let lm = up.0 in let cd = up.1 in
          let up' = all_go_up others in let mh = up'.0 in let de = up'.1 in let ko = up'.2 in
          let items = m.items in let oc = m.inner in
          let st1 : State = run_all labels others st in
          let m1 : MayAll labels mid hi d e (k + 1) own st = may_others lo hi c e k own mid d st cd m in
          let out1 : IsOutside labels mid hi (k + 1) e g = narrower labels lo hi k e mid hi (k + 1) e g lm (omega arith) (omega arith) (omega arith) out in
          let rest = all_keep labels g others st out1 m1 in
          let f1 = rest.frame in
          let st2 : State = enter_block labels (group_of_augment labels k) block st1 in
          let m2 : MayEnter labels (group_of_augment labels k) lo mid c d st1 = may_block g lo hi c e k own mid d st st1 mh cd de ko m rest in
          let f2 = (block_keeps labels (group_of_augment labels k) block st1 m2).0 in
          let was : members_of st1.groups (group_of_augment labels k) ≡ [] =
          f1.outside (group_of_augment labels k) (λ same. elim out.1 [ inl p ↦ omega (arith, p, same) | inr p ↦ omega (arith, p, same, ko, oc, cd, de) ])
          (inr (omega (arith, items)), inl (omega arith)) ∙ m.fresh k (inl (omega arith, omega (arith, ko))) in
          let has1 : HasMarks its.given mark st1 = all_marks its.given mark labels below_mark others st marks_o has in
          let shows_later : CopiesShow later st1 = all_show g st later marks_o out1 m1 (λ x a h. empty x (omega (arith, a, lm)) h) has in
          let still_later : CopiesShow later st2 =
          copies_on st1 st2 later
          (λ i x y. f2.outside (i + 1) (λ same. omega (arith, same, y, items)) (inr (omega (arith, x)), inl (omega (arith, y, items))))
          (λ j x y. f2.outside (group_of_augment labels j) (λ same. omega (arith, same, x)) (inr (omega (arith, items, mh)), inl (omega (arith, y, oc)))) shows_later in
          (is_copy k c d block st1 m2 was, still_later)
