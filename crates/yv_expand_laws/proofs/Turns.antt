-- One turn does what it should, so a block shows what it gives.
use Rattle.std.proofs.Common.{inl, inr, ◌≡◌, ◌≢◌, ℕ, ◌+◌, ◌<◌, ◌≤◌, Bool, true, false, if◌then◌else◌, List, [], ◌∷◌, ◌++◌, length, refl, sym, ◌∙◌, ap, subst, arith, Option, Some, None}
use Rattle.std.specs.List.{Contains}
use Rattle.std.specs.Option.{option_and_then, option_map}
use Rattle.std.proofs.lemmas.Bool.{false≢true}
use Rattle.std.proofs.lemmas.List.Elements.{Contains-append_cases, Contains-append_left, Contains-append_right}
use Rattle.yv_expand_rounds.specs.declared.end.End.{End}
use Rattle.yv_expand_rounds.specs.declared.end.End.TheVariants as end
use Rattle.yv_expand_rounds.specs.declared.label.Label.{Label}
use Rattle.yv_expand_rounds.specs.Groups.{Groups, group_of_augment, members_of, move_items}
use Rattle.yv_expand_statements.specs.Kinds.{may_be_target}
use Rattle.yv_expand_rounds.specs.Turns.{State, give, is_some, is_some_target, settle, target, turn}
use Rattle.yv_expand_definition.specs.Nodes.{Forest, Node, join}
use Rattle.yv_expand_laws.specs.Blocks.{Block, enter_block}
use Rattle.yv_expand_laws.specs.Comes.{Comes, HasMarks, Hits, MarksBlock, Misses}
use Rattle.yv_expand_laws.specs.Frames.{MayEnter}
use Rattle.yv_expand_definition.specs.Paths.{Step}
use Rattle.yv_expand_laws.specs.Shows.{Agree, AreLabels, IsWithin, Items, Shows}
use Rattle.yv_expand_laws.specs.Turn.{IsTurn, TurnAdds, TurnMisses}
use Rattle.yv_expand_laws.proofs.FoundItems.{not_none}
use Rattle.yv_expand_laws.proofs.FrameSequences.{moved_other, moved_to}
use Rattle.yv_expand_laws.proofs.Least.{answer_is}
use Rattle.yv_expand_laws.proofs.BlockNodes.{block_shows, less_first}
use Rattle.yv_expand_laws.proofs.StableItems.{ascend_joined, either, or_cases, stands_joined, stands_on}
use Rattle.yv_expand_laws.proofs.PathAgreement.{Hit, finds, hits, not_so, owned, walked}
use Rattle.yv_expand_rounds.specs.Paths.{path_end}

module _ (labels : List Label) (its : Items) (are : AreLabels labels its) (mark : ℕ → Bool) where
  module _ (g lo cur mid k limit : ℕ) (st : State) (m : Forest) (t : IsTurn labels its mark g lo cur mid k limit st) (S : Shows its st.groups g lo cur m) where
    bound : (x : ℕ) → S.owns x ≡ true → x < limit
    bound x h = (let u = (S.bounds x h).1 in let l = t.limit_low in omega (arith, u, l))

    -- where a path leads that begins where the uses stands
    start_is : (n : ℕ) (ns : List ℕ) → path_end labels st.groups limit (n ∷ ns) (end.Start g) ≡ walked labels its are st.groups limit false (n ∷ ns) S.items
    start_is n ns =
        ap (λ o. option_and_then (path_end labels st.groups limit ns) (option_map (λ j. end.Node j) o))
        (answer_is its.given labels n (IsWithin st.groups g lo cur) (members_of st.groups g) S.items limit are.given S.orders (λ i w. w.0)
        (λ i h. elim (t.others i h) [ inl w ↦ inl (h, w) | inr w ↦ inr w.1 ])
        (λ i j h ok past w. (let u = w.1.1 in let l = t.limit_low in less_first its.given j i (t.marks g j w.0 ∙ sym (t.marks g i h)) (omega (arith, u, l, past)))))

    -- the copy wasn't applied yet
    turn_is : (names : List ℕ) → turn labels k g limit names st ≡ settle labels k (path_end labels st.groups limit names (end.Start g)) st
    turn_is names = ap (λ (b : Bool). if b then st else settle labels k (path_end labels st.groups limit names (end.Start g)) st) (ap is_some t.waits)

    settled_is : (names : List ℕ) (o : Option End) → path_end labels st.groups limit names (end.Start g) ≡ o → turn labels k g limit names st ≡ settle labels k o st
    settled_is names o is = turn_is names ∙ ap (λ e. settle labels k e st) is

    target_is : (i : ℕ) → its.is_node i ≡ true → may_be_target (its.node_of i).kind ≡ true → target labels (end.Node i) ≡ Some i
    target_is i is may =
        let a = are.within i is in
        ap (λ (b : Bool). if b then Some i else None) (ap is_some_target a.1 ∙ (ap may_be_target a.2 ∙ may))

    target_may : (i j : ℕ) → target labels (end.Node i) ≡ Some j → its.is_node i ≡ true → may_be_target (its.node_of i).kind ≡ true
    target_may i j is node =
        let a = are.within i node in
        by (may_be_target (its.node_of i).kind) refl (sym (ap (λ (b : Bool). if b then Some i else None) (ap is_some_target a.1 ∙ ap may_be_target a.2)) ∙ is)
      where
        by : (b : Bool) → may_be_target (its.node_of i).kind ≡ b → (if may_be_target (its.node_of i).kind then Some i else None) ≡ Some j → may_be_target (its.node_of i).kind ≡ true
        by true is e = is
        by false is e = absurd (not_none (sym (ap (λ (b : Bool). if b then Some i else None) is) ∙ e))

    -- where it misses nothing moves
    missed : (names : List ℕ) (ss : List Step) → Agree labels its names ss → Misses ss m → (turn labels k g limit names st).groups ≡ st.groups
    missed [] ss agree misses = ap (λ (s : State). s.groups) (turn_is [])
    missed (n ∷ ns) ss agree misses = by (walked labels its are st.groups limit false (n ∷ ns) S.items) refl
      where
        nothing_moves : (e : End) (o : Option ℕ) → target labels e ≡ o → ((i : ℕ) → o ≡ Some i → ⊥) → (settle labels k (Some e) st).groups ≡ st.groups
        nothing_moves e None is no_target = ap (λ p. give (group_of_augment labels k) p st.groups) is
        nothing_moves e (Some i) is no_target = absurd (no_target i refl)

        none_to : (e : End) → walked labels its are st.groups limit false (n ∷ ns) S.items ≡ Some e → (i : ℕ) → target labels e ≡ Some i → ⊥
        none_to (end.Start x) w i is = not_none is
        none_to (end.ShorthandCase x) w i is = not_none is
        none_to (end.Node x) w i is =
            let f = finds labels its are st.groups limit S.stand false ss (n ∷ ns) x agree bound w in
            misses f.target f.below f.there (f.leads, ap (λ (y : Node). may_be_target y.kind) f.is ∙ target_may x i is f.is_node)

        by : (o : Option End) → walked labels its are st.groups limit false (n ∷ ns) S.items ≡ o → (turn labels k g limit (n ∷ ns) st).groups ≡ st.groups
        by None w = ap (λ (s : State). s.groups) (settled_is (n ∷ ns) None (start_is n ns ∙ w))
        by (Some e) w = ap (λ (s : State). s.groups) (settled_is (n ∷ ns) (Some e) (start_is n ns ∙ w)) ∙ nothing_moves e (target labels e) refl (λ i is. none_to e w i is)

    -- where it hits, all of the copy moves to an item of those that are shown
    pub turned_to : (names : List ℕ) (ss : List Step) (below put there : Forest) (node : Node) → Agree labels its names ss → Hits ss m node below put there
        → (i : ℕ) × (S.owns i ≡ true) × (path_end labels st.groups limit names (end.Start g) ≡ Some (end.Node i))
        × ((turn labels k g limit names st).groups ≡ move_items (group_of_augment labels k) (i + 1) st.groups)
    turned_to names ss below put there node agree (leads, may) =
        let h = hits labels its are st.groups limit S.stand false ss names node below put there leads agree bound in
        by names h.item h.has (target_is h.item h.is_node (ap (λ (y : Node). may_be_target y.kind) (sym h.is) ∙ may)) h.walks
      where
        by : (names : List ℕ) (i : ℕ) → S.owns i ≡ true → target labels (end.Node i) ≡ Some i → walked labels its are st.groups limit false names S.items ≡ Some (end.Node i)
            → (i : ℕ) × (S.owns i ≡ true) × (path_end labels st.groups limit names (end.Start g) ≡ Some (end.Node i))
            × ((turn labels k g limit names st).groups ≡ move_items (group_of_augment labels k) (i + 1) st.groups)
        by [] i has is walks = absurd (not_none walks)
        by (n ∷ ns) i has is walks = (
          i,
          has,
          start_is n ns ∙ walks,
          ap (λ (s : State). s.groups) (settled_is (n ∷ ns) (Some (end.Node i)) (start_is n ns ∙ walks)) ∙ ap (λ p. give (group_of_augment labels k) p st.groups) is,
        )

    -- where it hits, what the copy shows moves
    added : (names : List ℕ) (ss : List Step) (b below there : Forest) (node : Node) → Agree labels its names ss → Shows its st.groups (group_of_augment labels k) cur mid b
        → Hits ss m node below (join below b) there → Shows its (turn labels k g limit names st).groups g lo mid there
    added names ss b below there node agree B (leads, may) =
        moves labels (hits labels its are st.groups limit S.stand false ss names node below (join below b) there leads agree bound)
      where
        same_turn : (names : List ℕ) (i : ℕ) → walked labels its are st.groups limit false names S.items ≡ Some (end.Node i) → target labels (end.Node i) ≡ Some i
            → (turn labels k g limit names st).groups ≡ move_items (group_of_augment labels k) (i + 1) st.groups
        same_turn [] i w is = absurd (not_none w)
        same_turn (n ∷ ns) i w is =
            ap (λ (s : State). s.groups) (settled_is (n ∷ ns) (Some (end.Node i)) (start_is n ns ∙ w)) ∙ ap (λ p. give (group_of_augment labels k) p st.groups) is

        moves : (ls : List Label) → Hit labels its are st.groups limit false names S.items S.owns node below (join below b) there
            → Shows its (turn labels k g limit names st).groups g lo mid there
        moves ls h =
            let own : ℕ = group_of_augment labels k in
            let i : ℕ = h.item in
            let new : Groups = move_items own (i + 1) st.groups in
            let within = S.bounds i h.has in
            let il = within.0 in let iu = within.1 in
            let room = t.room in let items = t.items in let copies = t.copies in
            let up = t.up in
            let not_own : own ≢ i + 1 = λ e. omega (arith, e, iu, up, items) in
            let to_room : i + 1 < length st.groups = omega (arith, iu, up, items, room) in
            let at_g : members_of new g ≡ members_of st.groups g = moved_other labels own (i + 1) g st.groups t.apart (t.outside i il iu) in
            let at_i : members_of new (i + 1) ≡ members_of st.groups (i + 1) ++ members_of st.groups own = moved_to labels own (i + 1) st.groups not_own to_room in
            let elsewhere : (x : ℕ) → x < mid → x ≢ i → members_of new (x + 1) ≡ members_of st.groups (x + 1) =
            λ x l other. moved_other labels own (i + 1) (x + 1) st.groups (λ e. omega (arith, e, l, items)) (λ e. other (omega (arith, e))) in
            subst (λ gs. Shows its gs g lo mid there)
            (sym (same_turn names i h.walks (target_is i h.is_node (ap (λ (y : Node). may_be_target y.kind) (sym h.is) ∙ may)))) (record {
              items = S.items;
              owns = either S.owns B.owns;
              bounds = λ j o. elim (or_cases (S.owns j) (B.owns j) o) [
                | inl x ↦ (let w = S.bounds j x in let u = w.1 in (w.0, omega (arith, u, up)))
                | inr x ↦ (let w = B.bounds j x in let l = w.0 in (omega (arith, l, il, iu), w.1))
              ];
              orders = record {
                ascend = S.orders.ascend;
                all = λ j w. (let here : Contains (members_of st.groups g) j = subst (λ ms. Contains ms j) at_g w.0 in
                    S.orders.all j (here, elim (t.others j here) [ inl x ↦ x | inr x ↦ (let l = x.0 in let u = w.1.1 in absurd (omega (arith, l, u))) ]));
                only = λ j x. (let w = S.orders.only j x in let u = w.1.1 in (subst (λ ms. Contains ms j) (sym at_g) w.0, (w.1.0, omega (arith, u, up))));
              };
              stand = h.exchange new B.owns (h.kids ++ B.items)
                  (λ x o. not_so (B.owns x) (λ p. (let u = (S.bounds x o).1 in let l = (B.bounds x p).0 in omega (arith, u, l))))
                  (λ x o other. (let u = (S.bounds x o).1 in elsewhere x (omega (arith, u, up)) other))
                  (record {
                    ascend = ascend_joined h.orders.ascend B.orders.ascend
                        (λ a c x y. (let u = (S.bounds a (h.within a (owned a h.stand x))).1 in let w = B.orders.only c y in let l = w.1.0 in
                        less_first its.given a c
                        (t.marks (i + 1) a (h.orders.only a x) ∙ (t.below_mark (i + 1) (omega (arith, iu, up, items)) ∙ (sym t.own_mark ∙ sym (t.marks own c w.0))))
                        (omega (arith, u, l))));
                    all = λ a x. elim (Contains-append_cases (members_of st.groups (i + 1)) (members_of st.groups own) a (subst (λ ms. Contains ms a) at_i x)) [
                      | inl y ↦ Contains-append_left h.kids B.items a (h.orders.all a y)
                      | inr y ↦ Contains-append_right h.kids B.items a (B.orders.all a (y, t.own a y))
                    ];
                    only = λ a x. subst (λ ms. Contains ms a) (sym at_i) (elim (Contains-append_cases h.kids B.items a x) [
                      | inl y ↦ Contains-append_left (members_of st.groups (i + 1)) (members_of st.groups own) a (h.orders.only a y)
                      | inr y ↦ Contains-append_right (members_of st.groups (i + 1)) (members_of st.groups own) a (B.orders.only a y).0
                    ]);
                  })
                  (stands_joined (λ x o. not_so (B.owns x) (λ p. (let u = (S.bounds x (h.within x o)).1 in let l = (B.bounds x p).0 in omega (arith, u, l))))
                  (stands_on st.groups new (λ x o. (let u = (S.bounds x (h.within x o)).1 in elsewhere x (omega (arith, u, up)) (λ e. false≢true (sym h.not_low ∙ (ap h.low (sym e) ∙ o))))) h.stand)
                  (stands_on st.groups new (λ x o. (let w = B.bounds x o in let l = w.0 in elsewhere x w.1 (λ e. omega (arith, e, l, iu)))) B.stand));
            })

  pub turn_adds : TurnAdds labels its mark
  turn_adds g lo cur mid k limit names ss st m b below there node t agree S B hit = added g lo cur mid k limit st m t S names ss b below there node agree B hit

  pub turn_misses : TurnMisses labels its mark
  turn_misses g lo cur mid k limit names ss st m t agree S misses = missed g lo cur mid k limit st m t S names ss agree misses

-- a block that has entered shows what it gives
pub block_shows_all : (labels : List Label) (its : Items) (mark : ℕ → Bool) → AreLabels labels its → ((x : ℕ) → x ≤ length labels → mark x ≡ false)
    → (g : ℕ) (st : State) {lo hi c e : ℕ} {block : Block lo hi c e} {f : Forest} → Comes labels its _ _ _ _ block f → MarksBlock labels its.given mark g block
    → MayEnter labels g lo hi c e st → ((x : ℕ) → lo < x → x ≤ hi → members_of st.groups x ≡ []) → HasMarks its.given mark st
    → Shows its (enter_block labels g block st).groups g lo hi f
block_shows_all labels its mark are below g st comes marked may empty has =
    block_shows labels its mark below (turn_adds labels its are mark) (turn_misses labels its are mark) g st comes marked may empty has
