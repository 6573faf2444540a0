-- The turn of an augment of a module.
use Rattle.std.proofs.Common.{◌⊎◌, inl, inr, ◌≡◌, ◌≢◌, ℕ, ◌+◌, ◌<◌, ◌≤◌, ◌&&◌, ◌||◌, nat_lt, Bool, true, false, if◌then◌else◌, List, [], ◌∷◌, ◌++◌, length, refl, sym, ◌∙◌, ap, subst, arith, Option, Some, None}
use Rattle.std.specs.List.{Contains}
use Rattle.std.specs.Option.{is_some, option_and_then, option_map}
use Rattle.std.proofs.lemmas.Bool.{cases_lt, false≢true, lt-ltb, ltb-true, ltb-false}
use Rattle.std.proofs.lemmas.List.Elements.{Contains-append_cases, Contains-append_left, Contains-append_right}
use Rattle.yv_expand_rounds.specs.declared.end.End.TheVariants as end
use Rattle.yv_expand_rounds.specs.declared.label.Label.{Label}
use Rattle.yv_expand_rounds.specs.Groups.{Groups, group_of_augment, members_of, move_items}
use Rattle.yv_expand_statements.specs.Kinds.{may_be_target}
use Rattle.yv_expand_rounds.specs.Turns as turns
use Rattle.yv_expand_rounds.specs.Turns.{State, give, is_some_target, settle, target, turn}
use Rattle.yv_expand_definition.specs.Nodes.{Node, insert, is_later}
use Rattle.yv_expand_laws.specs.Order.{comes_before}
use Rattle.yv_expand_laws.specs.Rounds.{AreSources, RoundAdds}
use Rattle.yv_expand_laws.specs.Shows.{AreLabels, IsWithin, Items, Shows, Stand}
use Rattle.yv_expand_laws.proofs.FoundItems.{not_none}
use Rattle.yv_expand_laws.proofs.FrameSequences.{moved_other, moved_to}
use Rattle.yv_expand_laws.proofs.InsertionOrder.{Merged, merged}
use Rattle.yv_expand_laws.proofs.Least.{answer_is}
use Rattle.yv_expand_laws.proofs.StableItems.{either, or_cases, stands_on}
use Rattle.yv_expand_laws.proofs.PathAgreement.{Hit, hits, not_so, walked}
use Rattle.yv_expand_rounds.specs.Paths.{path_end}

module _ (labels : List Label) (its : Items) (are : AreLabels labels its) (giver_of : ℕ → Option ℕ) where
  later_than : (a : ℕ) (o : Option ℕ) → is_later a o ≡ true → (p : ℕ) × (o ≡ Some p) × (a < p)
  later_than a None h = absurd (false≢true h)
  later_than a (Some p) h = (p, refl, ltb-true a p h)

  module _ (givers : AreSources its giver_of) (a : ℕ) where
    marked : (i p : ℕ) → giver_of i ≡ Some p → its.given i ≡ true
    marked i p e = givers.marks i ∙ ap is_some e

    both_given : (i j : ℕ) → its.given i ≡ true → its.given j ≡ true → i < j → comes_before its.given i j ≡ true
    both_given i j h k l = ap (λ (b : Bool). if b then its.given j && nat_lt i j else its.given j || nat_lt i j) h ∙ (ap (λ (b : Bool). b && nat_lt i j) k ∙ lt-ltb i j l)

    own_first : (j i : ℕ) → its.given j ≡ false → its.given i ≡ true → comes_before its.given j i ≡ true
    own_first j i h k = ap (λ (b : Bool). if b then its.given i && nat_lt j i else its.given i || nat_lt j i) h ∙ ap (λ (b : Bool). b || nat_lt j i) k

    grows : (i j : ℕ) → comes_before its.given i j ≡ true → is_later a (giver_of i) ≡ true → is_later a (giver_of j) ≡ true
    grows i j before late =
        let l = later_than a (giver_of i) late in
        let e : (its.given j && nat_lt i j) ≡ true = sym (ap (λ (b : Bool). if b then its.given j && nat_lt i j else its.given j || nat_lt i j) (marked i l.0 l.1)) ∙ before in
        by l.0 l.1 l.2 (giver_of j) refl (its.given j) refl e
      where
        by : (p : ℕ) → giver_of i ≡ Some p → a < p → (o : Option ℕ) → giver_of j ≡ o → (b : Bool) → its.given j ≡ b → (b && nat_lt i j) ≡ true → is_later a o ≡ true
        by p at less o is false h e = absurd (false≢true e)
        by p at less None is true h e = absurd (false≢true (sym (givers.marks j ∙ ap is_some is) ∙ h))
        by p at less (Some q) is true h e = elim (cases_lt q p) [
          | inl lt ↦ (let x = givers.apart j i q p is at lt in let y = ltb-true i j e in absurd (omega (arith, x, y)))
          | inr le ↦ lt-ltb a q (omega (arith, le, less))
        ]

    before : (i j : ℕ) → giver_of i ≡ Some a → is_later a (giver_of j) ≡ true → comes_before its.given i j ≡ true
    before i j at late = (let l = later_than a (giver_of j) late in both_given i j (marked i a at) (marked j l.0 l.1) (givers.apart i j a l.0 at l.1 l.2))

    behind : (i j : ℕ) → giver_of i ≡ Some a → giver_of j ≢ Some a → is_later a (giver_of j) ≡ false → comes_before its.given j i ≡ true
    behind i j at not_a early = by (giver_of j) refl early
      where
        by : (o : Option ℕ) → giver_of j ≡ o → is_later a o ≡ false → comes_before its.given j i ≡ true
        by None is h = own_first j i (givers.marks j ∙ ap is_some is) (marked i a at)
        by (Some q) is h = (let le : q ≤ a = ltb-false a q h in
            let ne : q ≢ a = λ e. not_a (is ∙ ap (λ n. Some n) e) in
            both_given j i (marked j q is) (marked i a at) (givers.apart j i q a is at (omega (arith, le, ne))))

  pub round_adds : RoundAdds labels its giver_of
  round_adds lo hi k a names ss st m b below there node t agree (leads, may) =
      moves (hits labels its are st.groups (length labels) t.whole.stand false ss names node below (insert a b below) there leads agree (λ x o. (t.whole.bounds x o).1))
    where
      start_is : (n : ℕ) (ns : List ℕ) → path_end labels st.groups (length labels) (n ∷ ns) (end.Start 0) ≡ walked labels its are st.groups (length labels) false (n ∷ ns) t.whole.items
      start_is n ns =
          ap (λ o. option_and_then (path_end labels st.groups (length labels) ns) (option_map (λ j. end.Node j) o))
          (answer_is its.given labels n (IsWithin st.groups 0 0 (length labels)) (members_of st.groups 0) t.whole.items (length labels) are.given t.whole.orders (λ i w. w.0)
          (λ i h. inl (h, (omega arith, t.within i h)))
          (λ i j h ok past w. (let u = t.within i h in absurd (omega (arith, u, past)))))

      same_turn : (names : List ℕ) (i : ℕ) → walked labels its are st.groups (length labels) false names t.whole.items ≡ Some (end.Node i) → target labels (end.Node i) ≡ Some i
          → (turn labels k 0 (length labels) names st).groups ≡ move_items (group_of_augment labels k) (i + 1) st.groups
      same_turn [] i w is = absurd (not_none w)
      same_turn (n ∷ ns) i w is =
          ap (λ (s : State). s.groups)
          (ap (λ (b : Bool). if b then st else settle labels k (path_end labels st.groups (length labels) (n ∷ ns) (end.Start 0)) st) (ap turns.is_some t.waits)
          ∙ ap (λ e. settle labels k e st) (start_is n ns ∙ w)) ∙ ap (λ p. give (group_of_augment labels k) p st.groups) is

      target_is : (i : ℕ) → its.is_node i ≡ true → may_be_target (its.node_of i).kind ≡ true → target labels (end.Node i) ≡ Some i
      target_is i is may = (let x = are.within i is in ap (λ (b : Bool). if b then Some i else None) (ap is_some_target x.1 ∙ (ap may_be_target x.2 ∙ may)))

      moves : Hit labels its are st.groups (length labels) false names t.whole.items t.whole.owns node below (insert a b below) there
          → (s : Shows its (turn labels k 0 (length labels) names st).groups 0 0 (length labels) there)
          × ((x : ℕ) → s.owns x ≡ true → (t.whole.owns x ≡ true) ⊎ (t.block.owns x ≡ true))
          × ((i : ℕ) × (t.whole.owns i ≡ true) × ((turn labels k 0 (length labels) names st).groups ≡ move_items (group_of_augment labels k) (i + 1) st.groups))
      moves h =
          let own : ℕ = group_of_augment labels k in
          let i : ℕ = h.item in
          let new : Groups = move_items own (i + 1) st.groups in
          let iu = (t.whole.bounds i h.has).1 in
          let room = t.room in let copies = t.copies in let items = t.items in
          let not_own : own ≢ i + 1 = λ e. omega (arith, e, iu) in
          let at_g : members_of new 0 ≡ members_of st.groups 0 = moved_other labels own (i + 1) 0 st.groups (λ e. omega (arith, e)) (λ e. omega (arith, e)) in
          let at_i : members_of new (i + 1) ≡ members_of st.groups (i + 1) ++ members_of st.groups own = moved_to labels own (i + 1) st.groups not_own (omega (arith, iu, room)) in
          let elsewhere : (x : ℕ) → x < length labels → x ≢ i → members_of new (x + 1) ≡ members_of st.groups (x + 1) =
          λ x l other. moved_other labels own (i + 1) (x + 1) st.groups (λ e. omega (arith, e, l)) (λ e. other (omega (arith, e))) in
          let not_in : (x : ℕ) → t.whole.owns x ≡ true → t.block.owns x ≡ false = λ x o. not_so (t.block.owns x) (λ p. false≢true (sym (t.apart x p) ∙ o)) in
          let B : Stand its new t.block.owns t.block.items b =
          stands_on st.groups new (λ x o. (let w = t.block.bounds x o in let u = w.1 in elsewhere x (omega (arith, u, items)) (λ e. false≢true (sym (t.apart x o) ∙ (ap t.whole.owns e ∙ h.has))))) t.block.stand in
          let K : Stand its new h.low h.kids below =
          stands_on st.groups new (λ x o. elsewhere x (t.whole.bounds x (h.within x o)).1 (λ e. false≢true (sym h.not_low ∙ (ap h.low (sym e) ∙ o)))) h.stand in
          let x : Merged its new (either h.low t.block.owns) h.kids t.block.items (insert a b below) =
          merged its new a t.block.owns t.block.items b t.block.orders.ascend B (λ i. is_later a (giver_of i)) (λ i is. ap (is_later a) (t.givers.shown i is)) (grows t.givers a)
          K h.orders.ascend (λ x o. not_so (h.low x) (λ p. false≢true (sym (t.apart x o) ∙ h.within x p)))
          (λ i j p q late. before t.givers a i j (t.own i (t.block.orders.only i p).0).1 late)
          (λ y j p q early. behind t.givers a y j (t.own y (t.block.orders.only y p).0).1 (t.not_theirs (i + 1) j (omega (arith, iu)) (h.orders.only j q)) early) in
          subst (λ gs. (s : Shows its gs 0 0 (length labels) there) × ((x : ℕ) → s.owns x ≡ true → (t.whole.owns x ≡ true) ⊎ (t.block.owns x ≡ true))
          × ((i : ℕ) × (t.whole.owns i ≡ true) × (gs ≡ move_items (group_of_augment labels k) (i + 1) st.groups)))
          (sym (same_turn names i h.walks (target_is i h.is_node (ap (λ (y : Node). may_be_target y.kind) (sym h.is) ∙ may)))) (
            record {
              items = t.whole.items;
              owns = either t.whole.owns t.block.owns;
              bounds = λ j o. elim (or_cases (t.whole.owns j) (t.block.owns j) o) [
                | inl p ↦ t.whole.bounds j p
                | inr p ↦ (let w = t.block.bounds j p in let u = w.1 in (omega arith, omega (arith, u, items)))
              ];
              orders = record {
                ascend = t.whole.orders.ascend;
                all = λ j w. t.whole.orders.all j (subst (λ ms. Contains ms j) at_g w.0, w.1);
                only = λ j p. (let w = t.whole.orders.only j p in (subst (λ ms. Contains ms j) (sym at_g) w.0, w.1));
              };
              stand = h.exchange new t.block.owns x.items not_in (λ y o other. elsewhere y (t.whole.bounds y o).1 other)
                  (record {
                    ascend = x.ascend;
                    all = λ y p. elim (Contains-append_cases (members_of st.groups (i + 1)) (members_of st.groups own) y (subst (λ ms. Contains ms y) at_i p)) [
                      | inl q ↦ x.into_first y (h.orders.all y q)
                      | inr q ↦ x.into_second y (t.block.orders.all y (q, (t.own y q).0))
                    ];
                    only = λ y p. subst (λ ms. Contains ms y) (sym at_i) (elim (x.from y p) [
                      | inl q ↦ Contains-append_left (members_of st.groups (i + 1)) (members_of st.groups own) y (h.orders.only y q)
                      | inr q ↦ Contains-append_right (members_of st.groups (i + 1)) (members_of st.groups own) y (t.block.orders.only y q).0
                    ]);
                  })
                  x.stand;
            },
            λ x o. or_cases (t.whole.owns x) (t.block.owns x) o,
            (i, h.has, refl),
          )
