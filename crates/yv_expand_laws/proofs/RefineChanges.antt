-- A refine changes the item that its path means as it changes the node.
use Rattle.std.proofs.Common.{inl, inr, ◌≡◌, ◌≢◌, ℕ, ◌+◌, ◌<◌, Bool, true, false, if◌then◌else◌, List, [], ◌∷◌, ◌++◌, refl, sym, ◌∙◌, ap, subst, arith, eq-eqb, Some}
use Rattle.std.specs.List.{Contains}
use Rattle.std.specs.Option.{option_and_then, option_map}
use Rattle.std.proofs.lemmas.Bool.{false≢true, ne_eqb}
use Rattle.yv_expand_rounds.specs.declared.end.End.TheVariants as end
use Rattle.yv_expand_rounds.specs.declared.label.Label.{Label}
use Rattle.yv_expand_rounds.specs.Groups.{Groups, members_of}
use Rattle.yv_expand_statements.specs.Kinds.{is_choice}
use Rattle.yv_expand_definition.specs.Nodes.{Forest, Node, node}
use Rattle.yv_expand_definition.specs.Paths.{Leads, Step, at}
use Rattle.yv_expand_definition.specs.Paths.Leads.{past, to, into, into_case}
use Rattle.yv_expand_laws.specs.RefineStep.{RefineChanges, RefineMisses, add_refine}
use Rattle.yv_expand_laws.specs.Shows.{Agree, AreLabels, IsWithin, Items, Orders, Splits, Stand}
use Rattle.yv_expand_laws.specs.Shows.Stand.{no_items as none_stand, not_a_node, shown_node}
use Rattle.yv_expand_laws.proofs.FoundItems.{not_none}
use Rattle.yv_expand_laws.proofs.InsertionOrder.{stands_by}
use Rattle.yv_expand_laws.proofs.Least.{answer_is}
use Rattle.yv_expand_laws.proofs.BlockNodes.{less_first}
use Rattle.yv_expand_laws.proofs.PathAgreement.{ended_node, finds, named_is, named_no, none_leads, not_same, walked, walks_case, walks_past, walks_to}
use Rattle.yv_expand_rounds.specs.Paths.{path_end}

module _ (labels : List Label) (its : Items) (are : AreLabels labels its) (groups : Groups) (limit : ℕ) where
  -- a path means an item; and when this shows another node, the nodes are the others
  record Change (c : Bool) (names items : List ℕ) (owns : ℕ → Bool) (target new_target : Node) (there : Forest) : Type 0 where
    item : ℕ
    walks : walked labels its are groups limit c names items ≡ Some (end.Node item)
    has : owns item ≡ true
    is : target ≡ its.node_of item
    retell : (new : Items) → new.given ≡ its.given → ((x : ℕ) → new.is_node x ≡ its.is_node x)
        → ((x : ℕ) → owns x ≡ true → x ≢ item → new.node_of x ≡ its.node_of x) → new.node_of item ≡ new_target → Stand new groups owns items there

  module _ (c : Bool) (names : List ℕ) (i : ℕ) (kids others : List ℕ) (owns low rest : ℕ → Bool) (below behind : Forest) (is_node : its.is_node i ≡ true) (s : Splits owns i low rest)
      (o : Orders its.given (Contains (members_of groups (i + 1))) kids) (B : Stand its groups low kids below) (F : Stand its groups rest others behind) where
    orders_in : (new : Items) → new.given ≡ its.given → Orders new.given (Contains (members_of groups (i + 1))) kids
    orders_in new marks = subst (λ given. Orders given (Contains (members_of groups (i + 1))) kids) (sym marks) o

    here_changes : (h : Node) → walked labels its are groups limit c names (i ∷ others) ≡ Some (end.Node i) → Change c names (i ∷ others) owns (its.node_of i) h (node h below behind)
    here_changes h walks = record {
      item = i;
      walks = walks;
      has = s.has;
      is = refl;
      retell = λ new marks nodes same now. subst (λ (g : Node). Stand new groups owns (i ∷ others) (node g below behind)) now
          (shown_node low rest (nodes i ∙ is_node) s (orders_in new marks)
          (stands_by groups its new marks nodes (λ x a. same x (s.below_in x a) (not_same labels its are groups limit low x i a s.not_below)) B)
          (stands_by groups its new marks nodes (λ x a. same x (s.behind_in x a) (not_same labels its are groups limit rest x i a s.not_behind)) F));
    }

    below_changes : (d : Bool) (ns : List ℕ) (t h : Node) (there : Forest) (q : Change d ns kids low t h there)
        → walked labels its are groups limit c names (i ∷ others) ≡ Some (end.Node q.item) → Change c names (i ∷ others) owns t h (node (its.node_of i) there behind)
    below_changes d ns t h there q walks = record {
      item = q.item;
      walks = walks;
      has = s.below_in q.item q.has;
      is = q.is;
      retell = λ new marks nodes same now. subst (λ (g : Node). Stand new groups owns (i ∷ others) (node g there behind))
          (same i s.has (λ e. not_same labels its are groups limit low q.item i q.has s.not_below (sym e)))
          (shown_node low rest (nodes i ∙ is_node) s (orders_in new marks) (q.retell new marks nodes (λ x a. same x (s.below_in x a)) now)
          (stands_by groups its new marks nodes (λ x a. same x (s.behind_in x a) (λ e. false≢true (sym (s.apart q.item q.has) ∙ (ap rest (sym e) ∙ a)))) F));
    }

    behind_changes : (t h : Node) (there : Forest) (q : Change c names others rest t h there)
        → walked labels its are groups limit c names (i ∷ others) ≡ walked labels its are groups limit c names others → Change c names (i ∷ others) owns t h (node (its.node_of i) below there)
    behind_changes t h there q walks = record {
      item = q.item;
      walks = walks ∙ q.walks;
      has = s.behind_in q.item q.has;
      is = q.is;
      retell = λ new marks nodes same now. subst (λ (g : Node). Stand new groups owns (i ∷ others) (node g below there))
          (same i s.has (λ e. not_same labels its are groups limit rest q.item i q.has s.not_behind (sym e)))
          (shown_node low rest (nodes i ∙ is_node) s (orders_in new marks)
          (stands_by groups its new marks nodes (λ x a. same x (s.below_in x a) (λ e. false≢true (sym (s.apart x a) ∙ (ap rest e ∙ q.has)))) B)
          (q.retell new marks nodes (λ x a. same x (s.behind_in x a)) now));
    }

  passed_changes : (c : Bool) (names : List ℕ) (i : ℕ) (others : List ℕ) (owns : ℕ → Bool) (t h : Node) (there : Forest) → owns i ≡ true → its.is_node i ≡ false
      → (q : Change c names others owns t h there) → walked labels its are groups limit c names (i ∷ others) ≡ walked labels its are groups limit c names others
      → Change c names (i ∷ others) owns t h there
  passed_changes c names i others owns t h there has no_node q walks = record {
    item = q.item;
    walks = walks ∙ q.walks;
    has = q.has;
    is = q.is;
    retell = λ new marks nodes same now. not_a_node has (nodes i ∙ no_node) (q.retell new marks nodes same now);
  }

  changes : {owns : ℕ → Bool} {items : List ℕ} {f : Forest} → Stand its groups owns items f → (c : Bool) (ss : List Step) (names : List ℕ) (t h : Node) (b there : Forest)
      → Leads c ss f (at t b h b) there → Agree labels its names ss → ((x : ℕ) → owns x ≡ true → x < limit) → Change c names items owns t h there
  changes none_stand c ss names t h b there l agree bound = absurd (none_leads l)
  changes (not_a_node has no_node rest) c [] names t h b there l agree bound = absurd (no_steps l)
    where
      no_steps : {c : Bool} {f : Forest} {e : _} {a : Forest} → Leads c [] f e a → ⊥
      no_steps l = elim l [ ]
  changes (not_a_node has no_node rest) c (s ∷ ss) [] t h b there l agree bound = absurd agree
  changes {owns = owns} (not_a_node {i = i} {others = others} has no_node rest) c (s ∷ ss) (n ∷ ns) t h b there l agree bound =
      passed_changes c (n ∷ ns) i others owns t h there has no_node (changes rest c (s ∷ ss) (n ∷ ns) t h b there l agree bound)
      (walks_past labels its are groups limit c n ns i others (named_no labels its are groups limit n s i agree.0 no_node))
  changes (shown_node low rest is_node s o below behind) c ss [] t h b there l agree bound = absurd (no_names ss l agree)
    where
      no_names : (ss : List Step) {c : Bool} {f : Forest} {e : _} {a : Forest} → Leads c ss f e a → Agree labels its [] ss → ⊥
      no_names [] l agree = elim l [ ]
      no_names (s ∷ ss) l agree = agree
  changes {owns = owns} (shown_node {i = i} {items = kids} {others = others} {below = below} {behind = behind} low rest is_node s o B F) c ss (n ∷ ns) t h b there
      (past {s = step} {there = after} isnt l) agree bound =
      behind_changes c (n ∷ ns) i kids others owns low rest below behind is_node s o B F t h after
      (changes F c ss (n ∷ ns) t h b after l agree (λ x a. bound x (s.behind_in x a)))
      (walks_past labels its are groups limit c n ns i others (named_is labels its are groups limit n step i false agree.0 is_node isnt))
  changes {owns = owns} (shown_node {i = i} {items = kids} {others = others} {below = below} {behind = behind} low rest is_node s o B F) c ss (n ∷ []) t h b there
      (to {s = step} meets short) agree bound =
      here_changes c (n ∷ []) i kids others owns low rest below behind is_node s o B F h
      (walks_to labels its are groups limit c n [] i others false (named_is labels its are groups limit n step i true agree.0 is_node meets) short)
  changes (shown_node low rest is_node s o B F) c ss (n ∷ m ∷ ns) t h b there (to meets short) agree bound = absurd agree.1
  changes (shown_node low rest is_node s o B F) c ss (n ∷ []) t h b there (into meets short l) agree bound = absurd agree.1
  changes {owns = owns} (shown_node {i = i} {items = kids} {others = others} {below = below} {behind = behind} low rest is_node s o B F) c ss (n ∷ m ∷ ns) t h b there
      (into {s = step} {t = next} {ss = steps} {there = after} meets short l) agree bound =
      let q : Change (is_choice (its.node_of i).kind) (m ∷ ns) kids low t h after =
      changes B (is_choice (its.node_of i).kind) (next ∷ steps) (m ∷ ns) t h b after l agree.1 (λ x a. bound x (s.below_in x a)) in
      below_changes c (n ∷ m ∷ ns) i kids others owns low rest below behind is_node s o B F (is_choice (its.node_of i).kind) (m ∷ ns) t h after q
      (walks_to labels its are groups limit c n (m ∷ ns) i others false (named_is labels its are groups limit n step i true agree.0 is_node meets) short
      ∙ (ended_node labels its are groups limit i m ns kids next low below is_node agree.1.0 o B (λ x a. bound x (s.below_in x a)) ∙ q.walks))
  changes (shown_node low rest is_node s o B F) _ ss (n ∷ []) t h b there (into_case meets short l) agree bound = absurd agree.1
  changes (shown_node low rest is_node s o B F) _ ss (n ∷ m ∷ ns) t h b _ (into_case meets short (past isnt l)) agree bound = absurd (none_leads l)
  changes {owns = owns} (shown_node {i = i} {items = kids} {others = others} {below = below} {behind = behind} low rest is_node s o B F) _ ss (n ∷ m ∷ []) t h b _
      (into_case {s = step} {t = next} meets short (to meets' short')) agree bound =
      here_changes true (n ∷ m ∷ []) i kids others owns low rest below behind is_node s o B F h
      (walks_to labels its are groups limit true n (m ∷ []) i others true (named_is labels its are groups limit n step i true agree.0 is_node meets) short
      ∙ walks_case labels its are groups limit m [] i (named_is labels its are groups limit m next i true agree.1.0 is_node meets'))
  changes (shown_node low rest is_node s o B F) _ ss (n ∷ m ∷ k ∷ ns) t h b _ (into_case meets short (to meets' short')) agree bound = absurd agree.1.1
  changes (shown_node low rest is_node s o B F) _ ss (n ∷ m ∷ []) t h b _ (into_case meets short (into meets' short' l)) agree bound = absurd agree.1.1
  changes {owns = owns} (shown_node {i = i} {items = kids} {others = others} {below = below} {behind = behind} low rest is_node s o B F) _ ss (n ∷ m ∷ k ∷ ns) t h b _
      (into_case {s = step} {t = next} meets short (into {t = third} {ss = steps} {there = after} meets' short' l)) agree bound =
      let q : Change (is_choice (its.node_of i).kind) (k ∷ ns) kids low t h after =
      changes B (is_choice (its.node_of i).kind) (third ∷ steps) (k ∷ ns) t h b after l agree.1.1 (λ x a. bound x (s.below_in x a)) in
      below_changes true (n ∷ m ∷ k ∷ ns) i kids others owns low rest below behind is_node s o B F (is_choice (its.node_of i).kind) (k ∷ ns) t h after q
      (walks_to labels its are groups limit true n (m ∷ k ∷ ns) i others true (named_is labels its are groups limit n step i true agree.0 is_node meets) short
      ∙ (walks_case labels its are groups limit m (k ∷ ns) i (named_is labels its are groups limit m next i true agree.1.0 is_node meets')
      ∙ (ended_node labels its are groups limit i k ns kids third low below is_node agree.1.1.0 o B (λ x a. bound x (s.below_in x a)) ∙ q.walks)))

pub refine_changes : (labels : List Label) (its : Items) → AreLabels labels its → RefineChanges labels its
refine_changes labels its are groups g lo hi limit k names ss m below there target low others marks agree S leads =
    let q = changes labels its are groups limit S.stand false ss names target (record target { refines = target.refines ++ k ∷ [] }) below there leads agree
    (λ x o. (let u = (S.bounds x o).1 in omega (arith, u, low))) in
    let w = S.bounds q.item q.has in (
      q.item,
      start_is names q.item q.walks,
      q.is,
      w.0,
      w.1,
      record {
        items = S.items;
        owns = S.owns;
        bounds = S.bounds;
        orders = S.orders;
        stand = q.retell (add_refine its q.item k) refl (λ x. refl)
            (λ x o other. ap (λ (b : Bool). if b then record (its.node_of x) { refines = (its.node_of x).refines ++ k ∷ [] } else its.node_of x) (ne_eqb x q.item other))
            (ap (λ (b : Bool). if b then record (its.node_of q.item) { refines = (its.node_of q.item).refines ++ k ∷ [] } else its.node_of q.item) (eq-eqb q.item q.item refl)
            ∙ ap (λ (y : Node). record y { refines = y.refines ++ k ∷ [] }) (sym q.is));
      },
    )
  where
    start_is : (names : List ℕ) (i : ℕ) → walked labels its are groups limit false names S.items ≡ Some (end.Node i) → path_end labels groups limit names (end.Start g) ≡ Some (end.Node i)
    start_is [] i w = absurd (not_none w)
    start_is (n ∷ ns) i w =
        ap (λ o. option_and_then (path_end labels groups limit ns) (option_map (λ j. end.Node j) o))
        (answer_is its.given labels n (IsWithin groups g lo hi) (members_of groups g) S.items limit are.given S.orders (λ i v. v.0)
        (λ j h. elim (others j h) [ inl v ↦ inl (h, v) | inr v ↦ inr v ])
        (λ j l h ok past v. (let u = v.1.1 in less_first its.given l j (marks l j v.0 h) (omega (arith, u, low, past)))))
        ∙ w

pub refine_misses : (labels : List Label) (its : Items) → AreLabels labels its → RefineMisses labels its
refine_misses labels its are groups g lo hi limit i names ss m low others marks agree S no_node is =
    by names is agree
  where
    found : (n : ℕ) (ns : List ℕ) → Agree labels its (n ∷ ns) ss → path_end labels groups limit (n ∷ ns) (end.Start g) ≡ Some (end.Node i) → ⊥
    found n ns agree is =
        let f = finds labels its are groups limit S.stand false ss (n ∷ ns) i agree (λ x o. (let u = (S.bounds x o).1 in omega (arith, u, low)))
        (sym (ap (λ o. option_and_then (path_end labels groups limit ns) (option_map (λ j. end.Node j) o))
        (answer_is its.given labels n (IsWithin groups g lo hi) (members_of groups g) S.items limit are.given S.orders (λ j v. v.0)
        (λ j h. elim (others j h) [ inl v ↦ inl (h, v) | inr v ↦ inr v ])
        (λ j l h ok past v. (let u = v.1.1 in less_first its.given l j (marks l j v.0 h) (omega (arith, u, low, past)))))) ∙ is) in
        no_node f.target f.below f.there f.leads

    by : (names : List ℕ) → path_end labels groups limit names (end.Start g) ≡ Some (end.Node i) → Agree labels its names ss → ⊥
    by [] e agree = no_start e
      where
        no_start : Some (end.Start g) ≡ Some (end.Node i) → ⊥
        no_start e = cc
    by (n ∷ ns) e agree = found n ns agree e
