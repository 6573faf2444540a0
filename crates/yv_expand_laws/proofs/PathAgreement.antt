-- Paths lead to the same node by items and by nodes, and the exchange is the same.
use Rattle.std.proofs.Common.{◌⊎◌, inl, inr, ◌≡◌, ◌≢◌, ℕ, ◌+◌, ◌<◌, ◌&&◌, not, Bool, true, false, if◌then◌else◌, List, [], ◌∷◌, refl, sym, ◌∙◌, ap, subst, arith, Option, Some, None}
use Rattle.std.specs.List.{Contains, slice_get}
use Rattle.std.specs.Option.{option_and_then, option_map}
use Rattle.std.proofs.lemmas.Bool.{false≢true}
use Rattle.yv_expand_rounds.specs.declared.end.End.{End}
use Rattle.yv_expand_rounds.specs.declared.end.End.TheVariants as end
use Rattle.yv_expand_rounds.specs.declared.label.Label.{Label}
use Rattle.yv_expand_rounds.specs.Groups.{Groups, members_of}
use Rattle.yv_expand_statements.specs.Kinds.{is_case, is_choice}
use Rattle.yv_expand_rounds.specs.Labels.{is_named}
use Rattle.yv_expand_rounds.specs.Paths.{end_at, path_end}
use Rattle.yv_expand_rounds.specs.Paths as by_label
use Rattle.yv_expand_definition.specs.Nodes.{Forest, Node, none, node, join}
use Rattle.yv_expand_definition.specs.Paths.{Leads, Step, answers, at, is_shorthand}
use Rattle.yv_expand_definition.specs.Paths.Leads.{past, to, into, into_case}
use Rattle.yv_expand_laws.specs.Shows.{Agree, AreLabels, Items, Orders, Splits, Stand}
use Rattle.yv_expand_laws.specs.Shows.Stand.{no_items as none_stand, not_a_node, shown_node}
use Rattle.yv_expand_laws.proofs.FoundItems.{not_none}
use Rattle.yv_expand_laws.proofs.FrameSequences.{nothing_stands}
use Rattle.yv_expand_laws.proofs.Least.{answer_is, find, find_there}
use Rattle.yv_expand_laws.proofs.BlockNodes.{first_or}
use Rattle.yv_expand_laws.proofs.StableItems.{either, or_cases, or_left, or_none, or_right, stands_on}

both_true : (a b : Bool) → (a && b) ≡ true → (a ≡ true) × (b ≡ true)
both_true true b e = (refl, e)
both_true false b e = absurd (false≢true e)

pub not_so : (t : Bool) → (t ≡ true → ⊥) → t ≡ false
not_so true h = absurd (h refl)
not_so false h = refl

pub none_leads : {c : Bool} {ss : List Step} {e : _} {a : Forest} → Leads c ss none e a → ⊥
none_leads l = elim l [ ]

-- a node's item is owned
pub owned : {its : Items} {groups : Groups} {owns : ℕ → Bool} {items : List ℕ} {f : Forest} (i : ℕ) → Stand its groups owns items f → Contains items i → owns i ≡ true
owned i none_stand there = absurd (nothing_stands i there)
owned {owns = owns} i (not_a_node {i = x} {others = others} has no_node rest) there = by (first_or x others i there) (λ h. owned i rest h)
  where
    by : (x ≡ i) ⊎ Contains others i → (Contains others i → owns i ≡ true) → owns i ≡ true
    by (inl same) later = ap owns (sym same) ∙ has
    by (inr h) later = later h
owned {owns = owns} i (shown_node {i = x} {others = others} low rest is_node s o below behind) there = by (first_or x others i there) (λ h. owned i behind h)
  where
    by : (x ≡ i) ⊎ Contains others i → (Contains others i → rest i ≡ true) → owns i ≡ true
    by (inl same) later = ap owns (sym same) ∙ s.has
    by (inr h) later = s.behind_in i (later h)

-- a step by number is one by name
abbrev pub IsStep : List Label → Items → ℕ → Step → Type 0
IsStep labels its n s = (i : ℕ) → is_named labels n i ≡ (its.is_node i && answers s (its.node_of i))

module _ (labels : List Label) (its : Items) (are : AreLabels labels its) (groups : Groups) (limit : ℕ) where
  abbrev pub arrives : Bool → ℕ → End
  arrives c j = if is_shorthand c (its.node_of j) then end.ShorthandCase j else end.Node j

  -- where a path leads from items in order, which may be those of a choice
  abbrev pub walked : Bool → List ℕ → List ℕ → Option End
  walked c [] items = None
  walked c (n ∷ ns) items = option_and_then (path_end labels groups limit ns) (option_map (arrives c) (find (is_named labels n) items))

  arrived_is : (i j : ℕ) → its.is_node i ≡ true → its.is_node j ≡ true → end_at labels i j ≡ arrives (is_choice (its.node_of i).kind) j
  arrived_is i j is js =
      let a = are.within i is in let b = are.within j js in
      ap (λ (t : Bool). if t then end.ShorthandCase j else end.Node j)
      (ap (λ o. by_label.is_shorthand o (slice_get labels j)) a.1 ∙ (ap (λ o. by_label.is_shorthand (Some a.0) o) b.1
      ∙ (ap (λ k. is_choice k && not (is_case b.0.kind)) a.2 ∙ ap (λ k. is_choice (its.node_of i).kind && not (is_case k)) b.2)))

  -- from a node
  pub ended_node : (i n : ℕ) (ns kids : List ℕ) (s : Step) (low : ℕ → Bool) (below : Forest) → its.is_node i ≡ true → IsStep labels its n s
      → Orders its.given (Contains (members_of groups (i + 1))) kids → Stand its groups low kids below → ((x : ℕ) → low x ≡ true → x < limit)
      → path_end labels groups limit (n ∷ ns) (end.Node i) ≡ walked (is_choice (its.node_of i).kind) (n ∷ ns) kids
  ended_node i n ns kids s low below is step o stand bound =
      ap (option_and_then (path_end labels groups limit ns))
      (ap (option_map (end_at labels i))
      (answer_is its.given labels n (Contains (members_of groups (i + 1))) (members_of groups (i + 1)) kids limit are.given o (λ j h. h) (λ j h. inl h)
      (λ j k h ok past h'. (let l = bound j (owned j stand (o.all j h)) in absurd (omega (arith, l, past)))))
      ∙ by (find (is_named labels n) kids) refl)
    where
      by : (q : Option ℕ) → find (is_named labels n) kids ≡ q → option_map (end_at labels i) q ≡ option_map (arrives (is_choice (its.node_of i).kind)) q
      by None f = refl
      by (Some j) f = ap (λ e. Some e) (arrived_is i j is (both_true (its.is_node j) _ (sym (step j) ∙ (find_there (is_named labels n) kids j f).1)).0)

  -- a path hits a node, by its item; and when this has other items below it, the nodes are the
  -- others
  pub record Hit (c : Bool) (names items : List ℕ) (owns : ℕ → Bool) (target : Node) (below put there : Forest) : Type 0 where
    pub item : ℕ
    pub walks : walked c names items ≡ Some (end.Node item)
    pub has : owns item ≡ true
    pub is_node : its.is_node item ≡ true
    pub is : target ≡ its.node_of item
    pub low : ℕ → Bool
    pub kids : List ℕ
    pub within : (x : ℕ) → low x ≡ true → owns x ≡ true
    pub not_low : low item ≡ false
    pub orders : Orders its.given (Contains (members_of groups (item + 1))) kids
    pub stand : Stand its groups low kids below
    pub exchange : (new : Groups) (extra : ℕ → Bool) (more : List ℕ) → ((x : ℕ) → owns x ≡ true → extra x ≡ false)
        → ((x : ℕ) → owns x ≡ true → x ≢ item → members_of new (x + 1) ≡ members_of groups (x + 1))
        → Orders its.given (Contains (members_of new (item + 1))) more → Stand its new (either low extra) more put → Stand its new (either owns extra) items there

  pub not_same : (f : ℕ → Bool) (x y : ℕ) → f x ≡ true → f y ≡ false → x ≢ y
  not_same f x y a b same = false≢true (sym b ∙ ap f (sym same) ∙ a)

  module _ (c : Bool) (names : List ℕ) (i : ℕ) (kids others : List ℕ) (owns low rest : ℕ → Bool) (below behind : Forest) (is_node : its.is_node i ≡ true) (s : Splits owns i low rest)
      (o : Orders its.given (Contains (members_of groups (i + 1))) kids) (B : Stand its groups low kids below) (F : Stand its groups rest others behind) where
    here_hit : (put : Forest) → walked c names (i ∷ others) ≡ Some (end.Node i) → Hit c names (i ∷ others) owns (its.node_of i) below put (node (its.node_of i) put behind)
    here_hit put walks = record {
      item = i;
      walks = walks;
      has = s.has;
      is_node = is_node;
      is = refl;
      low = low;
      kids = kids;
      within = s.below_in;
      not_low = s.not_below;
      orders = o;
      stand = B;
      exchange = λ new extra more apart same orders stand. shown_node (either low extra) rest is_node (record {
        has = or_left (owns i) (extra i) s.has;
        below_in = λ x h. elim (or_cases (low x) (extra x) h) [ inl a ↦ or_left (owns x) (extra x) (s.below_in x a) | inr b ↦ or_right (owns x) (extra x) b ];
        behind_in = λ x h. or_left (owns x) (extra x) (s.behind_in x h);
        apart = λ x h. elim (or_cases (low x) (extra x) h) [
          | inl a ↦ s.apart x a
          | inr b ↦ not_so (rest x) (λ r. false≢true (sym (apart x (s.behind_in x r)) ∙ b))
        ];
        not_below = or_none (low i) (extra i) s.not_below (apart i s.has);
        not_behind = s.not_behind;
      }) orders stand (stands_on groups new (λ x h. same x (s.behind_in x h) (not_same rest x i h s.not_behind)) F);
    }

    below_hit : (d : Bool) (ns : List ℕ) (target : Node) (b put there : Forest) (h : Hit d ns kids low target b put there) → walked c names (i ∷ others) ≡ Some (end.Node h.item)
        → Hit c names (i ∷ others) owns target b put (node (its.node_of i) there behind)
    below_hit d ns target b put there h walks = record {
      item = h.item;
      walks = walks;
      has = s.below_in h.item h.has;
      is_node = h.is_node;
      is = h.is;
      low = h.low;
      kids = h.kids;
      within = λ x a. s.below_in x (h.within x a);
      not_low = h.not_low;
      orders = h.orders;
      stand = h.stand;
      exchange = λ new extra more apart same orders stand. shown_node (either low extra) rest is_node (record {
        has = or_left (owns i) (extra i) s.has;
        below_in = λ x h. elim (or_cases (low x) (extra x) h) [ inl a ↦ or_left (owns x) (extra x) (s.below_in x a) | inr b ↦ or_right (owns x) (extra x) b ];
        behind_in = λ x h. or_left (owns x) (extra x) (s.behind_in x h);
        apart = λ x h. elim (or_cases (low x) (extra x) h) [
          | inl a ↦ s.apart x a
          | inr b ↦ not_so (rest x) (λ r. false≢true (sym (apart x (s.behind_in x r)) ∙ b))
        ];
        not_below = or_none (low i) (extra i) s.not_below (apart i s.has);
        not_behind = s.not_behind;
      })
          (subst (λ ms. Orders its.given (Contains ms) kids) (sym (same i s.has (λ e. not_same low h.item i h.has s.not_below (sym e)))) o)
          (h.exchange new extra more (λ x a. apart x (s.below_in x a)) (λ x a. same x (s.below_in x a)) orders stand)
          (stands_on groups new (λ x a. same x (s.behind_in x a) (λ e. false≢true (sym (s.apart h.item h.has) ∙ ap rest (sym e) ∙ a))) F);
    }

    behind_hit : (target : Node) (b put there : Forest) (h : Hit c names others rest target b put there) → walked c names (i ∷ others) ≡ walked c names others
        → Hit c names (i ∷ others) owns target b put (node (its.node_of i) below there)
    behind_hit target b put there h walks = record {
      item = h.item;
      walks = walks ∙ h.walks;
      has = s.behind_in h.item h.has;
      is_node = h.is_node;
      is = h.is;
      low = h.low;
      kids = h.kids;
      within = λ x a. s.behind_in x (h.within x a);
      not_low = h.not_low;
      orders = h.orders;
      stand = h.stand;
      exchange = λ new extra more apart same orders stand. shown_node low (either rest extra) is_node (record {
        has = or_left (owns i) (extra i) s.has;
        below_in = λ x h. or_left (owns x) (extra x) (s.below_in x h);
        behind_in = λ x h. elim (or_cases (rest x) (extra x) h) [ inl a ↦ or_left (owns x) (extra x) (s.behind_in x a) | inr b ↦ or_right (owns x) (extra x) b ];
        apart = λ x h. or_none (rest x) (extra x) (s.apart x h) (apart x (s.below_in x h));
        not_below = s.not_below;
        not_behind = or_none (rest i) (extra i) s.not_behind (apart i s.has);
      })
          (subst (λ ms. Orders its.given (Contains ms) kids) (sym (same i s.has (λ e. not_same rest h.item i h.has s.not_behind (sym e)))) o)
          (stands_on groups new (λ x a. same x (s.below_in x a) (λ e. false≢true (sym (s.apart x a) ∙ (ap rest e ∙ h.has)))) B)
          (h.exchange new extra more (λ x a. apart x (s.behind_in x a)) (λ x a. same x (s.behind_in x a)) orders stand);
    }

  passed_hit : (c : Bool) (names : List ℕ) (i : ℕ) (others : List ℕ) (owns : ℕ → Bool) (target : Node) (b put there : Forest) → owns i ≡ true → its.is_node i ≡ false
      → (h : Hit c names others owns target b put there) → walked c names (i ∷ others) ≡ walked c names others → Hit c names (i ∷ others) owns target b put there
  passed_hit c names i others owns target b put there has no_node h walks = record {
    item = h.item;
    walks = walks ∙ h.walks;
    has = h.has;
    is_node = h.is_node;
    is = h.is;
    low = h.low;
    kids = h.kids;
    within = h.within;
    not_low = h.not_low;
    orders = h.orders;
    stand = h.stand;
    exchange = λ new extra more apart same orders stand. not_a_node (or_left (owns i) (extra i) has) no_node (h.exchange new extra more apart same orders stand);
  }

  -- what is named is found at once, and what isn't is passed
  pub walks_past : (c : Bool) (n : ℕ) (ns : List ℕ) (i : ℕ) (others : List ℕ) → is_named labels n i ≡ false → walked c (n ∷ ns) (i ∷ others) ≡ walked c (n ∷ ns) others
  walks_past c n ns i others is =
      ap (λ (t : Bool). option_and_then (path_end labels groups limit ns) (option_map (arrives c) (if t then Some i else find (is_named labels n) others))) is

  pub walks_to : (c : Bool) (n : ℕ) (ns : List ℕ) (i : ℕ) (others : List ℕ) (t : Bool) → is_named labels n i ≡ true → is_shorthand c (its.node_of i) ≡ t
      → walked c (n ∷ ns) (i ∷ others) ≡ path_end labels groups limit ns (if t then end.ShorthandCase i else end.Node i)
  walks_to c n ns i others t is short =
      ap (λ (t : Bool). option_and_then (path_end labels groups limit ns) (option_map (arrives c) (if t then Some i else find (is_named labels n) others))) is
      ∙ ap (λ (t : Bool). path_end labels groups limit ns (if t then end.ShorthandCase i else end.Node i)) short

  pub walks_case : (n : ℕ) (ns : List ℕ) (i : ℕ) → is_named labels n i ≡ true
      → path_end labels groups limit (n ∷ ns) (end.ShorthandCase i) ≡ path_end labels groups limit ns (end.Node i)
  walks_case n ns i is = ap (λ (t : Bool). option_and_then (path_end labels groups limit ns) (if t then Some (end.Node i) else None)) is

  pub named_is : (n : ℕ) (s : Step) (i : ℕ) (t : Bool) → IsStep labels its n s → its.is_node i ≡ true → answers s (its.node_of i) ≡ t → is_named labels n i ≡ t
  named_is n s i t step is a = step i ∙ (ap (λ (b : Bool). b && answers s (its.node_of i)) is ∙ a)

  pub named_no : (n : ℕ) (s : Step) (i : ℕ) → IsStep labels its n s → its.is_node i ≡ false → is_named labels n i ≡ false
  named_no n s i step no_node = step i ∙ ap (λ (b : Bool). b && answers s (its.node_of i)) no_node

  -- where a path leads to a node it hits the item
  pub hits : {owns : ℕ → Bool} {items : List ℕ} {f : Forest} → Stand its groups owns items f → (c : Bool) (ss : List Step) (names : List ℕ) (t : Node) (b put there : Forest)
      → Leads c ss f (at t b t put) there → Agree labels its names ss → ((x : ℕ) → owns x ≡ true → x < limit) → Hit c names items owns t b put there
  hits none_stand c ss names t b put there l agree bound = absurd (none_leads l)
  hits (not_a_node has no_node rest) c [] names t b put there l agree bound = absurd (no_steps l)
    where
      no_steps : {c : Bool} {f : Forest} {e : _} {a : Forest} → Leads c [] f e a → ⊥
      no_steps l = elim l [ ]
  hits (not_a_node has no_node rest) c (s ∷ ss) [] t b put there l agree bound = absurd agree
  hits {owns = owns} (not_a_node {i = i} {others = others} has no_node rest) c (s ∷ ss) (n ∷ ns) t b put there l agree bound =
      passed_hit c (n ∷ ns) i others owns t b put there has no_node (hits rest c (s ∷ ss) (n ∷ ns) t b put there l agree bound)
      (walks_past c n ns i others (named_no n s i agree.0 no_node))
  hits (shown_node low rest is_node s o below behind) c ss [] t b put there l agree bound = absurd (no_names ss l agree)
    where
      no_names : (ss : List Step) {c : Bool} {f : Forest} {e : _} {a : Forest} → Leads c ss f e a → Agree labels its [] ss → ⊥
      no_names [] l agree = elim l [ ]
      no_names (s ∷ ss) l agree = agree
  hits {owns = owns} (shown_node {i = i} {items = kids} {others = others} {below = below} {behind = behind} low rest is_node s o B F) c ss (n ∷ ns) t b put there
      (past {s = step} {there = after} isnt l) agree bound =
      behind_hit c (n ∷ ns) i kids others owns low rest below behind is_node s o B F t b put after
      (hits F c ss (n ∷ ns) t b put after l agree (λ x h. bound x (s.behind_in x h)))
      (walks_past c n ns i others (named_is n step i false agree.0 is_node isnt))
  hits {owns = owns} (shown_node {i = i} {items = kids} {others = others} {below = below} {behind = behind} low rest is_node s o B F) c ss (n ∷ []) t b put there
      (to {s = step} meets short) agree bound =
      here_hit c (n ∷ []) i kids others owns low rest below behind is_node s o B F put (walks_to c n [] i others false (named_is n step i true agree.0 is_node meets) short)
  hits (shown_node low rest is_node s o B F) c ss (n ∷ m ∷ ns) t b put there (to meets short) agree bound = absurd agree.1
  hits (shown_node low rest is_node s o B F) c ss (n ∷ []) t b put there (into meets short l) agree bound = absurd agree.1
  hits {owns = owns} (shown_node {i = i} {items = kids} {others = others} {below = below} {behind = behind} low rest is_node s o B F) c ss (n ∷ m ∷ ns) t b put there
      (into {s = step} {t = next} {ss = steps} {there = after} meets short l) agree bound =
      let h : Hit (is_choice (its.node_of i).kind) (m ∷ ns) kids low t b put after =
      hits B (is_choice (its.node_of i).kind) (next ∷ steps) (m ∷ ns) t b put after l agree.1 (λ x a. bound x (s.below_in x a)) in
      below_hit c (n ∷ m ∷ ns) i kids others owns low rest below behind is_node s o B F (is_choice (its.node_of i).kind) (m ∷ ns) t b put after h
      (walks_to c n (m ∷ ns) i others false (named_is n step i true agree.0 is_node meets) short
      ∙ (ended_node i m ns kids next low below is_node agree.1.0 o B (λ x a. bound x (s.below_in x a)) ∙ h.walks))
  hits (shown_node low rest is_node s o B F) _ ss (n ∷ []) t b put there (into_case meets short l) agree bound = absurd agree.1
  hits (shown_node low rest is_node s o B F) _ ss (n ∷ m ∷ ns) t b put _ (into_case meets short (past isnt l)) agree bound = absurd (none_leads l)
  hits {owns = owns} (shown_node {i = i} {items = kids} {others = others} {below = below} {behind = behind} low rest is_node s o B F) _ ss (n ∷ m ∷ []) t b put _
      (into_case {s = step} {t = next} meets short (to meets' short')) agree bound =
      here_hit true (n ∷ m ∷ []) i kids others owns low rest below behind is_node s o B F put
      (walks_to true n (m ∷ []) i others true (named_is n step i true agree.0 is_node meets) short
      ∙ walks_case m [] i (named_is m next i true agree.1.0 is_node meets'))
  hits (shown_node low rest is_node s o B F) _ ss (n ∷ m ∷ k ∷ ns) t b put _ (into_case meets short (to meets' short')) agree bound = absurd agree.1.1
  hits (shown_node low rest is_node s o B F) _ ss (n ∷ m ∷ []) t b put _ (into_case meets short (into meets' short' l)) agree bound = absurd agree.1.1
  hits {owns = owns} (shown_node {i = i} {items = kids} {others = others} {below = below} {behind = behind} low rest is_node s o B F) _ ss (n ∷ m ∷ k ∷ ns) t b put _
      (into_case {s = step} {t = next} meets short (into {t = third} {ss = steps} {there = after} meets' short' l)) agree bound =
      let h : Hit (is_choice (its.node_of i).kind) (k ∷ ns) kids low t b put after =
      hits B (is_choice (its.node_of i).kind) (third ∷ steps) (k ∷ ns) t b put after l agree.1.1 (λ x a. bound x (s.below_in x a)) in
      below_hit true (n ∷ m ∷ k ∷ ns) i kids others owns low rest below behind is_node s o B F (is_choice (its.node_of i).kind) (k ∷ ns) t b put after h
      (walks_to true n (m ∷ k ∷ ns) i others true (named_is n step i true agree.0 is_node meets) short
      ∙ (walks_case m (k ∷ ns) i (named_is m next i true agree.1.0 is_node meets')
      ∙ (ended_node i k ns kids third low below is_node agree.1.1.0 o B (λ x a. bound x (s.below_in x a)) ∙ h.walks)))

  -- what a path finds among items it leads to among nodes
  pub record Found (c : Bool) (ss : List Step) (f : Forest) (i : ℕ) : Type 0 where
    pub target : Node
    pub below : Forest
    pub there : Forest
    pub is : target ≡ its.node_of i
    pub is_node : its.is_node i ≡ true
    pub leads : Leads c ss f (at target below target below) there

  to_here : (c : Bool) (s : Step) (x i : ℕ) (below behind : Forest) → its.is_node x ≡ true → answers s (its.node_of x) ≡ true → is_shorthand c (its.node_of x) ≡ false
      → Some (end.Node x) ≡ Some (end.Node i) → Found c (s ∷ []) (node (its.node_of x) below behind) i
  to_here c s x i below behind is_node meets short e = record {
    target = its.node_of x;
    below = below;
    there = node (its.node_of x) below behind;
    is = ap its.node_of (let same : x ≡ i = cc in same);
    is_node = ap its.is_node (let same : i ≡ x = cc in same) ∙ is_node;
    leads = to meets short;
  }

  no_case : (x i : ℕ) → Some (end.ShorthandCase x) ≡ Some (end.Node i) → ⊥
  no_case x i e = cc

  pub finds : {owns : ℕ → Bool} {items : List ℕ} {f : Forest} → Stand its groups owns items f → (c : Bool) (ss : List Step) (names : List ℕ) (i : ℕ)
      → Agree labels its names ss → ((x : ℕ) → owns x ≡ true → x < limit) → walked c names items ≡ Some (end.Node i) → Found c ss f i
  finds stand c ss [] i agree bound e = absurd (not_none e)
  finds stand c [] (n ∷ ns) i agree bound e = absurd agree
  finds none_stand c (s ∷ ss) (n ∷ ns) i agree bound e = absurd (not_none e)
  finds (not_a_node {i = x} {others = others} has no_node rest) c (s ∷ ss) (n ∷ ns) i agree bound e =
      finds rest c (s ∷ ss) (n ∷ ns) i agree bound (sym (walks_past c n ns x others (named_no n s x agree.0 no_node)) ∙ e)
  finds (shown_node {i = x} {items = kids} {others = others} {below = below} {behind = behind} low rest is_node s o B F) c (st ∷ ss) (n ∷ ns) i agree bound e =
      by (answers st (its.node_of x)) refl (is_shorthand c (its.node_of x)) refl
      (λ e. finds F c (st ∷ ss) (n ∷ ns) i agree (λ x h. bound x (s.behind_in x h)) e)
      (λ ts ms a e. finds B (is_choice (its.node_of x).kind) ts ms i a (λ x h. bound x (s.below_in x h)) e)
    where
      Below : Type 0
      Below = (ts : List Step) (ms : List ℕ) → Agree labels its ms ts → walked (is_choice (its.node_of x).kind) ms kids ≡ Some (end.Node i) → Found (is_choice (its.node_of x).kind) ts below i

      from_node : (d : Bool) (t : Step) → answers t (its.node_of x) ≡ true → is_shorthand d (its.node_of x) ≡ false → (ts : List Step) (ms : List ℕ) → Agree labels its ms ts
          → ((ts : List Step) (ms : List ℕ) → Agree labels its ms ts → walked (is_choice (its.node_of x).kind) ms kids ≡ Some (end.Node i) → Found (is_choice (its.node_of x).kind) ts below i)
          → path_end labels groups limit ms (end.Node x) ≡ Some (end.Node i) → (tail : Forest) → Found d (t ∷ ts) (node (its.node_of x) below tail) i
      from_node d t meets short [] [] a later e tail = to_here d t x i below tail is_node meets short e
      from_node d t meets short [] (m ∷ ms) a later e tail = absurd a
      from_node d t meets short (u ∷ ts) [] a later e tail = absurd a
      from_node d t meets short (u ∷ ts) (m ∷ ms) a later e tail =
          let f = later (u ∷ ts) (m ∷ ms) a (sym (ended_node x m ms kids u low below is_node a.0 o B (λ y h. bound y (s.below_in y h))) ∙ e) in
          record { target = f.target; below = f.below; there = node (its.node_of x) f.there tail; is = f.is; is_node = f.is_node; leads = into meets short f.leads }

      from_case : (t : Step) → answers t (its.node_of x) ≡ true → is_shorthand true (its.node_of x) ≡ true → (ts : List Step) (ms : List ℕ) → Agree labels its ms ts
          → ((ts : List Step) (ms : List ℕ) → Agree labels its ms ts → walked (is_choice (its.node_of x).kind) ms kids ≡ Some (end.Node i) → Found (is_choice (its.node_of x).kind) ts below i)
          → path_end labels groups limit ms (end.ShorthandCase x) ≡ Some (end.Node i) → Found true (t ∷ ts) (node (its.node_of x) below behind) i
      from_case t meets short ts [] a later e = absurd (no_case x i e)
      from_case t meets short [] (m ∷ ms) a later e = absurd a
      from_case t meets short (u ∷ ts) (m ∷ ms) a later e = two (answers u (its.node_of x)) refl
        where
          two : (q : Bool) → answers u (its.node_of x) ≡ q → Found true (t ∷ u ∷ ts) (node (its.node_of x) below behind) i
          two false isnt =
              absurd (not_none (sym (ap (λ (q : Bool). option_and_then (path_end labels groups limit ms) (if q then Some (end.Node x) else None)) (named_is m u x false a.0 is_node isnt)) ∙ e))
          two true meets' =
              let f = from_node false u meets' refl ts ms a.1 later (sym (walks_case m ms x (named_is m u x true a.0 is_node meets')) ∙ e) none in
              record { target = f.target; below = f.below; there = join f.there behind; is = f.is; is_node = f.is_node; leads = into_case meets short f.leads }

      by : (q : Bool) → answers st (its.node_of x) ≡ q → (t : Bool) → is_shorthand c (its.node_of x) ≡ t
          → (walked c (n ∷ ns) others ≡ Some (end.Node i) → Found c (st ∷ ss) behind i)
          → ((ts : List Step) (ms : List ℕ) → Agree labels its ms ts → walked (is_choice (its.node_of x).kind) ms kids ≡ Some (end.Node i) → Found (is_choice (its.node_of x).kind) ts below i)
          → Found c (st ∷ ss) (node (its.node_of x) below behind) i
      by false isnt t short later inner =
          let f = later (sym (walks_past c n ns x others (named_is n st x false agree.0 is_node isnt)) ∙ e) in
          record { target = f.target; below = f.below; there = node (its.node_of x) below f.there; is = f.is; is_node = f.is_node; leads = past isnt f.leads }
      by true meets false short later inner =
          from_node c st meets short ss ns agree.1 inner (sym (walks_to c n ns x others false (named_is n st x true agree.0 is_node meets) short) ∙ e) behind
      by true meets true short later inner = of_choice c short (sym (walks_to c n ns x others true (named_is n st x true agree.0 is_node meets) short) ∙ e)
        where
          of_choice : (c : Bool) → is_shorthand c (its.node_of x) ≡ true → path_end labels groups limit ns (end.ShorthandCase x) ≡ Some (end.Node i)
              → Found c (st ∷ ss) (node (its.node_of x) below behind) i
          of_choice false short e = absurd (false≢true short)
          of_choice true short e = from_case st meets short ss ns agree.1 inner e
