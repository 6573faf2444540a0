-- The turn of an augment of a module whose path leads nowhere, or to no node to which it may add.
use Rattle.std.proofs.Common.{inl, ◌≡◌, ℕ, ◌<◌, Bool, true, false, if◌then◌else◌, List, [], ◌∷◌, length, refl, sym, ◌∙◌, ap, arith, get_or, Option, Some, None}
use Rattle.std.specs.Option.{option_and_then, option_map}
use Rattle.std.proofs.lemmas.List.{get_or-set_same}
use Rattle.yv_expand_rounds.specs.declared.end.End.{End}
use Rattle.yv_expand_rounds.specs.declared.end.End.TheVariants as end
use Rattle.yv_expand_rounds.specs.declared.label.Label.{Label}
use Rattle.yv_expand_rounds.specs.Groups.{group_of_augment, members_of}
use Rattle.yv_expand_statements.specs.Kinds.{may_be_target}
use Rattle.yv_expand_rounds.specs.Paths.{path_end}
use Rattle.yv_expand_rounds.specs.Turns.{State, give, is_applied, is_some, is_some_target, settle, target, target_of, turn}
use Rattle.yv_expand_definition.specs.Nodes.{Forest, Node}
use Rattle.yv_expand_definition.specs.Paths.{Leads, Step, at, shorthand_case}
use Rattle.yv_expand_definition.proofs.Unique.{any_exchange}
use Rattle.yv_expand_laws.specs.Comes.{Hits, Misses}
use Rattle.yv_expand_laws.specs.Rounds.{AwaitsTurn, RoundMisses, RoundTakes, RoundWaits}
use Rattle.yv_expand_laws.specs.Shows.{Agree, AreLabels, IsWithin, Items}
use Rattle.yv_expand_laws.proofs.Cases.{ends_nowhere, hits_case}
use Rattle.yv_expand_laws.proofs.FoundItems.{not_none}
use Rattle.yv_expand_laws.proofs.Least.{answer_is}
use Rattle.yv_expand_laws.proofs.PathAgreement.{finds, hits, walked}

module _ (labels : List Label) (its : Items) (are : AreLabels labels its) (k : ℕ) (names : List ℕ) (ss : List Step) (st : State) (m : Forest) (t : AwaitsTurn labels its k st m) where
  start_is : (n : ℕ) (ns : List ℕ)
      → path_end labels st.groups (length labels) (n ∷ ns) (end.Start 0) ≡ walked labels its are st.groups (length labels) false (n ∷ ns) t.whole.items
  start_is n ns =
      ap (λ o. option_and_then (path_end labels st.groups (length labels) ns) (option_map (λ j. end.Node j) o))
      (answer_is its.given labels n (IsWithin st.groups 0 0 (length labels)) (members_of st.groups 0) t.whole.items (length labels) are.given t.whole.orders (λ i w. w.0)
      (λ i h. inl (h, (omega arith, t.within i h)))
      (λ i j h ok past w. (let u = t.within i h in absurd (omega (arith, u, past)))))

  bound : (x : ℕ) → t.whole.owns x ≡ true → x < length labels
  bound x o = (t.whole.bounds x o).1

  turn_is : (o : Option End) → path_end labels st.groups (length labels) names (end.Start 0) ≡ o
      → turn labels k 0 (length labels) names st ≡ settle labels k o st
  turn_is o is =
      ap (λ (b : Bool). if b then st else settle labels k (path_end labels st.groups (length labels) names (end.Start 0)) st) (ap is_some t.waits)
      ∙ ap (λ e. settle labels k e st) is

  applied : (e : End) → path_end labels st.groups (length labels) names (end.Start 0) ≡ Some e
      → is_applied (turn labels k 0 (length labels) names st) k ≡ true
  applied e is = ap (λ (s : State). is_applied s k) (turn_is (Some e) is) ∙ ap is_some (get_or-set_same st.ends k (Some e) None t.copies)

-- a path that leads somewhere has a step
no_steps : {c : Bool} {f : Forest} {e : _} {a : Forest} → Leads c [] f e a → ⊥
no_steps l = elim l [ ]

some_names : (labels : List Label) (its : Items) (names : List ℕ) (ss : List Step) {c : Bool} {f : Forest} {e : _} {a : Forest}
    → Agree labels its names ss → Leads c ss f e a
    → (n : ℕ) × (ns : List ℕ) × (names ≡ n ∷ ns)
some_names labels its [] [] agree l = absurd (no_steps l)
some_names labels its [] (s ∷ ss) agree l = absurd agree
some_names labels its (n ∷ ns) ss agree l = (n, ns, refl)

pub round_waits : (labels : List Label) (its : Items) → AreLabels labels its → RoundWaits labels its
round_waits labels its are k n ns ss st m t agree nowhere =
    turn_is labels its are k (n ∷ ns) ss st m t None
    (start_is labels its are k (n ∷ ns) ss st m t n ns ∙ ends_nowhere labels its are st.groups (length labels) t.whole.stand ss (n ∷ ns) agree (bound labels its are k (n ∷ ns) ss st m t) nowhere)

pub round_takes : (labels : List Label) (its : Items) → AreLabels labels its → RoundTakes labels its
round_takes labels its are k [] ss st m there e t agree l =
    (let n = some_names labels its [] ss agree l in absurd (let bad : [] ≡ n.0 ∷ n.1 = n.2 in cc))
round_takes labels its are k (n ∷ ns) ss st m there shorthand_case t agree l =
    let h = hits_case labels its are st.groups (length labels) t.whole.stand false ss (n ∷ ns) there l agree (bound labels its are k (n ∷ ns) ss st m t) in
    applied labels its are k (n ∷ ns) ss st m t (end.ShorthandCase h.0) (start_is labels its are k (n ∷ ns) ss st m t n ns ∙ h.1)
round_takes labels its are k (n ∷ ns) ss st m there (at was below is put) t agree l =
    let x = any_exchange l was below in
    let h = hits labels its are st.groups (length labels) t.whole.stand false ss (n ∷ ns) was below below x.0 x.1 agree (bound labels its are k (n ∷ ns) ss st m t) in
    applied labels its are k (n ∷ ns) ss st m t (end.Node h.item) (start_is labels its are k (n ∷ ns) ss st m t n ns ∙ h.walks)

pub target_may : (labels : List Label) (its : Items) → AreLabels labels its → (i j : ℕ) → target labels (end.Node i) ≡ Some j
    → its.is_node i ≡ true
    → may_be_target (its.node_of i).kind ≡ true
target_may labels its are i j is node =
    let a = are.within i node in
    by (may_be_target (its.node_of i).kind) refl (sym (ap (λ (b : Bool). if b then Some i else None) (ap is_some_target a.1 ∙ ap may_be_target a.2)) ∙ is)
  where
    by : (b : Bool) → may_be_target (its.node_of i).kind ≡ b → (if may_be_target (its.node_of i).kind then Some i else None) ≡ Some j
        → may_be_target (its.node_of i).kind ≡ true
    by true is e = is
    by false is e = absurd (not_none (sym (ap (λ (b : Bool). if b then Some i else None) is) ∙ e))

module _ (labels : List Label) (its : Items) (are : AreLabels labels its) (k n : ℕ) (ns : List ℕ) (ss : List Step) (st : State) (m : Forest)
    (t : AwaitsTurn labels its k st m) (agree : Agree labels its (n ∷ ns) ss) where
  -- where a path misses, its end is no target
  none_to : Misses ss m → (e : End) → walked labels its are st.groups (length labels) false (n ∷ ns) t.whole.items ≡ Some e → (i : ℕ)
      → target labels e ≡ Some i → ⊥
  none_to misses (end.Start x) w i is = not_none is
  none_to misses (end.ShorthandCase x) w i is = not_none is
  none_to misses (end.Node x) w i is =
      let f = finds labels its are st.groups (length labels) t.whole.stand false ss (n ∷ ns) x agree (bound labels its are k (n ∷ ns) ss st m t) w in
      misses f.target f.below f.there (f.leads, ap (λ (y : Node). may_be_target y.kind) f.is ∙ target_may labels its are x i is f.is_node)

  -- the end of an augment that has its turn
  end_is : (e : End) → walked labels its are st.groups (length labels) false (n ∷ ns) t.whole.items ≡ Some e
      → get_or (turn labels k 0 (length labels) (n ∷ ns) st).ends k None ≡ Some e
  end_is e w =
      ap (λ (s : State). get_or s.ends k None)
      (turn_is labels its are k (n ∷ ns) ss st m t (Some e) (start_is labels its are k (n ∷ ns) ss st m t n ns ∙ w))
      ∙ get_or-set_same st.ends k (Some e) None t.copies

  -- where its path hits a node, this is its target
  pub hit_target : (node : Node) (below put there : Forest) → Hits ss m node below put there
      → (i : ℕ) × (target_of labels (turn labels k 0 (length labels) (n ∷ ns) st).ends k ≡ Some i) × (node ≡ its.node_of i)
  hit_target node below put there (leads, may) =
      let h = hits labels its are st.groups (length labels) t.whole.stand false ss (n ∷ ns) node below put there leads agree (bound labels its are k (n ∷ ns) ss st m t) in
      let x = are.within h.item h.is_node in (
        h.item,
        ap (option_and_then (target labels)) (end_is (end.Node h.item) h.walks)
            ∙ ap (λ (b : Bool). if b then Some h.item else None)
            (ap is_some_target x.1 ∙ (ap may_be_target x.2 ∙ (ap (λ (y : Node). may_be_target y.kind) (sym h.is) ∙ may))),
        h.is,
      )

  -- and where it misses, it has none
  pub miss_target : Misses ss m → target_of labels (turn labels k 0 (length labels) (n ∷ ns) st).ends k ≡ None
  miss_target misses = by (walked labels its are st.groups (length labels) false (n ∷ ns) t.whole.items) refl
    where
      no_target : (e : End) (o : Option ℕ) → target labels e ≡ o → ((i : ℕ) → target labels e ≡ Some i → ⊥) → target labels e ≡ None
      no_target e None is never = is
      no_target e (Some i) is never = absurd (never i is)

      by : (o : Option End) → walked labels its are st.groups (length labels) false (n ∷ ns) t.whole.items ≡ o
          → target_of labels (turn labels k 0 (length labels) (n ∷ ns) st).ends k ≡ None
      by None w =
          ap (λ (s : State). target_of labels s.ends k)
          (turn_is labels its are k (n ∷ ns) ss st m t None (start_is labels its are k (n ∷ ns) ss st m t n ns ∙ w))
          ∙ ap (option_and_then (target labels)) t.waits
      by (Some e) w = ap (option_and_then (target labels)) (end_is e w) ∙ no_target e (target labels e) refl (none_to misses e w)

pub round_misses : (labels : List Label) (its : Items) → AreLabels labels its → RoundMisses labels its
round_misses labels its are k [] ss st m t agree misses =
    ap (λ (s : State). s.groups) (turn_is labels its are k [] ss st m t (Some (end.Start 0)) refl)
round_misses labels its are k (n ∷ ns) ss st m t agree misses =
    by (walked labels its are st.groups (length labels) false (n ∷ ns) t.whole.items) refl
  where
    nothing_moves : (e : End) (o : Option ℕ) → target labels e ≡ o → ((i : ℕ) → o ≡ Some i → ⊥)
        → (settle labels k (Some e) st).groups ≡ st.groups
    nothing_moves e None is no_target = ap (λ p. give (group_of_augment labels k) p st.groups) is
    nothing_moves e (Some i) is no_target = absurd (no_target i refl)

    by : (o : Option End) → walked labels its are st.groups (length labels) false (n ∷ ns) t.whole.items ≡ o
        → (turn labels k 0 (length labels) (n ∷ ns) st).groups ≡ st.groups
    by None w =
        ap (λ (s : State). s.groups) (turn_is labels its are k (n ∷ ns) ss st m t None (start_is labels its are k (n ∷ ns) ss st m t n ns ∙ w))
    by (Some e) w =
        ap (λ (s : State). s.groups) (turn_is labels its are k (n ∷ ns) ss st m t (Some e) (start_is labels its are k (n ∷ ns) ss st m t n ns ∙ w)) ∙ nothing_moves e (target labels e) refl (λ i is. none_to labels its are k n ns ss st m t agree misses e w i is)
