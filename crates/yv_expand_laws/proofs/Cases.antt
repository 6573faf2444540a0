-- Paths lead to cases that are left out, and nowhere, alike by items and by nodes.
use Rattle.std.proofs.Common.{◌≡◌, ℕ, ◌+◌, ◌<◌, Bool, true, false, if◌then◌else◌, List, [], ◌∷◌, refl, sym, ◌∙◌, ap, Option, Some, None}
use Rattle.std.specs.Option.{option_and_then, option_map}
use Rattle.std.proofs.lemmas.Bool.{false≢true}
use Rattle.yv_expand_rounds.specs.declared.end.End.{End}
use Rattle.yv_expand_rounds.specs.declared.end.End.TheVariants as end
use Rattle.yv_expand_rounds.specs.declared.label.Label.{Label}
use Rattle.yv_expand_rounds.specs.Groups.{Groups}
use Rattle.yv_expand_statements.specs.Kinds.{is_choice}
use Rattle.yv_expand_rounds.specs.Labels.{is_named}
use Rattle.yv_expand_rounds.specs.Paths.{answer, end_at, path_end, step_end}
use Rattle.yv_expand_rounds.specs.Paths as by_label
use Rattle.yv_expand_definition.specs.Nodes.{Forest, join, node, none}
use Rattle.yv_expand_definition.specs.Paths.{Leads, LeadsNowhere, Step, answers, at, is_shorthand, shorthand_case}
use Rattle.yv_expand_definition.specs.Paths.Leads.{past, into, to_case, into_case}
use Rattle.yv_expand_laws.specs.Shows.{Agree, AreLabels, Items, Stand}
use Rattle.yv_expand_laws.specs.Shows.Stand.{no_items as none_stand, not_a_node, shown_node}
use Rattle.yv_expand_laws.proofs.FoundItems.{not_none}
use Rattle.yv_expand_laws.proofs.Least.{find}
use Rattle.yv_expand_laws.proofs.PathAgreement.{arrives, ended_node, finds, named_is, named_no, none_leads, walked, walks_case, walks_past, walks_to}

module _ (labels : List Label) (its : Items) (are : AreLabels labels its) (groups : Groups) (limit : ℕ) where
  -- a path that has taken a step is past the start
  abbrev IsPast : End → Type 0
  IsPast (end.Start g) = ⊥
  IsPast (end.Node i) = Unit {0}
  IsPast (end.ShorthandCase i) = Unit {0}

  past_of : (a b : End) → Some a ≡ Some b → IsPast a → IsPast b
  past_of (end.Start g) b e p = absurd p
  past_of (end.Node i) (end.Node j) e p = tt
  past_of (end.Node i) (end.ShorthandCase j) e p = tt
  past_of (end.Node i) (end.Start g) e p = (let bad : Some (end.Node i) ≡ Some (end.Start g) = e in cc)
  past_of (end.ShorthandCase i) (end.Node j) e p = tt
  past_of (end.ShorthandCase i) (end.ShorthandCase j) e p = tt
  past_of (end.ShorthandCase i) (end.Start g) e p = (let bad : Some (end.ShorthandCase i) ≡ Some (end.Start g) = e in cc)

  step_past : (a b : End) (name : ℕ) → IsPast a → step_end labels groups limit a name ≡ Some b → IsPast b
  step_past (end.Start g) b name p e = absurd p
  step_past (end.Node i) b name p e = by (answer labels groups limit (i + 1) name) e
    where
      arrived_past : (j : ℕ) (s : Bool) → IsPast (if s then end.ShorthandCase j else end.Node j)
      arrived_past j true = tt
      arrived_past j false = tt

      by : (o : Option ℕ) → option_map (end_at labels i) o ≡ Some b → IsPast b
      by None h = absurd (not_none h)
      by (Some j) h = past_of (end_at labels i j) b h (arrived_past j (by_label.is_shorthand _ _))
  step_past (end.ShorthandCase i) b name p e = by (is_named labels name i) e
    where
      by : (s : Bool) → (if s then Some (end.Node i) else None) ≡ Some b → IsPast b
      by true h = past_of (end.Node i) b h tt
      by false h = absurd (not_none h)

  ended_past : (names : List ℕ) (a b : End) → IsPast a → path_end labels groups limit names a ≡ Some b → IsPast b
  ended_past [] a b p e = past_of a b e p
  ended_past (name ∷ names) a b p e = by (step_end labels groups limit a name) refl e (λ m q h. ended_past names m b q h)
    where
      by : (o : Option End) → step_end labels groups limit a name ≡ o → option_and_then (path_end labels groups limit names) o ≡ Some b
          → ((m : End) → IsPast m → path_end labels groups limit names m ≡ Some b → IsPast b) → IsPast b
      by None is h later = absurd (not_none h)
      by (Some m) is h later = later m (step_past a m name p is) h

  pub no_start : (c : Bool) (names items : List ℕ) (g : ℕ) → walked labels its are groups limit c names items ≡ Some (end.Start g) → ⊥
  no_start c [] items g e = not_none e
  no_start c (n ∷ ns) items g e = by (find (is_named labels n) items) e
    where
      arrives_past : (j : ℕ) (s : Bool) → IsPast (if s then end.ShorthandCase j else end.Node j)
      arrives_past j true = tt
      arrives_past j false = tt

      by : (o : Option ℕ) → option_and_then (path_end labels groups limit ns) (option_map (arrives labels its are groups limit c) o) ≡ Some (end.Start g) → ⊥
      by None h = not_none h
      by (Some j) h = ended_past ns (arrives labels its are groups limit c j) (end.Start g) (arrives_past j (is_shorthand c (its.node_of j))) h

  no_steps : {c : Bool} {f : Forest} {e : _} {a : Forest} → Leads c [] f e a → ⊥
  no_steps l = elim l [ ]

  -- where a path leads to a case that is left out it ends at one
  pub hits_case : {owns : ℕ → Bool} {items : List ℕ} {f : Forest} → Stand its groups owns items f → (c : Bool) (ss : List Step) (names : List ℕ) (there : Forest)
      → Leads c ss f shorthand_case there → Agree labels its names ss → ((x : ℕ) → owns x ≡ true → x < limit) → (i : ℕ) × (walked labels its are groups limit c names items ≡ Some (end.ShorthandCase i))
  hits_case none_stand c ss names there l agree bound = absurd (none_leads l)
  hits_case (not_a_node has no_node rest) c [] names there l agree bound = absurd (no_steps l)
  hits_case (not_a_node has no_node rest) c (s ∷ ss) [] there l agree bound = absurd agree
  hits_case (not_a_node {i = i} {others = others} has no_node rest) c (s ∷ ss) (n ∷ ns) there l agree bound =
      let r = hits_case rest c (s ∷ ss) (n ∷ ns) there l agree bound in
      (r.0, walks_past labels its are groups limit c n ns i others (named_no labels its are groups limit n s i agree.0 no_node) ∙ r.1)
  hits_case (shown_node low rest is_node s o below behind) c ss [] there l agree bound = absurd (no_names ss l agree)
    where
      no_names : (ss : List Step) {c : Bool} {f : Forest} {e : _} {a : Forest} → Leads c ss f e a → Agree labels its [] ss → ⊥
      no_names [] l agree = elim l [ ]
      no_names (s ∷ ss) l agree = agree
  hits_case (shown_node {i = i} {others = others} low rest is_node s o B F) c ss (n ∷ ns) there (past {s = step} {there = after} isnt l) agree bound =
      let r = hits_case F c ss (n ∷ ns) after l agree (λ x h. bound x (s.behind_in x h)) in
      (r.0, walks_past labels its are groups limit c n ns i others (named_is labels its are groups limit n step i false agree.0 is_node isnt) ∙ r.1)
  hits_case (shown_node low rest is_node s o B F) c ss (n ∷ []) there (into meets short l) agree bound = absurd agree.1
  hits_case (shown_node {i = i} {items = kids} {others = others} {below = below} low rest is_node s o B F) c ss (n ∷ m ∷ ns) there (into {s = step} {t = next} {ss = steps} {there = after} meets short l) agree bound =
      let r = hits_case B (is_choice (its.node_of i).kind) (next ∷ steps) (m ∷ ns) after l agree.1 (λ x a. bound x (s.below_in x a)) in (
        r.0,
        walks_to labels its are groups limit c n (m ∷ ns) i others false (named_is labels its are groups limit n step i true agree.0 is_node meets) short
            ∙ (ended_node labels its are groups limit i m ns kids next low below is_node agree.1.0 o B (λ x a. bound x (s.below_in x a)) ∙ r.1),
      )
  hits_case (shown_node {i = i} {others = others} low rest is_node s o B F) _ ss (n ∷ []) there (to_case {s = step} meets short) agree bound =
      (i, walks_to labels its are groups limit true n [] i others true (named_is labels its are groups limit n step i true agree.0 is_node meets) short)
  hits_case (shown_node low rest is_node s o B F) _ ss (n ∷ m ∷ ns) there (to_case meets short) agree bound = absurd agree.1
  hits_case (shown_node low rest is_node s o B F) _ ss (n ∷ []) there (into_case meets short l) agree bound = absurd agree.1
  hits_case (shown_node low rest is_node s o B F) _ ss (n ∷ m ∷ ns) _ (into_case meets short (past isnt l)) agree bound = absurd (none_leads l)
  hits_case (shown_node low rest is_node s o B F) _ ss (n ∷ m ∷ []) _ (into_case meets short (into meets' short' l)) agree bound = absurd agree.1.1
  hits_case (shown_node {i = i} {items = kids} {others = others} {below = below} low rest is_node s o B F) _ ss (n ∷ m ∷ k ∷ ns) _
      (into_case {s = step} {t = next} meets short (into {t = third} {ss = steps} {there = after} meets' short' l)) agree bound =
      let r = hits_case B (is_choice (its.node_of i).kind) (third ∷ steps) (k ∷ ns) after l agree.1.1 (λ x a. bound x (s.below_in x a)) in (
        r.0,
        walks_to labels its are groups limit true n (m ∷ k ∷ ns) i others true (named_is labels its are groups limit n step i true agree.0 is_node meets) short
            ∙ (walks_case labels its are groups limit m (k ∷ ns) i (named_is labels its are groups limit m next i true agree.1.0 is_node meets')
            ∙ (ended_node labels its are groups limit i k ns kids third low below is_node agree.1.1.0 o B (λ x a. bound x (s.below_in x a)) ∙ r.1)),
      )

  -- it leads to a case that is left out
  abbrev pub FoundCase : (c : Bool) → List Step → Forest → Type 0
  FoundCase c ss f = (there : Forest) × Leads c ss f shorthand_case there

  no_node_case : (x i : ℕ) → Some (end.Node x) ≡ Some (end.ShorthandCase i) → ⊥
  no_node_case x i e = cc

  pub finds_case : {owns : ℕ → Bool} {items : List ℕ} {f : Forest} → Stand its groups owns items f → (c : Bool) (ss : List Step) (names : List ℕ) (i : ℕ)
      → Agree labels its names ss → ((x : ℕ) → owns x ≡ true → x < limit) → walked labels its are groups limit c names items ≡ Some (end.ShorthandCase i) → FoundCase c ss f
  finds_case stand c ss [] i agree bound e = absurd (not_none e)
  finds_case stand c [] (n ∷ ns) i agree bound e = absurd agree
  finds_case none_stand c (s ∷ ss) (n ∷ ns) i agree bound e = absurd (not_none e)
  finds_case (not_a_node {i = x} {others = others} has no_node rest) c (s ∷ ss) (n ∷ ns) i agree bound e =
      finds_case rest c (s ∷ ss) (n ∷ ns) i agree bound (sym (walks_past labels its are groups limit c n ns x others (named_no labels its are groups limit n s x agree.0 no_node)) ∙ e)
  finds_case (shown_node {i = x} {items = kids} {others = others} {below = below} {behind = behind} low rest is_node s o B F) c (st ∷ ss) (n ∷ ns) i agree bound e =
      by (answers st (its.node_of x)) refl (is_shorthand c (its.node_of x)) refl
      (λ e. finds_case F c (st ∷ ss) (n ∷ ns) i agree (λ x h. bound x (s.behind_in x h)) e)
      (λ ts ms a e. finds_case B (is_choice (its.node_of x).kind) ts ms i a (λ x h. bound x (s.below_in x h)) e)
    where
      from_node : (d : Bool) (t : Step) → answers t (its.node_of x) ≡ true → is_shorthand d (its.node_of x) ≡ false → (ts : List Step) (ms : List ℕ) → Agree labels its ms ts
          → ((ts : List Step) (ms : List ℕ) → Agree labels its ms ts → walked labels its are groups limit (is_choice (its.node_of x).kind) ms kids ≡ Some (end.ShorthandCase i)
          → FoundCase (is_choice (its.node_of x).kind) ts below)
          → path_end labels groups limit ms (end.Node x) ≡ Some (end.ShorthandCase i) → (tail : Forest) → FoundCase d (t ∷ ts) (node (its.node_of x) below tail)
      from_node d t meets short [] [] a later e tail = absurd (no_node_case x i e)
      from_node d t meets short [] (m ∷ ms) a later e tail = absurd a
      from_node d t meets short (u ∷ ts) [] a later e tail = absurd a
      from_node d t meets short (u ∷ ts) (m ∷ ms) a later e tail =
          let f = later (u ∷ ts) (m ∷ ms) a (sym (ended_node labels its are groups limit x m ms kids u low below is_node a.0 o B (λ y h. bound y (s.below_in y h))) ∙ e) in
          (node (its.node_of x) f.0 tail, into meets short f.1)

      from_case : (t : Step) → answers t (its.node_of x) ≡ true → is_shorthand true (its.node_of x) ≡ true → (ts : List Step) (ms : List ℕ) → Agree labels its ms ts
          → ((ts : List Step) (ms : List ℕ) → Agree labels its ms ts → walked labels its are groups limit (is_choice (its.node_of x).kind) ms kids ≡ Some (end.ShorthandCase i)
          → FoundCase (is_choice (its.node_of x).kind) ts below)
          → path_end labels groups limit ms (end.ShorthandCase x) ≡ Some (end.ShorthandCase i) → FoundCase true (t ∷ ts) (node (its.node_of x) below behind)
      from_case t meets short [] [] a later e = (node (its.node_of x) below behind, to_case meets short)
      from_case t meets short [] (m ∷ ms) a later e = absurd a
      from_case t meets short (u ∷ ts) [] a later e = absurd a
      from_case t meets short (u ∷ ts) (m ∷ ms) a later e = two (answers u (its.node_of x)) refl
        where
          two : (q : Bool) → answers u (its.node_of x) ≡ q → FoundCase true (t ∷ u ∷ ts) (node (its.node_of x) below behind)
          two false isnt =
              absurd (not_none (sym (ap (λ (q : Bool). option_and_then (path_end labels groups limit ms) (if q then Some (end.Node x) else None)) (named_is labels its are groups limit m u x false a.0 is_node isnt)) ∙ e))
          two true meets' =
              let f = from_node false u meets' refl ts ms a.1 later (sym (walks_case labels its are groups limit m ms x (named_is labels its are groups limit m u x true a.0 is_node meets')) ∙ e) none in
              (join f.0 behind, into_case meets short f.1)

      by : (q : Bool) → answers st (its.node_of x) ≡ q → (t : Bool) → is_shorthand c (its.node_of x) ≡ t
          → (walked labels its are groups limit c (n ∷ ns) others ≡ Some (end.ShorthandCase i) → FoundCase c (st ∷ ss) behind)
          → ((ts : List Step) (ms : List ℕ) → Agree labels its ms ts → walked labels its are groups limit (is_choice (its.node_of x).kind) ms kids ≡ Some (end.ShorthandCase i)
          → FoundCase (is_choice (its.node_of x).kind) ts below)
          → FoundCase c (st ∷ ss) (node (its.node_of x) below behind)
      by false isnt t short later inner =
          let f = later (sym (walks_past labels its are groups limit c n ns x others (named_is labels its are groups limit n st x false agree.0 is_node isnt)) ∙ e) in
          (node (its.node_of x) below f.0, past isnt f.1)
      by true meets false short later inner =
          from_node c st meets short ss ns agree.1 inner (sym (walks_to labels its are groups limit c n ns x others false (named_is labels its are groups limit n st x true agree.0 is_node meets) short) ∙ e) behind
      by true meets true short later inner = of_choice c short (sym (walks_to labels its are groups limit c n ns x others true (named_is labels its are groups limit n st x true agree.0 is_node meets) short) ∙ e)
        where
          of_choice : (c : Bool) → is_shorthand c (its.node_of x) ≡ true → path_end labels groups limit ns (end.ShorthandCase x) ≡ Some (end.ShorthandCase i)
              → FoundCase c (st ∷ ss) (node (its.node_of x) below behind)
          of_choice false short e = absurd (false≢true short)
          of_choice true short e = from_case st meets short ss ns agree.1 inner e

  -- where it leads nowhere it ends nowhere
  pub ends_nowhere : {owns : ℕ → Bool} {items : List ℕ} {f : Forest} → Stand its groups owns items f → (ss : List Step) (names : List ℕ)
      → Agree labels its names ss → ((x : ℕ) → owns x ≡ true → x < limit) → LeadsNowhere ss f → walked labels its are groups limit false names items ≡ None
  ends_nowhere {items = items} stand ss names agree bound nowhere = by (walked labels its are groups limit false names items) refl
    where
      by : (o : Option End) → walked labels its are groups limit false names items ≡ o → walked labels its are groups limit false names items ≡ None
      by None is = is
      by (Some (end.Start g)) is = absurd (no_start false names items g is)
      by (Some (end.Node i)) is =
          (let f = finds labels its are groups limit stand false ss names i agree bound is in absurd (nowhere (at f.target f.below f.target f.below) f.there f.leads))
      by (Some (end.ShorthandCase i)) is = (let f = finds_case stand false ss names i agree bound is in absurd (nowhere shorthand_case f.0 f.1))
