-- A refine means a node, and changes no uses.
use Rattle.std.proofs.Common.{◌≡◌, ℕ, ◌+◌, nat_lt, Bool, true, false, if◌then◌else◌, List, [], ◌∷◌, map, refl, sym, ◌∙◌, subst, Option, Some, None}
use Rattle.std.specs.List.{slice_get}
use Rattle.std.specs.Option.{option_and_then, option_map}
use Rattle.std.proofs.lemmas.Bool.{false≢true}
use Rattle.std.proofs.lemmas.Option.{same_Some}
use Rattle.yv_link_scopes.specs.Files.{Files}
use Rattle.yv_expand_rounds.specs.declared.end.End.{End}
use Rattle.yv_expand_rounds.specs.declared.end.End.TheVariants as end
use Rattle.yv_expand_rounds.specs.declared.label.Label.{Label}
use Rattle.yv_expand_rounds.specs.Groups.{Groups, members_of}
use Rattle.yv_expand_rounds.specs.Labels.{is_named, is_some_named}
use Rattle.yv_expand_statements.specs.Kinds as kinds_are
use Rattle.yv_expand_rounds.specs.Paths.{answer, end_at, before, path_end, first_named, is_shorthand, step_end}
use Rattle.yv_expand_rounds.specs.Turns.{State}
use Rattle.yv_expand_uses.specs.Paths.{path_in}
use Rattle.yv_expand_augments.specs.Augmentation.{placed_from}
use Rattle.yv_expand_statements.specs.Kinds.{is_uses}
use Rattle.yv_expand_uses.specs.RefineTargets.{node_meant, node_at, refines_in}
use Rattle.yv_expand_augments.specs.RefineMeanings.{refined_from}
use Rattle.yv_expand_uses.specs.Spots.{Whole}
use Rattle.yv_expand_uses.specs.declared.spot.Spot.{Spot}
use Rattle.yv_expand_changes.specs.Changes.{changes}
use Rattle.yv_expand_laws.specs.ItemProperties.{is_some_node}
use Rattle.yv_expand_laws.proofs.BlockStatements.{left_is}
use Rattle.yv_expand_laws.proofs.FoundItems.{found, not_none}
use Rattle.yv_expand_laws.proofs.RefineStages.{Targets, changes_away, targets_then}

module _ (labels : List Label) where
  abbrev pub IsNode : ℕ → Type 0
  IsNode i = is_some_node (slice_get labels i) ≡ true

  named_node : (name i : ℕ) → is_named labels name i ≡ true → IsNode i
  named_node name i h = by (slice_get labels i) h
    where
      by : (o : Option Label) → is_some_named name o ≡ true → is_some_node o ≡ true
      by None h = absurd (false≢true h)
      by (Some l) h = left_is (kinds_are.is_node l.kind) _ h

  -- an end is no item, or a node
  abbrev EndIsNode : End → Type 0
  EndIsNode (end.Start g) = Unit {0}
  EndIsNode (end.Node i) = IsNode i
  EndIsNode (end.ShorthandCase i) = IsNode i

  module _ (groups : Groups) (limit : ℕ) where
    answer_node : (g name i : ℕ) → answer labels groups limit g name ≡ Some i → IsNode i
    answer_node g name i e = by (first_named labels name (members_of groups g)) refl e
      where
        by : (o : Option ℕ) → first_named labels name (members_of groups g) ≡ o → before limit o ≡ Some i → IsNode i
        by None is h = absurd (not_none h)
        by (Some j) is h = at (nat_lt j limit) h
          where
            at : (b : Bool) → (if b then Some j else None) ≡ Some i → IsNode i
            at true h = subst IsNode (same_Some j i h) (named_node name j (found labels name (members_of groups g) j is).1)
            at false h = absurd (not_none h)

    arrived_node : (i j : ℕ) → IsNode j → EndIsNode (end_at labels i j)
    arrived_node i j w = by (is_shorthand (slice_get labels i) (slice_get labels j))
      where
        by : (b : Bool) → EndIsNode (if b then end.ShorthandCase j else end.Node j)
        by true = w
        by false = w

    step_node : (s e : End) (name : ℕ) → EndIsNode s → step_end labels groups limit s name ≡ Some e → EndIsNode e
    step_node (end.Start g) e name w is = by (answer labels groups limit g name) refl is
      where
        by : (o : Option ℕ) → answer labels groups limit g name ≡ o → option_map (λ j. end.Node j) o ≡ Some e → EndIsNode e
        by None at h = absurd (not_none h)
        by (Some j) at h = subst EndIsNode (same_Some _ _ h) (answer_node g name j at)
    step_node (end.Node i) e name w is = by (answer labels groups limit (i + 1) name) refl is
      where
        by : (o : Option ℕ) → answer labels groups limit (i + 1) name ≡ o → option_map (end_at labels i) o ≡ Some e → EndIsNode e
        by None at h = absurd (not_none h)
        by (Some j) at h = subst EndIsNode (same_Some _ _ h) (arrived_node i j (answer_node (i + 1) name j at))
    step_node (end.ShorthandCase j) e name w is = by (is_named labels name j) is
      where
        by : (b : Bool) → (if b then Some (end.Node j) else None) ≡ Some e → EndIsNode e
        by true h = subst EndIsNode (same_Some _ _ h) w
        by false h = absurd (not_none h)

    ended_node : (names : List ℕ) (s e : End) → EndIsNode s → path_end labels groups limit names s ≡ Some e → EndIsNode e
    ended_node [] s e w is = subst EndIsNode (same_Some _ _ is) w
    ended_node (name ∷ names) s e w is = by (λ m. ended_node names m e) (step_end labels groups limit s name) refl is
      where
        by : ((m : End) → EndIsNode m → path_end labels groups limit names m ≡ Some e → EndIsNode e)
            → (o : Option End) → step_end labels groups limit s name ≡ o → option_and_then (path_end labels groups limit names) o ≡ Some e
            → EndIsNode e
        by later None at h = absurd (not_none h)
        by later (Some m) at h = later m (step_node s m name w at) h

  module _ (w : Whole) where
    meant_node : (s : Spot) (limit k i : ℕ) (st : State) → node_meant w labels s limit k st ≡ Some i → IsNode i
    meant_node s limit k i st e = by (path_end labels st.groups limit (path_in w s.module_file k) (end.Start s.group)) refl e
      where
        by : (o : Option End) → path_end labels st.groups limit (path_in w s.module_file k) (end.Start s.group) ≡ o
            → option_and_then node_at o ≡ Some i → IsNode i
        by None is h = absurd (not_none h)
        by (Some (end.Start g)) is h = absurd (not_none h)
        by (Some (end.ShorthandCase j)) is h = absurd (not_none h)
        by (Some (end.Node j)) is h =
            subst IsNode (same_Some j i h) (ended_node st.groups limit (path_in w s.module_file k) (end.Start s.group) (end.Node j) tt is)

    all_meant : (s : Spot) (number limit : ℕ) (st : State) (ks : List ℕ)
        → Targets IsNode (map (λ k. record { item = number; refine = k; target = node_meant w labels s limit k st }) ks)
    all_meant s number limit st [] = tt
    all_meant s number limit st (k ∷ ks) = ((λ i is. meant_node s limit k i st is), all_meant s number limit st ks)

    refined_nodes : (copies : ℕ) (limit : ℕ → ℕ) (i : ℕ) (ss : List Spot) → Targets IsNode (refined_from w labels copies limit i ss)
    refined_nodes copies limit i [] = tt
    refined_nodes copies limit i (s ∷ others) =
        targets_then IsNode (refined_from w labels copies limit (i + 1) others) _ (refined_nodes copies limit (i + 1) others) (by (is_uses s.label.kind))
      where
        st : State
        st = placed_from w labels copies (i + 1) others

        by : (b : Bool)
            → Targets IsNode (if b then map (λ k. record { item = i; refine = k; target = node_meant w labels s (limit i) k st }) (refines_in w.rows s.statement) else [])
        by true = all_meant s i (limit i) st (refines_in w.rows s.statement)
        by false = tt

    -- what is no node is changed by none
    pub no_changes : (files : Files) (spots : List Spot) (copies : ℕ) (limit : ℕ → ℕ) (ss : List Spot) (i : ℕ)
        → is_some_node (slice_get labels i) ≡ false
        → changes files spots (refined_from w labels copies limit 0 ss) i ≡ []
    no_changes files spots copies limit ss i isnt =
        changes_away files spots IsNode i (refined_from w labels copies limit 0 ss) (refined_nodes copies limit 0 ss) (λ is. false≢true (sym isnt ∙ is))
