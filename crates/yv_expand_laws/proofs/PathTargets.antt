-- An augment of a uses adds to the item that shows the node to which its path leads, or to none.
use Rattle.std.proofs.Common.{inl, inr, ◌≡◌, ℕ, ◌<◌, ◌≤◌, ◌⊎◌, Bool, true, false, if◌then◌else◌, List, [], ◌∷◌, refl, sym, ◌∙◌, ap, arith, Option, Some, None}
use Rattle.std.specs.List.{Contains}
use Rattle.std.specs.Option.{option_and_then, option_map}
use Rattle.yv_expand_rounds.specs.declared.end.End.{End}
use Rattle.yv_expand_rounds.specs.declared.end.End.TheVariants as end
use Rattle.yv_expand_rounds.specs.declared.label.Label.{Label}
use Rattle.yv_expand_rounds.specs.Groups.{Groups, members_of}
use Rattle.yv_expand_statements.specs.Kinds.{may_be_target}
use Rattle.yv_expand_rounds.specs.Paths.{path_end}
use Rattle.yv_expand_rounds.specs.Turns.{is_some_target, target}
use Rattle.yv_expand_definition.specs.Nodes.{Forest, Node}
use Rattle.yv_expand_definition.specs.Paths.{Step}
use Rattle.yv_expand_laws.specs.Comes.{Hits, Misses}
use Rattle.yv_expand_laws.specs.PathTargets.{PathsReach, reached_in}
use Rattle.yv_expand_laws.specs.Shows.{Agree, AreLabels, IsWithin, Items, Shows}
use Rattle.yv_expand_laws.proofs.FoundItems.{not_none}
use Rattle.yv_expand_laws.proofs.Least.{answer_is}
use Rattle.yv_expand_laws.proofs.BlockNodes.{less_first}
use Rattle.yv_expand_laws.proofs.WaitingAugments.{target_may}
use Rattle.yv_expand_laws.proofs.PathAgreement.{finds, hits, walked}

module _ (labels : List Label) (its : Items) (are : AreLabels labels its) (groups : Groups) (g lo hi limit : ℕ) (ss : List Step) (m : Forest) (low : hi ≤ limit)
    (others : (i : ℕ) → Contains (members_of groups g) i → ((lo ≤ i) × (i < hi)) ⊎ (limit ≤ i))
    (marks : (i j : ℕ) → Contains (members_of groups g) i → Contains (members_of groups g) j → its.given i ≡ its.given j) (S : Shows its groups g lo hi m) where
  bound : (x : ℕ) → S.owns x ≡ true → x < limit
  bound x o = (let u = (S.bounds x o).1 in omega (arith, u, low))

  start_is : (n : ℕ) (ns : List ℕ) → path_end labels groups limit (n ∷ ns) (end.Start g) ≡ walked labels its are groups limit false (n ∷ ns) S.items
  start_is n ns =
      ap (λ o. option_and_then (path_end labels groups limit ns) (option_map (λ j. end.Node j) o))
      (answer_is its.given labels n (IsWithin groups g lo hi) (members_of groups g) S.items limit are.given S.orders (λ i v. v.0)
      (λ j h. elim (others j h) [ inl v ↦ inl (h, v) | inr v ↦ inr v ])
      (λ j l h ok past v. (let u = v.1.1 in less_first its.given l j (marks l j v.0 h) (omega (arith, u, low, past)))))

  reaches : (names : List ℕ) → Agree labels its names ss → (node : Node) (below put there : Forest) → Hits ss m node below put there
      → (i : ℕ) × (reached_in labels groups g limit names ≡ Some i) × (node ≡ its.node_of i) × (lo ≤ i) × (i < hi)
  reaches names agree node below put there (leads, may) =
      let h = hits labels its are groups limit S.stand false ss names node below put there leads agree bound in
      let x = are.within h.item h.is_node in
      let w = S.bounds h.item h.has in (
        h.item,
        start names h.item h.walks
            (ap (λ (b : Bool). if b then Some h.item else None) (ap is_some_target x.1 ∙ (ap may_be_target x.2 ∙ (ap (λ (y : Node). may_be_target y.kind) (sym h.is) ∙ may)))),
        h.is,
        w.0,
        w.1,
      )
    where
      start : (names : List ℕ) (i : ℕ) → walked labels its are groups limit false names S.items ≡ Some (end.Node i) → target labels (end.Node i) ≡ Some i
          → reached_in labels groups g limit names ≡ Some i
      start [] i walks is = absurd (not_none walks)
      start (n ∷ ns) i walks is = ap (option_and_then (target labels)) (start_is n ns ∙ walks) ∙ is

  reaches_none : (names : List ℕ) → Agree labels its names ss → Misses ss m → reached_in labels groups g limit names ≡ None
  reaches_none [] agree missed = refl
  reaches_none (n ∷ ns) agree missed = by (walked labels its are groups limit false (n ∷ ns) S.items) refl
    where
      never : (e : End) → walked labels its are groups limit false (n ∷ ns) S.items ≡ Some e → (i : ℕ) → target labels e ≡ Some i → ⊥
      never (end.Start x) w i is = not_none is
      never (end.ShorthandCase x) w i is = not_none is
      never (end.Node x) w i is =
          let f = finds labels its are groups limit S.stand false ss (n ∷ ns) x agree bound w in
          missed f.target f.below f.there (f.leads, ap (λ (y : Node). may_be_target y.kind) f.is ∙ target_may labels its are x i is f.is_node)

      none_at : (e : End) (o : Option ℕ) → target labels e ≡ o → ((i : ℕ) → target labels e ≡ Some i → ⊥) → target labels e ≡ None
      none_at e None is no_target = is
      none_at e (Some i) is no_target = absurd (no_target i is)

      by : (o : Option End) → walked labels its are groups limit false (n ∷ ns) S.items ≡ o → reached_in labels groups g limit (n ∷ ns) ≡ None
      by None w = ap (option_and_then (target labels)) (start_is n ns ∙ w)
      by (Some e) w = ap (option_and_then (target labels)) (start_is n ns ∙ w) ∙ none_at e (target labels e) refl (never e w)

pub paths_reach : (labels : List Label) (its : Items) → AreLabels labels its → PathsReach labels its
paths_reach labels its are groups g lo hi limit names ss m low others marks agree S = (
  (λ node below put there hit. reaches labels its are groups g lo hi limit ss m low others marks S names agree node below put there hit),
  (λ missed. reaches_none labels its are groups g lo hi limit ss m low others marks S names agree missed),
)
