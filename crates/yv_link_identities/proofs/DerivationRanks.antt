-- What is derived from an identity, as it is found rank by rank.
use Rattle.std.proofs.Common.{◌≡◌, ℕ, ◌-◌, ◌<◌, ◌⊎◌, inl, inr, true, false, List, [], ◌∷◌, ◌++◌, length, get_or, refl, sym, ◌∙◌, ap, subst, arith}
use Rattle.std.proofs.lemmas.List.{get_or_append_left, get_or_default}
use Rattle.std.proofs.lemmas.Option.{slice_get_read}
use Rattle.std.specs.Ordering.{nat_cmp}
use Rattle.std.specs.BTreeSet.{BTreeSet, UpdatesBy}
use Rattle.std.specs.List.{All, Contains}
use Rattle.std.specs.declared.vec.Vec.{Vec}
use Rattle.std.specs.declared.alloc.Global.{Global}
use Rattle.yv_base_graph.specs.Graph.{Graph, IsGraph, HasEdge, LeadsTo, by_edge, by_way, AreRanks, ArePlaces}
use Rattle.yv_link_identities.specs.InnerWays.{AddsRanks, AreBelow, AreReversed}
use Rattle.yv_link_identities.proofs.PassingNumbers.{longer, last_of}
use Rattle.yv_link_identities.proofs.BaseGraph.{pushed_in}
use Rattle.yv_link_identities.proofs.GraphReversal.{edge_back, edge_forth}
use Rattle.yv_link_identities.proofs.Sets.{Has, added_is, added_keeps, added_has, taken_was, taken_is, none_in, least_or, least_above}
use Rattle.yv_link_identities.proofs.Ways.{edge_within, edge_place}

pub ranks_none : (ranks nodes : List ℕ) (set : BTreeSet ℕ) → nodes ≡ [] → AddsRanks ranks nodes set set
ranks_none ranks nodes set e = record {
  rank = λ r h. inl h;
  kept = λ r h. h;
  all = λ a c. let none : length nodes ≡ 0 = ap length e in absurd (omega (arith, c.1, none));
}

-- a rank more
pub ranks_more : (ranks xs ys : List ℕ) (node rank : ℕ) (old set set' : BTreeSet ℕ) → AddsRanks ranks xs old set → ys ≡ xs ++ node ∷ [] → rank ≡ get_or ranks node 0 → UpdatesBy nat_cmp (nat_cmp rank) set set' true → AddsRanks ranks ys old set'
ranks_more ranks xs ys node rank old set set' m e at u = rw e (record {
  rank = λ r h. elim (added_is set set' rank r u h) [
    | inl same ↦ inr (node, (length xs, omega (arith, longer xs node), last_of xs node node), sym at ∙ same)
    | inr there ↦ elim (m.rank r there) [
      | inl first ↦ inl first
      | inr (a, (k, l, is), it) ↦ inr (a, (k, omega (arith, l, longer xs node), get_or_append_left xs (node ∷ []) a k l ∙ is), it)
    ]
  ];
  kept = λ r h. added_keeps set set' rank r u (m.kept r h);
  all = λ a c. elim (pushed_in xs node a c) [
    | inl before ↦ added_keeps set set' rank (get_or ranks a 0) u (m.all a before)
    | inr same ↦ added_has set set' rank (get_or ranks a 0) u (at ∙ ap (λ n. get_or ranks n 0) (sym same))
  ];
})

-- what is found leads to one, and what has a base there is found too or waits
pub record Finding (g : Graph) (ranks order : List ℕ) (to : ℕ) (found pending : BTreeSet ℕ) : Type 0 where
  pub leads : (a : ℕ) → Has found a → LeadsTo g a to
  pub waits : (r : ℕ) → Has pending r → (r < length order) × LeadsTo g (get_or order r 0) to
  pub next : (a b : ℕ) → HasEdge g a b → (b ≡ to) ⊎ Has found b → Has found a ⊎ Has pending (get_or ranks a 0)

module _ (g back : Graph) (ranks order : List ℕ) (is_graph : IsGraph g) (reversed : AreReversed g back) (r : AreRanks g ranks) (places : ArePlaces ranks order) where
  -- edges back, as they are read
  edge_of : (node a : ℕ) (row : Vec ℕ Global) (items : List ℕ) → node < length g → row ≡ get_or back node row → items ≡ row.items → Contains items a → HasEdge g a node
  edge_of node a row items h at is c = edge_forth g back a node reversed (row, slice_get_read back (length back) node row refl (omega (arith, h, reversed.each)) at, rw (← is) c)

  of_edge : (node a : ℕ) (row : Vec ℕ Global) (items : List ℕ) → row ≡ get_or back node row → items ≡ row.items → HasEdge g a node → Contains items a
  of_edge node a row items at is e = rw is (edge_place back node a row at (edge_back g back a node reversed e))

  pub derived_ranked : (node : ℕ) (row : Vec ℕ Global) (items known : List ℕ) → node < length g → row ≡ get_or back node row → items ≡ row.items → known ≡ ranks → All (λ a. a < length known) items
  derived_ranked node row items known h at is e k d l =
      let edge : HasEdge g (get_or items k d) node = edge_of node (get_or items k d) row items h at is (k, l, get_or_default items k (get_or items k d) d l) in
      let within : get_or items k d < length g = (edge_within g (get_or items k d) node is_graph edge).0 in
      omega (arith, within, r.each, ap length e)

  -- what stands at the rank of a node that leads there
  stands : (a to rank : ℕ) → a < length g → get_or ranks a 0 ≡ rank → LeadsTo g a to → (rank < length order) × LeadsTo g (get_or order rank 0) to
  stands a to rank h e w =
      let f = places.found a (omega (arith, h, r.each)) in
      let is : get_or order rank 0 ≡ a = ap (λ n. get_or order n 0) (sym e) ∙ f.1 in
      (omega (arith, f.0, e), subst (λ (n : ℕ). LeadsTo g n to) (sym is) w)

  pub finding_none : (to : ℕ) (row : Vec ℕ Global) (items known : List ℕ) (found old pending : BTreeSet ℕ) → to < length g → row ≡ get_or back to row → items ≡ row.items → known ≡ ranks → found.keys ≡ [] → old.keys ≡ [] → AddsRanks known items old pending → Finding g ranks order to found pending
  finding_none to row items known found old pending h at is e empty empty' adds = record {
    leads = λ a there. absurd (none_in found a empty there);
    waits = λ rank there. elim (adds.rank rank there) [
      | inl before ↦ absurd (none_in old rank empty' before)
      | inr (a, c, ranked) ↦
          let edge : HasEdge g a to = edge_of to a row items h at is c in
          stands a to rank (edge_within g a to is_graph edge).0 (ap (λ xs. get_or xs a 0) (sym e) ∙ ranked) (by_edge edge)
    ];
    next = λ a b edge o. elim o [
      | inl same ↦
          let c : Contains items a = of_edge to a row items at is (subst (λ (n : ℕ). HasEdge g a n) same edge) in
          inr (subst (λ (xs : List ℕ). Has pending (get_or xs a 0)) e (adds.all a c))
      | inr there ↦ absurd (none_in found b empty there)
    ];
  }

  -- the node at a rank
  pub node_within : (rank node : ℕ) → rank < length order → node ≡ get_or order rank 0 → node < length g
  node_within rank node h at = omega (arith, at, places.within rank h, r.each)

  pub finding_more : (to rank node : ℕ) (row : Vec ℕ Global) (items known : List ℕ) (found found' pending rest pending' : BTreeSet ℕ) → Finding g ranks order to found pending → Has pending rank → UpdatesBy nat_cmp (nat_cmp rank) pending rest false → node ≡ get_or order rank 0 → UpdatesBy nat_cmp (nat_cmp node) found found' true → row ≡ get_or back node row → items ≡ row.items → known ≡ ranks → AddsRanks known items rest pending' → Finding g ranks order to found' pending'
  finding_more to rank node row items known found found' pending rest pending' m has taken at added row_at is e adds =
      let wait = m.waits rank has in
      let within : node < length g = node_within rank node wait.0 at in
      let way : LeadsTo g node to = subst (λ (n : ℕ). LeadsTo g n to) (sym at) wait.1 in
      record {
        leads = λ a there. elim (added_is found found' node a added there) [
          | inl same ↦ subst (λ (n : ℕ). LeadsTo g n to) same way
          | inr before ↦ m.leads a before
        ];
        waits = λ k there. elim (adds.rank k there) [
          | inl before ↦ m.waits k (taken_was pending rest rank k taken before)
          | inr (a, c, ranked) ↦
              let edge : HasEdge g a node = edge_of node a row items within row_at is c in
              stands a to k (edge_within g a node is_graph edge).0 (ap (λ xs. get_or xs a 0) (sym e) ∙ ranked) (by_way edge way)
        ];
        next = λ a b edge o. elim (before_or b node (added_by b o)) [
          | inl same ↦
              let c : Contains items a = of_edge node a row items row_at is (subst (λ (n : ℕ). HasEdge g a n) (sym same) edge) in
              inr (subst (λ (xs : List ℕ). Has pending' (get_or xs a 0)) e (adds.all a c))
          | inr first ↦ elim (m.next a b edge first) [
            | inl there ↦ inl (added_keeps found found' node a added there)
            | inr waiting ↦ elim (taken_is pending rest rank (get_or ranks a 0) taken waiting) [
              | inl now ↦
                  let f = places.found a (omega (arith, (edge_within g a b is_graph edge).0, r.each)) in
                  let is_node : node ≡ a = at ∙ ap (λ n. get_or order n 0) now ∙ f.1 in
                  inl (added_has found found' node a added is_node)
              | inr still ↦ inr (adds.kept (get_or ranks a 0) still)
            ]
          ]
        ];
      }
    where
      added_by : (b : ℕ) → (b ≡ to) ⊎ Has found' b → (b ≡ to) ⊎ ((node ≡ b) ⊎ Has found b)
      added_by b (inl same) = inl same
      added_by b (inr there) = inr (added_is found found' node b added there)

      before_or : (b n : ℕ) → (b ≡ to) ⊎ ((n ≡ b) ⊎ Has found b) → (n ≡ b) ⊎ ((b ≡ to) ⊎ Has found b)
      before_or b n (inl same) = inr (inl same)
      before_or b n (inr (inl new)) = inl new
      before_or b n (inr (inr old)) = inr (inr old)

  -- the least rank rises
  pub least_rises : (to rank node : ℕ) (row : Vec ℕ Global) (items known : List ℕ) (found pending rest pending' : BTreeSet ℕ) → Finding g ranks order to found pending → pending.keys ≡ rank ∷ rest.keys → Has pending rank → ((a : ℕ) → Has rest a → rank < a) → node ≡ get_or order rank 0 → row ≡ get_or back node row → items ≡ row.items → known ≡ ranks → AddsRanks known items rest pending' → length order - least_or (length order) pending' < length order - least_or (length order) pending
  least_rises to rank node row items known found pending rest pending' m first has above at row_at is e adds =
      let wait = m.waits rank has in
      let within : node < length g = node_within rank node wait.0 at in
      let own : get_or ranks node 0 ≡ rank = ap (λ n. get_or ranks n 0) at ∙ places.placed rank wait.0 in
      let higher : rank < least_or (length order) pending' = least_above pending' (length order) rank wait.0 (λ k there. elim (adds.rank k there) [
        | inl before ↦ above k before
        | inr (a, c, ranked) ↦
            let edge : HasEdge g a node = edge_of node a row items within row_at is c in
            let is_k : get_or ranks a 0 ≡ k = ap (λ xs. get_or xs a 0) (sym e) ∙ ranked in
            omega (arith, r.falls a node edge, own, is_k)
      ]) in
      let least : least_or (length order) pending ≡ rank = ap (λ xs. get_or xs 0 (length order)) first in
      omega (arith, higher, least, wait.0)

  all_found : (to : ℕ) (found pending : BTreeSet ℕ) → Finding g ranks order to found pending → pending.keys ≡ [] → {a b : ℕ} → LeadsTo g a b → b ≡ to → Has found a
  all_found to found pending m empty (by_edge {a = a} {b = b} e) same = elim (m.next a b e (inl same)) [
    | inl there ↦ there
    | inr waiting ↦ absurd (none_in pending (get_or ranks a 0) empty waiting)
  ]
  all_found to found pending m empty (by_way {a = a} {b = c} {c = b} e w) same = elim (m.next a c e (inr (all_found to found pending m empty w same))) [
    | inl there ↦ there
    | inr waiting ↦ absurd (none_in pending (get_or ranks a 0) empty waiting)
  ]

  pub finding_all : (to : ℕ) (found pending : BTreeSet ℕ) → Finding g ranks order to found pending → pending.keys ≡ [] → AreBelow g to found
  finding_all to found pending m empty a = (m.leads a, λ w. all_found to found pending m empty w refl)
