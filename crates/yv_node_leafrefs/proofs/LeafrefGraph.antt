-- The graph of leafrefs.
use Rattle.std.proofs.Common.{◌≡◌, ◌↔◌, ◌⊎◌, inl, inr, ℕ, zero, suc, ◌+◌, ◌<◌, Bool, List, [], ◌∷◌, ◌++◌, length, get_or, refl, sym, ◌∙◌, ap, subst, arith, lit<, Option, Some, None, get_or-set_same, get_or-set_other}
use Rattle.std.proofs.lemmas.List.{get_or_default}
use Rattle.std.proofs.lemmas.Bool.{cases_lt, cases_eq}
use Rattle.std.proofs.lemmas.Option.{same_Some, none-some, slice_get_within, slice_get-get_or}
use Rattle.std.specs.Prelude.{option_to_list, take, slice_index, set}
use Rattle.std.specs.List.{slice_get, slice_index_or, Contains}
use Rattle.std.specs.declared.vec.Vec.{Vec}
use Rattle.std.specs.declared.alloc.Global.{Global}
use Rattle.yv_base_graph.specs.Graph.{Graph, IsGraph, HasEdge, IsMarked, AreOnCycles, IsFirstOnCycle, IsOrder}
use Rattle.yv_base_graph.specs.Ranks.{IfCycle, IfRanks}
use Rattle.yv_base_graph.specs.declared.cycles.Ranking.{Ranking}
use Rattle.yv_base_graph.specs.declared.cycles.Ranking.TheVariants.{Cycle, Ranks}
use Rattle.yv_base_graph.specs.Graph as graph
use Rattle.yv_node_leafrefs.specs.Schema.{Schema}
use Rattle.yv_node_leafrefs.specs.Targets.{RefersTo, LeadsTo, by_step, by_way, HasTypesOf, own, along}
use Rattle.yv_node_leafrefs.specs.InnerGraph.{AreTargets, AreSteps, AreLeafrefCycles, AreEdges, IsVisited, IsBehind, origin_of}
use Rattle.yv_node_leafrefs.proofs.AncestorPlaces.{longer}

contains_of : (o : Option ℕ) (row : List ℕ) (b : ℕ) → row ≡ option_to_list o → Contains row b ↔ (o ≡ Some b)
contains_of None row b e = ((λ c. absurd (omega (arith, c.1, ap length e))), (λ h. absurd (none-some b h)))
contains_of (Some x) row b e = rw e (
  (λ (k, l, at). let zero_is : k ≡ 0 = omega (arith, l) in ap Some (sym (ap (λ m. slice_index_or (x ∷ []) m b) zero_is) ∙ at)),
  (λ h. (0, lit< tt, same_Some x b h)),
)

row_at : {A : Type 0} (xs : List A) (y : A) (a : ℕ) (r : A) → slice_get (xs ++ y ∷ []) a ≡ Some r → (slice_get xs a ≡ Some r) ⊎ ((a ≡ length xs) × (y ≡ r))
row_at [] y zero r h = inr (refl, same_Some y r h)
row_at [] y (suc a) r h = cc
row_at (x ∷ xs) y zero r h = inl h
row_at (x ∷ xs) y (suc a) r h = elim (row_at xs y a r h) [ inl old ↦ inl old | inr (e, same) ↦ inr (omega (arith, e), same) ]

old_at : {A : Type 0} (xs : List A) (y : A) (a : ℕ) (r : A) → slice_get xs a ≡ Some r → slice_get (xs ++ y ∷ []) a ≡ Some r
old_at [] y a r h = cc
old_at (x ∷ xs) y zero r h = h
old_at (x ∷ xs) y (suc a) r h = old_at xs y a r h

new_at : {A : Type 0} (xs : List A) (y : A) → slice_get (xs ++ y ∷ []) (length xs) ≡ Some y
new_at [] y = refl
new_at (x ∷ xs) y = new_at xs y

-- one more row
pub edges_more : (targets : List (Option ℕ)) (n : ℕ) (g new : Graph) (row : Vec ℕ Global) (target : Option ℕ) → AreEdges targets n g → slice_index_or targets n None ≡ target → row.items ≡ option_to_list target
    → new ≡ g ++ row ∷ [] → AreEdges targets (n + 1) new
edges_more targets n g new row target are at items more = (ap length more ∙ longer g row ∙ ap (λ k. k + 1) are.0, λ a b l. rw more (to a b l, from a b l))
  where
    to : (a b : ℕ) → a < n + 1 → HasEdge (g ++ row ∷ []) a b → slice_index_or targets a None ≡ Some b
    to a b l (r, there, c) = elim (row_at g row a r there) [
      | inl old ↦ (are.1 a b (let w : a < length g = slice_get_within g a r old in omega (arith, w, are.0))).0 (r, old, c)
      | inr (e, same) ↦
          ap (λ k. slice_index_or targets k None) (e ∙ are.0) ∙ at ∙ (contains_of target r.items b (ap (λ (v : Vec ℕ Global). v.items) (sym same) ∙ items)).0 c
    ]

    from : (a b : ℕ) → a < n + 1 → slice_index_or targets a None ≡ Some b → HasEdge (g ++ row ∷ []) a b
    from a b l h = elim (cases_lt a n) [
      | inl less ↦ let edge = (are.1 a b less).1 h in (edge.0, old_at g row a edge.0 edge.1, edge.2)
      | inr up ↦
          let last : a ≡ length g = omega (arith, up, l, are.0) in
          (row, ap (slice_get (g ++ row ∷ [])) last ∙ new_at g row, (contains_of target row.items b items).1 (sym at ∙ ap (λ k. slice_index_or targets k None) (sym are.0 ∙ sym last) ∙ h))
    ]

target_within : (t : Schema) (a b : ℕ) → RefersTo t a b → b < length t.rows
target_within t a b r = slice_get_within t.rows b r.found r.at

source_within : (t : Schema) (a b : ℕ) → RefersTo t a b → a < length t.rows
source_within t a b r = slice_get_within t.rows a r.row r.is_leafref.at

pub steps_of : (t : Schema) (targets : List (Option ℕ)) (g : Graph) → length targets ≡ length t.rows → AreTargets t targets → AreEdges targets (length targets) g → AreSteps t g
steps_of t targets g each are edges = record {
  each = edges.0 ∙ each;
  within = λ a d l k e m.
      let row : Vec ℕ Global = get_or g a d in
      let b : ℕ = slice_index_or row.items k e in
      let edge : HasEdge g a b = (row, slice_get-get_or g a d l, (k, m, get_or_default row.items k b e m)) in
      let to : b < length t.rows = target_within t a b ((are a b).0 ((edges.1 a b (omega (arith, l, edges.0))).0 edge)) in
      omega (arith, to, edges.0, each);
  exact = λ a b. (
    (λ edge. (are a b).0 ((edges.1 a b (let w : a < length g = slice_get_within g a edge.0 edge.1 in omega (arith, w, edges.0))).0 edge)),
    (λ refers. (edges.1 a b (let w : a < length t.rows = source_within t a b refers in omega (arith, w, each))).1 ((are a b).1 refers)),
  );
}

module _ (t : Schema) (g : Graph) (steps : AreSteps t g) where
  leads_of : {a b : ℕ} → graph.LeadsTo g a b → LeadsTo t a b
  leads_of {a} {b} (graph.by_edge e) = by_step ((steps.exact a b).0 e)
  leads_of {a} (graph.by_way {b = c} e w) = by_way ((steps.exact a c).0 e) (leads_of w)

  pub way_of : {a b : ℕ} → LeadsTo t a b → graph.LeadsTo g a b
  way_of {a} {b} (by_step r) = graph.by_edge ((steps.exact a b).1 r)
  way_of {a} (by_way {b = c} r w) = graph.by_way ((steps.exact a c).1 r) (way_of w)

  pub cycles_of : (marks : List Bool) → AreOnCycles g marks → AreLeafrefCycles t marks
  cycles_of marks c n = (λ m. leads_of (c.cycle n m), λ w. c.marked n (way_of w))

pub no_cycle_of : (t : Schema) (g : Graph) → AreSteps t g → ((n : ℕ) → LeadsTo t n n → ⊥) → (n : ℕ) → graph.LeadsTo g n n → ⊥
no_cycle_of t g steps none n w = none n (leads_of t g steps w)

pub cycles_in : (t : Schema) (targets : List (Option ℕ)) (g h : Graph) (marks : List Bool) → length targets ≡ length t.rows → AreTargets t targets → AreEdges targets (length targets) g → h ≡ g → AreOnCycles h marks → AreLeafrefCycles t marks
cycles_in t targets g h marks each are edges e c = cycles_of t g (steps_of t targets g each are edges) marks (rw e at c)

pub graph_in : (t : Schema) (targets : List (Option ℕ)) (g h : Graph) → length targets ≡ length t.rows → AreTargets t targets → AreEdges targets (length targets) g → h ≡ g → IsGraph h
graph_in t targets g h each are edges e = rw e ((steps_of t targets g each are edges).within)

-- where no node leads to itself, no cycle is found
pub clear_of_cycles : (t : Schema) (targets : List (Option ℕ)) (g h : Graph) (ranked : Ranking) (a : ℕ) → length targets ≡ length t.rows → AreTargets t targets → AreEdges targets (length targets) g → h ≡ g
    → ((n : ℕ) → LeadsTo t n n → ⊥) → ranked ≡ Cycle a → IfCycle ranked (IsFirstOnCycle h) → ⊥
clear_of_cycles t targets g h ranked a each are edges e none is c =
    let first : IfCycle (Cycle a) (IsFirstOnCycle h) = subst (λ (r : Ranking). IfCycle r (IsFirstOnCycle h)) is c in
    let steps : AreSteps t h = rw e (steps_of t targets g each are edges) in
    no_cycle_of t h steps none a first.cycle

at_take : {A : Type 0} (xs : List A) (i k : ℕ) (d : A) → k < length (take i xs) → (k < i) × (k < length xs) × (slice_index_or (take i xs) k d ≡ slice_index_or xs k d)
at_take [] zero k d l = absurd (omega (arith, l))
at_take [] (suc i) k d l = absurd (omega (arith, l))
at_take (x ∷ xs) zero k d l = absurd (omega (arith, l))
at_take (x ∷ xs) (suc i) zero d l = (omega arith, omega arith, refl)
at_take (x ∷ xs) (suc i) (suc k) d l = let rest = at_take xs i k d (omega (arith, l)) in (omega (arith, rest.0), omega (arith, rest.1), rest.2)

pub visited_of : (order : List ℕ) (i b : ℕ) → Contains (take i order) b → IsVisited order i b
visited_of order i b (k, l, at) =
    let here = at_take order i k b l in
    (k, here.0, here.1, get_or_default order k 0 b here.1 ∙ sym here.2 ∙ at)

pub visited_all : (order : List ℕ) (b : ℕ) → Contains order b → IsVisited order (length order) b
visited_all order b (k, l, at) = (k, l, l, get_or_default order k 0 b l ∙ at)

order_in : (h : Graph) (ranked : Ranking) (ranks order : Vec ℕ Global) → ranked ≡ Ranks ranks order → IfRanks ranked (λ rs os. IsOrder h os) → IsOrder h order.items
order_in h ranked ranks order is o = let at : IfRanks (Ranks ranks order) (λ rs os. IsOrder h os) = subst (λ (r : Ranking). IfRanks r (λ rs os. IsOrder h os)) is o in at

pub behind_in : (t : Schema) (targets : List (Option ℕ)) (g h : Graph) (ranked : Ranking) (ranks order : Vec ℕ Global) → length targets ≡ length t.rows → AreTargets t targets → AreEdges targets (length targets) g → h ≡ g
    → ranked ≡ Ranks ranks order → IfRanks ranked (λ rs os. IsOrder h os) → IsBehind targets order.items
behind_in t targets g h ranked ranks order each are edges e is o i b l target =
    let sorted : IsOrder h order.items = order_in h ranked ranks order is o in
    let steps : AreSteps t h = rw e (steps_of t targets g each are edges) in
    let edge : HasEdge h (slice_index order.items i) b = (steps.exact (slice_index order.items i) b).1 ((are (slice_index order.items i) b).0 target) in
    visited_of order.items i b (sorted.behind i b l (graph.by_edge edge))

pub all_in : (targets : List (Option ℕ)) (g h : Graph) (ranked : Ranking) (ranks order : Vec ℕ Global) → AreEdges targets (length targets) g → h ≡ g → ranked ≡ Ranks ranks order → IfRanks ranked (λ rs os. IsOrder h os)
    → (n : ℕ) → n < length targets → IsVisited order.items (length order.items) n
all_in targets g h ranked ranks order edges e is o n l =
    let sorted : IsOrder h order.items = order_in h ranked ranks order is o in
    visited_all order.items n (sorted.stands n (omega (arith, l, edges.0, ap length e)))

-- one more origin
pub origins_more : (t : Schema) (targets : List (Option ℕ)) (order : List ℕ) (i node : ℕ) (old new : List ℕ) → AreTargets t targets → IsBehind targets order → i < length order → node ≡ slice_index order i → node < length old
    → ((n : ℕ) → IsVisited order i n → HasTypesOf t n (slice_index old n)) → new ≡ set old node (origin_of (slice_index_or targets node None) node old) → (n : ℕ) → IsVisited order (i + 1) n → HasTypesOf t n (slice_index new n)
origins_more t targets order i node old new are behind l is within known now n (k, below, inside, at) = elim (cases_eq n node) [
  | inl same ↦
      let got : slice_index new n ≡ origin_of (slice_index_or targets node None) node old = ap (λ xs. slice_index xs n) now ∙ ap (slice_index (set old node (origin_of (slice_index_or targets node None) node old))) same ∙ get_or-set_same old node (origin_of (slice_index_or targets node None) node old) 0 within in
      rw (got, same) (by (slice_index_or targets node None) refl)
  | inr other ↦
      let got : slice_index new n ≡ slice_index old n = ap (λ xs. slice_index xs n) now ∙ (let e : slice_index (set old node (origin_of (slice_index_or targets node None) node old)) n ≡ slice_index old n = rw get_or-set_other refl in e) in
      rw got (known n (elim (cases_lt k i) [
        | inl less ↦ (k, less, inside, at)
        | inr up ↦ absurd (other (sym at ∙ ap (slice_index order) (let e : k ≡ i = omega (arith, up, below) in e) ∙ sym is))
      ]))
]
  where
    by : (o : Option ℕ) → slice_index_or targets node None ≡ o → HasTypesOf t node (origin_of o node old)
    by None e = own (λ x refers. none-some x (sym e ∙ (are node x).1 refers))
    by (Some x) e = along ((are node x).0 e) (known x (behind i x l (ap (λ m. slice_index_or targets m None) (sym is) ∙ e)))

-- the node whose types another has is a node
pub types_within : (s : Schema) (n e : ℕ) → HasTypesOf s n e → n < length s.rows → e < length s.rows
types_within s n e (own none) l = l
types_within s n e (along {target = x} refers rest) l = types_within s x e rest (target_within s n x refers)

pub at_index : (xs : List ℕ) (n x : ℕ) → slice_get xs n ≡ Some x → slice_index xs n ≡ x
at_index [] n x at = absurd (none-some x at)
at_index (y ∷ ys) zero x at = same_Some y x at
at_index (y ∷ ys) (suc n) x at = at_index ys n x at
