-- The graph of the types.
use Rattle.std.proofs.Common.{◌≡◌, ℕ, ◌+◌, ◌<◌, inl, inr, zero, suc, Bool, true, false, List, [], ◌∷◌, ◌++◌, length, get_or, refl, sym, ◌∙◌, ap, subst, arith, Option, Some}
use Rattle.std.specs.List.{slice_get, Contains}
use Rattle.std.specs.Option.{option_map, unwrap_or}
use Rattle.std.specs.declared.vec.Vec.{Vec}
use Rattle.std.specs.declared.alloc.Global.{Global}
use Rattle.std.proofs.lemmas.Bool.{cases_lt}
use Rattle.std.proofs.lemmas.List.{get_or_default}
use Rattle.std.proofs.lemmas.Option.{same_Some, slice_get_within, slice_get-get_or}
use Rattle.yv_link_scopes.specs.Rows.{Row}
use Rattle.yv_base_graph.specs.Graph.{Graph, HasEdge}
use Rattle.yv_type_chains.specs.Types.{is_union}
use Rattle.yv_base_tables.specs.Slots.{at}
use Rattle.yv_type_chains.specs.InnerTables.{items_at}
use Rattle.yv_type_chains.specs.InnerSteps.{AreEdges, AreSteps}
use Rattle.yv_type_chains.proofs.Blocks.{type_in}

items_push : (g : Graph) (v : Vec ℕ Global) (k : ℕ) → k < length g → items_at (g ++ v ∷ []) k ≡ items_at g k
items_push [] v k h = absurd (omega (arith, h))
items_push (x ∷ g) v zero h = refl
items_push (x ∷ g) v (suc k) h = items_push g v k (omega (arith, h))

items_last : (g : Graph) (v : Vec ℕ Global) → items_at (g ++ v ∷ []) (length g) ≡ v.items
items_last [] v = refl
items_last (x ∷ g) v = items_last g v

module _ (rows : List Row) (follows : List (Option ℕ)) where
  -- the edges of one more statement
  pub edges_more : (n : ℕ) (g g' : Graph) (v : Vec ℕ Global) (q : Row) → length g ≡ n → g' ≡ g ++ v ∷ [] → slice_get rows n ≡ Some q → AreEdges rows follows n q v.items → ((k : ℕ) (r : Row) → k < n → slice_get rows k ≡ Some r → AreEdges rows follows k r (items_at g k)) → (k : ℕ) (r : Row) → k < n + 1 → slice_get rows k ≡ Some r → AreEdges rows follows k r (items_at g' k)
  edges_more n g g' v q len is here gives old k r h there = elim (cases_lt k n) [
    | inl l ↦ subst (λ xs. AreEdges rows follows k r xs) (sym (ap (λ (x : Graph). items_at x k) is ∙ items_push g v k (omega (arith, l, len)))) (old k r l there)
    | inr up ↦
        let same : n ≡ k = omega (arith, h, up) in
        let one : q ≡ r = same_Some q r (sym here ∙ ap (slice_get rows) same ∙ there) in
        let items : items_at g' k ≡ v.items = ap (λ (x : Graph). items_at x k) is ∙ ap (items_at (g ++ v ∷ [])) (sym same ∙ sym len) ∙ items_last g v in
        subst (λ xs. AreEdges rows follows k r xs) (sym items) (subst (λ m. AreEdges rows follows m r v.items) same (subst (λ (x : Row). AreEdges rows follows n x v.items) one gives))
  ]

  -- each edge goes to a statement
  edge_within : ((k j : ℕ) → at follows k ≡ Some j → j < length rows) → (k j : ℕ) (r : Row) (xs : List ℕ) → AreEdges rows follows k r xs → Contains xs j → j < length rows
  edge_within few k j r xs e c = by (is_union r) refl
    where
      by : (b : Bool) → is_union r ≡ b → j < length rows
      by true is = let p = type_in k rows j (subst (λ l. Contains l j) (e.members is) c) in slice_get_within rows j p.0 p.1
      by false is = few k j ((e.followed is j).0 c)

  pub steps_all : (g : Graph) → length g ≡ length rows → ((k j : ℕ) → at follows k ≡ Some j → j < length rows) → ((k : ℕ) (r : Row) → k < length g → slice_get rows k ≡ Some r → AreEdges rows follows k r (items_at g k)) → AreSteps rows follows g
  steps_all g each few all = record {
    each = each;
    within = λ k d h i x l.
        let v : Vec ℕ Global = get_or g k d in
        let at : slice_get g k ≡ Some v = slice_get-get_or g k d h in
        let items : items_at g k ≡ v.items = ap (λ (o : Option (Vec ℕ Global)). unwrap_or (option_map (λ (y : Vec ℕ Global). y.items) o) []) at in
        let row : (r : Row) × (slice_get rows k ≡ Some r) = at_row k (omega (arith, h, each)) in
        let c : Contains (items_at g k) (get_or v.items i x) = subst (λ xs. Contains xs (get_or v.items i x)) (sym items) (i, l, get_or_default v.items i (get_or v.items i x) x l) in
        let w = edge_within few k (get_or v.items i x) row.0 (items_at g k) (all k row.0 h row.1) c in
        omega (arith, w, each);
    edges = λ k r there. let w = slice_get_within rows k r there in all k r (omega (arith, w, each)) there;
  }
    where
      at_row : (k : ℕ) → k < length rows → (r : Row) × (slice_get rows k ≡ Some r)
      at_row k h = row_at rows k h
        where
          row_at : (rs : List Row) (i : ℕ) → i < length rs → (r : Row) × (slice_get rs i ≡ Some r)
          row_at [] i h = absurd (omega (arith, h))
          row_at (r ∷ rs) zero h = (r, refl)
          row_at (r ∷ rs) (suc i) h = row_at rs i (omega (arith, h))

-- an edge of the graph is one of the statement's
pub edge_listed : (g : Graph) (k j : ℕ) → HasEdge g k j → Contains (items_at g k) j
edge_listed g k j e = subst (λ xs. Contains xs j) (sym (ap (λ (o : Option (Vec ℕ Global)). unwrap_or (option_map (λ (y : Vec ℕ Global). y.items) o) []) e.1)) e.2

pub listed_edge : (g : Graph) (k j : ℕ) → k < length g → Contains (items_at g k) j → HasEdge g k j
listed_edge g k j h c = by g k h c
  where
    by : (g : Graph) (k : ℕ) → k < length g → Contains (items_at g k) j → HasEdge g k j
    by [] k h c = absurd (omega (arith, h))
    by (v ∷ g) zero h c = (v, refl, c)
    by (v ∷ g) (suc k) h c = by g k (omega (arith, h)) c
