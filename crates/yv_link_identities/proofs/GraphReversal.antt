-- A graph, as it is turned round edge by edge.
use Rattle.std.proofs.Common.{◌≡◌, ℕ, ◌+◌, ◌<◌, ◌≤◌, ◌==◌, inl, inr, Bool, true, false, Option, Some, None, List, [], ◌∷◌, ◌++◌, length, set, get_or, refl, sym, ◌∙◌, ap, subst, arith, length-set, eq-eqb, eqb-true}
use Rattle.std.proofs.lemmas.Bool.{cases_lt}
use Rattle.std.proofs.lemmas.List.{get_or_append_left, get_or_default}
use Rattle.std.proofs.lemmas.List.Folds.{Any-from_list_any, list_any-from_Any}
use Rattle.std.proofs.lemmas.Option.{slice_get_within, slice_get_read}
use Rattle.std.specs.Bool.{one_answer}
use Rattle.std.specs.Option.{option_map, unwrap_or}
use Rattle.std.specs.List.{Contains, list_any, slice_get}
use Rattle.std.specs.declared.vec.Vec.{Vec}
use Rattle.std.specs.declared.alloc.Global.{Global}
use Rattle.yv_base_graph.specs.Graph.{Graph, HasEdge}
use Rattle.yv_link_identities.specs.InnerPairs.{HasNoEdge}
use Rattle.yv_link_identities.specs.InnerWays.{AddsEdges, AreReversed, has_edge}
use Rattle.yv_link_identities.proofs.PassingNumbers.{longer, last_of}
use Rattle.yv_link_identities.proofs.BaseGraph.{edges_old, edge_new, edges_are, pushed_in}
use Rattle.yv_link_identities.proofs.Ways.{edge_place}

pub adds_none : (xs : List ℕ) (node : ℕ) (g : Graph) → xs ≡ [] → AddsEdges xs node g g
adds_none xs node g e = record {
  each = refl;
  edge = λ a b h. inl h;
  kept = λ a b h. h;
  all = λ b c. let none : length xs ≡ 0 = ap length e in absurd (omega (arith, c.1, none));
}

-- an edge more
pub adds_more : (xs ys : List ℕ) (node b : ℕ) (old g g' : Graph) (row row' : Vec ℕ Global) → AddsEdges xs node old g → ys ≡ xs ++ b ∷ [] → b < length g → row ≡ get_or g b row → row'.items ≡ row.items ++ node ∷ [] → g' ≡ set g b row' → AddsEdges ys node old g'
adds_more xs ys node b old g g' row row' m e h at more now = rw (now, e) (record {
  each = rw length-set m.each;
  edge = λ a c edge. elim (edges_are g b row row' node c a h at more edge) [
    | inl before ↦ elim (m.edge a c before) [
      | inl first ↦ inl first
      | inr (same, (k, l, is)) ↦ inr (same, (k, omega (arith, l, longer xs b), get_or_append_left xs (b ∷ []) c k l ∙ is))
    ]
    | inr (from, to) ↦ inr (to, (length xs, omega (arith, longer xs b), last_of xs b c ∙ sym from))
  ];
  kept = λ a c edge. edges_old g b row row' node c a h at more (m.kept a c edge);
  all = λ c there. elim (pushed_in xs b c there) [
    | inl before ↦ edges_old g b row row' node c node h at more (m.all c before)
    | inr same ↦ subst (λ (n : ℕ). HasEdge (set g b row') n node) (sym same) (edge_new g b row row' node h more)
  ];
})

-- the edges of the first nodes are turned round
pub record Reversing (g : Graph) (n : ℕ) (back : Graph) : Type 0 where
  pub each : length back ≡ length g
  pub edge : (a b : ℕ) → HasEdge back b a → HasEdge g a b
  pub all : (a b : ℕ) → a < n → HasEdge g a b → HasEdge back b a

pub reversing_none : (g back : Graph) (n : ℕ) → n ≡ length g → (length back ≡ n) × HasNoEdge back → Reversing g 0 back
reversing_none g back n e h = record {
  each = h.0 ∙ e;
  edge = λ a b edge. absurd (h.1 b a edge);
  all = λ a b l. absurd (omega (arith, l));
}

pub reversing_more : (g : Graph) (n : ℕ) (old new : Graph) (row : Vec ℕ Global) (items : List ℕ) → Reversing g n old → n < length g → row ≡ get_or g n row → items ≡ row.items → AddsEdges items n old new → Reversing g (n + 1) new
reversing_more g n old new row items m h at is adds = record {
  each = adds.each ∙ m.each;
  edge = λ a b edge. elim (adds.edge a b edge) [
    | inl before ↦ m.edge a b before
    | inr (same, there) ↦ (row, slice_get_read g (length g) a row refl (omega (arith, same, h)) (at ∙ ap (λ i. get_or g i row) (sym same)), rw (← is) there)
  ];
  all = λ a b l edge. elim (cases_lt a n) [
    | inl less ↦ adds.kept a b (m.all a b less edge)
    | inr up ↦
        let same : a ≡ n = omega (arith, l, up) in
        let edge' : HasEdge g n b = subst (λ (i : ℕ). HasEdge g i b) same edge in
        let there : Contains items b = rw is (edge_place g n b row at edge') in
        subst (λ (i : ℕ). HasEdge new b i) (sym same) (adds.all b there)
  ];
}

-- edges, and the test for them
abbrev names : ℕ → Vec ℕ Global → Bool
names b row = list_any (λ x. x == b) row.items

edge_tested : (g : Graph) (a b : ℕ) → HasEdge g a b → has_edge g a b ≡ true
edge_tested g a b (row, at, (k, l, is)) = ap (λ o. unwrap_or (option_map (names b) o) false) at ∙ list_any-from_Any (λ x. x == b) row.items (k, b, l, is, eq-eqb b b refl)

row_tested : (g : Graph) (a b : ℕ) (o : Option (Vec ℕ Global)) → slice_get g a ≡ o → unwrap_or (option_map (names b) o) false ≡ true → HasEdge g a b
row_tested g a b None at h = cc
row_tested g a b (Some row) at h =
    let (k, x, l, is, same) = Any-from_list_any (λ x. x == b) row.items h in
    (row, at, (k, l, get_or_default row.items k b x l ∙ is ∙ eqb-true x b same))

tested_edge : (g : Graph) (a b : ℕ) → has_edge g a b ≡ true → HasEdge g a b
tested_edge g a b h = row_tested g a b (slice_get g a) refl h

pub reversing_all : (g : Graph) (n : ℕ) (back : Graph) → length g ≤ n → Reversing g n back → AreReversed g back
reversing_all g n back h m = record {
  each = m.each;
  edge = λ a b. one_answer (has_edge back b a) (has_edge g a b)
      (λ t. tested_edge back b a t, λ e. edge_tested back b a e)
      (λ t. let edge = tested_edge g a b t in m.all a b (omega (arith, slice_get_within g a edge.0 edge.1, h)) edge, λ e. edge_tested g a b (m.edge a b e));
}

pub edge_back : (g back : Graph) (a b : ℕ) → AreReversed g back → HasEdge g a b → HasEdge back b a
edge_back g back a b r e = tested_edge back b a (r.edge a b ∙ edge_tested g a b e)

pub edge_forth : (g back : Graph) (a b : ℕ) → AreReversed g back → HasEdge back b a → HasEdge g a b
edge_forth g back a b r e = tested_edge g a b (sym (r.edge a b) ∙ edge_tested back b a e)
