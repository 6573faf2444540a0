-- Graphs with one more edge, and graphs without any.
use Rattle.std.proofs.Common.{◌≡◌, ◌≢◌, ℕ, ◌+◌, ◌<◌, ◌⊎◌, inl, inr, zero, suc, List, [], ◌∷◌, ◌++◌, length, set, take, refl, sym, ◌∙◌, ap, subst, arith, Some, length-append}
use Rattle.std.specs.List.{Contains, slice_get}
use Rattle.std.specs.declared.vec.Vec.{Vec}
use Rattle.std.specs.declared.alloc.Global.{Global}
use Rattle.std.proofs.lemmas.Bool.{cases_eq}
use Rattle.std.proofs.lemmas.List.{length-set}
use Rattle.std.proofs.lemmas.List.Elements.{Contains-append_left, Contains-push, Contains-push_cases}
use Rattle.std.proofs.lemmas.Option.{same_Some}
use Rattle.yv_base_graph.specs.Graph.{Graph, HasEdge}
use Rattle.yv_search.specs.InnerGraph.{HasOneMore, IsBare, IsListed, IsGraphOf, number_of}
use Rattle.yv_search.specs.declared.edges.Edge.{Edge}
use Rattle.yv_search.proofs.ListSteps.{take_next}

get_set : {X : Type 0} (xs : List X) (i : ℕ) (y : X) → i < length xs → slice_get (set xs i y) i ≡ Some y
get_set [] i y h = absurd (omega (arith, h))
get_set (x ∷ xs) zero y h = refl
get_set (x ∷ xs) (suc i) y h = get_set xs i y (omega arith)

get_set_other : {X : Type 0} (xs : List X) (i j : ℕ) (y : X) → j ≢ i → slice_get (set xs i y) j ≡ slice_get xs j
get_set_other [] i j y ne = refl
get_set_other (x ∷ xs) zero zero y ne = absurd (ne refl)
get_set_other (x ∷ xs) zero (suc j) y ne = refl
get_set_other (x ∷ xs) (suc i) zero y ne = refl
get_set_other (x ∷ xs) (suc i) (suc j) y ne = get_set_other xs i j y (λ e. ne (ap (λ n. suc n) e))

-- a row of a graph, with one more node at its end
pub one_more : (g : Graph) (from to : ℕ) (old new : Vec ℕ Global) → from < length g → slice_get g from ≡ Some old → new.items ≡ old.items ++ to ∷ [] → HasOneMore g (set g from new) from to
one_more g from to old new lt at is = record {
  each = length-set g from new;
  there = (new, get_set g from new lt, subst (λ (xs : List ℕ). Contains xs to) (sym is) (Contains-push old.items to));
  kept = λ a b h. elim (cases_eq a from) [
    | inl e ↦ (let same : h.0 ≡ old = same_Some h.0 old (sym h.1 ∙ ap (slice_get g) e ∙ at) in
        let inside : Contains old.items b = subst (λ (v : Vec ℕ Global). Contains v.items b) same h.2 in
        (new, ap (slice_get (set g from new)) e ∙ get_set g from new lt, subst (λ (xs : List ℕ). Contains xs b) (sym is) (Contains-append_left old.items (to ∷ []) b inside)))
    | inr ne ↦ (h.0, get_set_other g from a new ne ∙ h.1, h.2)
  ];
  others = λ a b h. elim (cases_eq a from) [
    | inl e ↦ (let same : h.0 ≡ new = same_Some h.0 new (sym h.1 ∙ ap (slice_get (set g from new)) e ∙ get_set g from new lt) in
        let inside : Contains (old.items ++ to ∷ []) b = subst (λ (xs : List ℕ). Contains xs b) is (subst (λ (v : Vec ℕ Global). Contains v.items b) same h.2) in
        elim (Contains-push_cases old.items to b inside) [
          | inl c ↦ inl (old, ap (slice_get g) e ∙ at, c)
          | inr q ↦ inr (e, sym q)
        ])
    | inr ne ↦ inl (h.0, sym (get_set_other g from a new ne) ∙ h.1, h.2)
  ];
}

push_get : (g : Graph) (row : Vec ℕ Global) (a : ℕ) (r : Vec ℕ Global) → slice_get (g ++ row ∷ []) a ≡ Some r → (slice_get g a ≡ Some r) ⊎ (row ≡ r)
push_get [] row zero r e = inr (same_Some row r e)
push_get [] row (suc a) r e = cc
push_get (x ∷ g) row zero r e = inl e
push_get (x ∷ g) row (suc a) r e = push_get g row a r e

-- one more node
pub bare_more : (n : ℕ) (old new : Graph) (row : Vec ℕ Global) → row.items ≡ [] → new ≡ old ++ row ∷ [] → IsBare n old → IsBare (n + 1) new
bare_more n old new row empty e h = record {
  each = (let l = ap length e in omega (arith, l, h.each, length-append old (row ∷ [])));
  none = λ a b x. elim (push_get old row a x.0 (ap (λ g. slice_get g a) (sym e) ∙ x.1)) [
    | inl at ↦ h.none a b (x.0, at, x.2)
    | inr same ↦ (let l = x.2.1 in let z = ap length (ap (λ (v : Vec ℕ Global). v.items) (sym same) ∙ empty) in omega (arith, l, z))
  ];
}

no_item : {X : Type 0} (x : X) → Contains [] x → ⊥
no_item x h = absurd (let l = h.1 in omega (arith, l))

-- a graph without edges is that of no list
pub graph_of_none : (count : ℕ) (g : Graph) → IsBare (count + count + 1) g → IsGraphOf count [] g
graph_of_none count g h = record {
  each = h.each;
  sound = λ a b e. absurd (h.none a b e);
  complete = λ e i. absurd (no_item e i);
}

-- one more edge of a list
pub graph_more : (count : ℕ) (edges : List Edge) (i : ℕ) (e : Edge) (from to : ℕ) (old new : Graph) → slice_get edges i ≡ Some e → from ≡ number_of count e.from → to ≡ number_of count e.to
    → IsGraphOf count (take i edges) old → HasOneMore old new from to → IsGraphOf count (take (i + 1) edges) new
graph_more count edges i e from to old new at is_from is_to g m =
    subst (λ (es : List Edge). IsGraphOf count es new) (sym (take_next edges i e at)) (record {
      each = m.each ∙ g.each;
      sound = λ a b h. elim (m.others a b h) [
        | inl o ↦ (let l : IsListed count (take i edges) a b = g.sound a b o in
            record { edge = l.edge; among = Contains-append_left (take i edges) (e ∷ []) l.edge l.among; from = l.from; to = l.to })
        | inr q ↦ record { edge = e; among = Contains-push (take i edges) e; from = sym is_from ∙ sym q.0; to = sym is_to ∙ sym q.1 }
      ];
      complete = λ f c. elim (Contains-push_cases (take i edges) e f c) [
        | inl o ↦ m.kept (number_of count f.from) (number_of count f.to) (g.complete f o)
        | inr q ↦ subst (λ (x : Edge). HasEdge new (number_of count x.from) (number_of count x.to)) q
            (subst (λ (k : ℕ). HasEdge new k (number_of count e.to)) is_from (subst (λ (k : ℕ). HasEdge new from k) is_to m.there))
      ];
    })
