-- Graphs without edges: nothing leads anywhere, and each node's number is its rank and its place.
use Rattle.std.proofs.Common.{◌≡◌, ℕ, ◌+◌, ◌<◌, inl, inr, Bool, true, false, List, [], ◌∷◌, ◌++◌, length, get_or, refl, sym, ◌∙◌, ap, subst, arith, length-append, replicate, zero, suc}
use Rattle.std.proofs.lemmas.Bool.{cases_lt, false≢true}
use Rattle.std.proofs.lemmas.List.{get_or_append_left, length-replicate}
use Rattle.std.proofs.lemmas.Option.{slice_get_within, get_or_from_slice_get}
use Rattle.std.proofs.lemmas.List.Elements.{All-from_get_or, Contains-get_or}
use Rattle.std.specs.List.{Contains}
use Rattle.yv_base_graph.specs.Graph.{Graph, HasEdge, LeadsTo, by_edge, by_way, AreOnCycles, AreRanks, IsOrder, ArePlaces}
use Rattle.yv_base_graph.specs.InnerEdgeless.{HasNoEdge, AreNumbers}

pub numbers_none : (xs : List ℕ) → xs ≡ [] → AreNumbers 0 xs
numbers_none xs e = rw e (record { each = refl; at = λ i h. absurd (omega (arith, h)) })

last_at : (xs : List ℕ) (x : ℕ) → get_or (xs ++ x ∷ []) (length xs) 0 ≡ x
last_at [] x = refl
last_at (y ∷ xs) x = last_at xs x

pub numbers_more : (n : ℕ) (xs ys : List ℕ) → AreNumbers n xs → ys ≡ xs ++ n ∷ [] → AreNumbers (n + 1) ys
numbers_more n xs ys are e = rw e (record {
  each = simp length-append (omega (arith, are.each));
  at = λ i h. elim (cases_lt i n) [
    | inl l ↦ get_or_append_left xs (n ∷ []) 0 i (omega (arith, l, are.each)) ∙ are.at i l
    | inr ge ↦ let s : i ≡ length xs = omega (arith, h, ge, are.each) in
        ap (λ k. get_or (xs ++ n ∷ []) k 0) s ∙ last_at xs n ∙ omega (arith, s, are.each)
  ];
})

pub numbers_whole : (n count : ℕ) (xs : List ℕ) → n ≡ count → AreNumbers n xs → AreNumbers count xs
numbers_whole n count xs e are = subst (λ k. AreNumbers k xs) e are

no_edge : (g : Graph) (a b : ℕ) → HasNoEdge g → HasEdge g a b → ⊥
no_edge g a b none (row, at, (k, inside, is)) =
    let empty : row.items ≡ [] = subst (λ r. r.items ≡ []) (get_or_from_slice_get g a row row at) (none a row (slice_get_within g a row at)) in
    omega (arith, subst (λ xs. k < length xs) empty inside)

no_way : (g : Graph) (a b : ℕ) → HasNoEdge g → LeadsTo g a b → ⊥
no_way g a b none (by_edge e) = no_edge g a b none e
no_way g a b none (by_way {b = c} e w) = no_edge g a c none e

pub edgeless_ranks : (g : Graph) (ranks : List ℕ) → HasNoEdge g → AreNumbers (length g) ranks → AreRanks g ranks
edgeless_ranks g ranks none are = record { each = are.each; falls = λ a b e. absurd (no_edge g a b none e) }

pub edgeless_order : (g : Graph) (order : List ℕ) → HasNoEdge g → AreNumbers (length g) order → IsOrder g order
edgeless_order g order none are = record {
  each = are.each;
  within = All-from_get_or (λ a. a < length g) order 0 (λ i h. let l : i < length g = omega (arith, h, are.each) in subst (λ k. k < length g) (sym (are.at i l)) l);
  stands = λ a h. subst (λ k. Contains order k) (are.at a h) (Contains-get_or order a 0 (omega (arith, h, are.each)));
  once = λ i j h k same. sym (are.at i (omega (arith, h, are.each))) ∙ same ∙ are.at j (omega (arith, k, are.each));
  behind = λ i b h way. absurd (no_way g _ b none way);
}

pub edgeless_places : (count : ℕ) (ranks order : List ℕ) → AreNumbers count ranks → AreNumbers count order → ArePlaces ranks order
edgeless_places count ranks order by on = record {
  each = on.each ∙ sym by.each;
  within = λ i h. let l : i < count = omega (arith, h, on.each) in subst (λ k. k < length ranks) (sym (on.at i l)) (omega (arith, l, by.each));
  placed = λ i h. let l : i < count = omega (arith, h, on.each) in ap (λ k. get_or ranks k 0) (on.at i l) ∙ by.at i l;
  found = λ a h.
      let l : a < count = omega (arith, h, by.each) in
      (subst (λ k. k < length order) (sym (by.at a l)) (omega (arith, l, on.each)), ap (λ k. get_or order k 0) (by.at a l) ∙ on.at a l);
}

none_marked : (n : ℕ) (a : ℕ) → get_or (replicate n false) a false ≡ true → ⊥
none_marked zero a h = false≢true h
none_marked (suc n) zero h = false≢true h
none_marked (suc n) (suc a) h = none_marked n a h

pub edgeless_cycles : (g : Graph) (marks : List Bool) → HasNoEdge g → marks ≡ replicate (length g) false → AreOnCycles g marks
edgeless_cycles g marks none e = rw e (record {
  each = length-replicate (length g) false;
  cycle = λ a m. absurd (none_marked (length g) a m);
  marked = λ a w. absurd (no_way g a a none w);
})
