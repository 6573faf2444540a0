-- The nodes that have an edge to a node of their own rank.
use Rattle.std.proofs.Common.{◌≡◌, ◌==◌, ℕ, ◌+◌, ◌<◌, inl, inr, Bool, true, false, List, [], ◌∷◌, ◌++◌, length, get_or, map, refl, sym, ◌∙◌, ap, subst, arith, length-append}
use Rattle.std.proofs.lemmas.Bool.{cases_eq, cases_lt, false≢true}
use Rattle.std.proofs.lemmas.Grind.{common_steps, get_or_default_zero}
use Rattle.std.proofs.lemmas.List.{get_or_append_left, get_or_past}
use Rattle.std.proofs.lemmas.List.Folds.{Any-from_list_any, list_any-from_Any}
use Rattle.std.proofs.lemmas.Option.{get_or_from_slice_get, slice_get_read}
use Rattle.std.specs.List.{Contains, list_any}
use Rattle.std.specs.declared.vec.Vec.{Vec}
use Rattle.std.specs.declared.alloc.Global.{Global}
use Rattle.yv_base_graph.specs.Graph.{Graph, IsGraph, IsMarked, AreOnCycles}
use Rattle.yv_base_graph.specs.InnerSearch.{Progress, IsSearched, rank_of}
use Rattle.yv_base_graph.specs.InnerPeers.{HasPeer, ArePeers}
use Rattle.yv_base_graph.proofs.Ranks.{leads_within}
use Rattle.yv_base_graph.proofs.SearchResult.{back_edge, cycle_by, length_ranks}

-- so many nodes were asked
pub record Marking (g : Graph) (ranks : List ℕ) (n : ℕ) (marks : List Bool) : Type 0 where
  pub each : length marks ≡ n
  pub peer : (a : ℕ) → IsMarked marks a → HasPeer g ranks a
  pub marked : (a : ℕ) → a < n → HasPeer g ranks a → IsMarked marks a

pub marking_none : (g : Graph) (ranks : List ℕ) → Marking g ranks 0 []
marking_none g ranks = record {
  each = refl;
  peer = λ a m. absurd (false≢true m);
  marked = λ a h p. absurd (omega arith);
}

eq_true : (a b : ℕ) → (a == b) ≡ true → a ≡ b
eq_true a b h = grind (arith, common_steps)

true_eq : (a b : ℕ) → a ≡ b → (a == b) ≡ true
true_eq a b h = grind (arith, common_steps)

peer_of : (g : Graph) (ranks : List ℕ) (n : ℕ) (row : Vec ℕ Global) → n < length g → row ≡ get_or g n row → list_any (λ b. get_or ranks b 0 == get_or ranks n 0) row.items ≡ true → HasPeer g ranks n
peer_of g ranks n row h e m =
    let (k, c, inside, at, same) = Any-from_list_any (λ b. get_or ranks b 0 == get_or ranks n 0) row.items m in
    (c, (row, slice_get_read g (length g) n row refl h e, (k, inside, at)), eq_true (get_or ranks c 0) (get_or ranks n 0) same)

of_peer : (g : Graph) (ranks : List ℕ) (n : ℕ) (row : Vec ℕ Global) → row ≡ get_or g n row → HasPeer g ranks n → list_any (λ b. get_or ranks b 0 == get_or ranks n 0) row.items ≡ true
of_peer g ranks n row e p =
    let same : row ≡ p.1.0 = e ∙ get_or_from_slice_get g n p.1.0 row p.1.1 in
    let c : Contains row.items p.0 = rw same p.1.2 in
    list_any-from_Any (λ b. get_or ranks b 0 == get_or ranks n 0) row.items (c.0, p.0, c.1, c.2, true_eq (get_or ranks p.0 0) (get_or ranks n 0) p.2)

last_of : (marks : List Bool) (mark : Bool) → get_or (marks ++ mark ∷ []) (length marks) false ≡ mark
last_of [] mark = refl
last_of (m ∷ marks) mark = last_of marks mark

pub marking_more : (g : Graph) (ranks : List ℕ) (n rank : ℕ) (row : Vec ℕ Global) (marks marks' : List Bool) (mark : Bool) → Marking g ranks n marks → n < length g → row ≡ get_or g n row → rank ≡ get_or ranks n 0 → mark ≡ list_any (λ b. get_or ranks b 0 == rank) row.items → marks' ≡ marks ++ mark ∷ [] → Marking g ranks (n + 1) marks'
marking_more g ranks n rank row marks marks' mark m h e at is more =
    let is' : mark ≡ list_any (λ b. get_or ranks b 0 == get_or ranks n 0) row.items = rw (← at) is in
    let longer : length (marks ++ mark ∷ []) ≡ n + 1 = simp length-append (omega (arith, m.each)) in
    let old : (a : ℕ) → a < n → get_or (marks ++ mark ∷ []) a false ≡ get_or marks a false = λ a l. get_or_append_left marks (mark ∷ []) false a (omega (arith, m.each)) in
    let new : (a : ℕ) → a ≡ n → get_or (marks ++ mark ∷ []) a false ≡ mark = λ a s. ap (λ k. get_or (marks ++ mark ∷ []) k false) (s ∙ sym m.each) ∙ last_of marks mark in
    rw more (record {
      each = longer;
      peer = λ a k. elim (cases_lt a n) [
        | inl l ↦ m.peer a (sym (old a l) ∙ k)
        | inr ge ↦ elim (cases_eq a n) [
          | inl s ↦ rw s (peer_of g ranks n row h e (sym is' ∙ sym (new a s) ∙ k))
          | inr ne ↦ absurd (false≢true (sym (get_or_past (marks ++ mark ∷ []) a false (omega (arith, longer, ge, ne))) ∙ k))
        ]
      ];
      marked = λ a l p. elim (cases_lt a n) [
        | inl b ↦ old a b ∙ m.marked a b p
        | inr ge ↦ let s : a ≡ n = omega (arith, l, ge) in new a s ∙ is' ∙ of_peer g ranks n row e (subst (λ (z : ℕ). HasPeer g ranks z) s p)
      ];
    })

pub marking_end : (g : Graph) (ranks : List ℕ) (n : ℕ) (marks : List Bool) → n ≡ length g → Marking g ranks n marks → ArePeers g ranks marks
marking_end g ranks n marks whole m = record {
  each = m.each ∙ whole;
  peer = m.peer;
  marked = λ a l p. m.marked a (omega (arith, l, whole)) p;
}

-- nodes of one rank lead to one another, so a node with such an edge leads to itself
pub peers_cyclic : (g : Graph) (s : Progress) (ranks : List ℕ) (marks : List Bool) → IsGraph g → IsSearched g s → ranks ≡ map rank_of s.states → ArePeers g ranks marks → AreOnCycles g marks
peers_cyclic g s ranks marks is_graph r e m = record {
  each = m.each;
  cycle = λ a k. let p = m.peer a k in cycle_by g s a p.0 is_graph r p.1 (subst (λ (l : List ℕ). get_or l p.0 0 ≡ get_or l a 0) e p.2);
  marked = λ a w.
      let b = back_edge g s a is_graph r w in
      m.marked a (leads_within g a a is_graph w) (b.0, b.1, subst (λ (l : List ℕ). get_or l b.0 0 ≡ get_or l a 0) (sym e) b.2);
}

pub ranks_each : (g : Graph) (s : Progress) (ranks : List ℕ) → IsSearched g s → ranks ≡ map rank_of s.states → length ranks ≡ length g
ranks_each g s ranks r e = ap length e ∙ length_ranks s.states ∙ r.searching.each

-- a step of the loop, as it reads the row and the ranks
pub marking_step : (g : Graph) (ranks : List ℕ) (n rank : ℕ) (row : Vec ℕ Global) (items xs : List ℕ) (marks marks' : List Bool) (mark : Bool) → length ranks ≡ length g → Marking g ranks n marks → n < length g → row ≡ get_or g n row → items ≡ row.items → xs ≡ ranks → rank ≡ get_or ranks n rank → mark ≡ list_any (λ b. get_or xs b 0 == rank) items → marks' ≡ marks ++ mark ∷ [] → Marking g ranks (n + 1) marks'
marking_step g ranks n rank row items xs marks marks' mark each m h at i x k is more =
    let within : n < length ranks = omega (arith, each, h) in
    marking_more g ranks n rank row marks marks' mark m h at (k ∙ get_or_default_zero ranks n rank within) (rw (i, x) at is) more
