-- What a node leads to, one found node after the other.
use Rattle.std.proofs.Common.{◌≡◌, ℕ, ◌+◌, ◌<◌, ◌≤◌, inl, inr, Bool, false, List, [], length, get_or, refl, sym, ◌∙◌, arith, subst, length-append, replicate, cond}
use Rattle.std.specs.List.{All, Contains, count_by}
use Rattle.std.specs.declared.vec.Vec.{Vec}
use Rattle.std.specs.declared.alloc.Global.{Global}
use Rattle.std.proofs.lemmas.Grind.{common_steps, get_or_default_zero}
use Rattle.std.proofs.lemmas.List.{get_or_append_left, get_or-replicate, get_or_past}
use Rattle.std.proofs.lemmas.Bool.{cases_eq, cases_lt, false≢true}
use Rattle.std.proofs.lemmas.List.Folds.{sum_by-replicate}
use Rattle.std.proofs.lemmas.List.Elements.{All-append, All-weaker, All-contains, Contains-append_left}
use Rattle.std.proofs.lemmas.Option.{get_or_from_slice_get, slice_get_read}
use Rattle.yv_base_graph.specs.Graph.{Graph, IsGraph, HasEdge, LeadsTo, by_edge, by_way, IsMarked, AreReached}
use Rattle.yv_base_graph.specs.InnerMarks.{MarksRow}

-- the search from a node: the nodes found so far, of which those before `next` were followed
pub record Reaching (g : Graph) (from next : ℕ) (marks : List Bool) (found : List ℕ) : Type 0 where
  pub each : length marks ≡ length g
  pub led_to : All (LeadsTo g from) found
  pub within : All (λ n. n < length g) found
  pub listed : (k : ℕ) → IsMarked marks k → Contains found k
  pub started : (k : ℕ) → HasEdge g from k → IsMarked marks k
  pub followed : (i : ℕ) → i < next → (k : ℕ) → HasEdge g (get_or found i 0) k → IsMarked marks k
  pub counted : count_by (λ b. b) marks ≡ length found
  pub behind : next ≤ length found

pub LeadsTo-more : (g : Graph) (a b c : ℕ) → LeadsTo g a b → HasEdge g b c → LeadsTo g a c
LeadsTo-more g a b c (by_edge e) f = by_way e (by_edge f)
LeadsTo-more g a b c (by_way e w) f = by_way e (LeadsTo-more g _ b c w f)

-- an edge is an element of the row
edge_in_row : (g : Graph) (a b : ℕ) (row : Vec ℕ Global) → row ≡ get_or g a row → HasEdge g a b → Contains row.items b
edge_in_row g a b row e h = rw (e, get_or_from_slice_get g a h.0 row h.1) h.2

row_edge : (g : Graph) (a b : ℕ) (row : Vec ℕ Global) → a < length g → row ≡ get_or g a row → Contains row.items b → HasEdge g a b
row_edge g a b row h e c = (row, slice_get_read g (length g) a row refl h e, c)

pub reaching_start : (g : Graph) (from : ℕ) (row : Vec ℕ Global) (old marks : List Bool) (found : List ℕ) → from < length g → row ≡ get_or g from row → All (λ n. n < length g) row.items → length old ≡ length g → ((k : ℕ) → IsMarked old k → ⊥) → count_by (λ b. b) old ≡ 0 → MarksRow row.items old [] marks found → Reaching g from 0 marks found
reaching_start g from row old marks found h e in_row each unmarked none m = record {
  each = m.each ∙ each;
  led_to = rw m.added.1 (All-weaker (Contains row.items) (LeadsTo g from) (λ n c. by_edge (row_edge g from n row h e c)) m.added.0 m.added.2);
  within = rw m.added.1 (All-weaker (Contains row.items) (λ n. n < length g) (λ n c. All-contains (λ k. k < length g) row.items n in_row c) m.added.0 m.added.2);
  listed = λ k o. elim (m.listed k o) [ inl was ↦ absurd (unmarked k was) | inr c ↦ c ];
  started = λ k edge. All-contains (IsMarked marks) row.items k m.marked (edge_in_row g from k row e edge);
  followed = λ i lt. absurd (omega arith);
  counted = omega (arith, m.counted, none);
  behind = omega arith;
}

pub reaching_step : (g : Graph) (from next : ℕ) (row : Vec ℕ Global) (old marks : List Bool) (before found : List ℕ) → Reaching g from next old before → next < length before → row ≡ get_or g (get_or before next 0) row → All (λ n. n < length g) row.items → MarksRow row.items old before marks found → Reaching g from (next + 1) marks found
reaching_step g from next row old marks before found r h e in_row m =
    let n : ℕ = get_or before next 0 in
    let lt : n < length g = r.within next 0 h in
    let same : (i : ℕ) → i < length before → get_or found i 0 ≡ get_or before i 0 = λ i l. rw m.added.1 (get_or_append_left before m.added.0 0 i l) in
    record {
      each = m.each ∙ r.each;
      led_to = rw m.added.1 (All-append (LeadsTo g from) before m.added.0 r.led_to (All-weaker (Contains row.items) (LeadsTo g from) (λ k c. LeadsTo-more g from n k (r.led_to next 0 h) (row_edge g n k row lt e c)) m.added.0 m.added.2));
      within = rw m.added.1 (All-append (λ k. k < length g) before m.added.0 r.within (All-weaker (Contains row.items) (λ k. k < length g) (λ k c. All-contains (λ k. k < length g) row.items k in_row c) m.added.0 m.added.2));
      listed = λ k o. elim (m.listed k o) [ inl was ↦ rw m.added.1 (Contains-append_left before m.added.0 k (r.listed k was)) | inr c ↦ c ];
      started = λ k edge. m.kept k (r.started k edge);
      followed = λ i below k edge.
          let there : HasEdge g (get_or before i 0) k = subst (λ (a : ℕ). HasEdge g a k) (same i (omega arith)) edge in
          elim (cases_eq i next) [
            | inl now ↦ All-contains (IsMarked marks) row.items k m.marked (edge_in_row g n k row e (subst (λ (j : ℕ). HasEdge g (get_or before j 0) k) now there))
            | inr ne ↦ m.kept k (r.followed i (omega arith) k there)
          ];
      counted = omega (arith, m.counted, r.counted);
      behind = rw m.added.1 (simp length-append (omega arith));
    }

-- what the found nodes lead to is marked, where all were followed
marked_from : (g : Graph) (from next : ℕ) (marks : List Bool) (found : List ℕ) → Reaching g from next marks found → length found ≤ next → (a k : ℕ) → ((b : ℕ) → HasEdge g a b → IsMarked marks b) → LeadsTo g a k → IsMarked marks k
marked_from g from next marks found r h a k follow (by_edge e) = follow k e
marked_from g from next marks found r h a k follow (by_way {b = b} e w) =
    let c : Contains found b = r.listed b (follow b e) in
    let at : get_or found c.0 0 ≡ b = sym (get_or_default_zero found c.0 b c.1) ∙ c.2 in
    marked_from g from next marks found r h b k (λ d edge. r.followed c.0 (omega (arith, c.1)) d (subst (λ (n : ℕ). HasEdge g n d) (sym at) edge)) w

pub reaching_end : (g : Graph) (from next : ℕ) (marks : List Bool) (found : List ℕ) → Reaching g from next marks found → length found ≤ next → AreReached g from marks
reaching_end g from next marks found r h = record {
  each = r.each;
  led_to = λ k o. All-contains (LeadsTo g from) found k r.led_to (r.listed k o);
  marked = λ k w. marked_from g from next marks found r h from k r.started w;
}

-- nothing is marked in the beginning
unmarked_at : (n k : ℕ) → IsMarked (replicate n false) k → ⊥
unmarked_at n k m = elim (cases_lt k n) [
  | inl h ↦ false≢true (sym (get_or-replicate n k false false h) ∙ m)
  | inr h ↦ let e : length (replicate n false) ≤ k = grind (arith, common_steps) in false≢true (sym (get_or_past (replicate n false) k false e) ∙ m)
]

none_counted : (n : ℕ) → count_by (λ b. b) (replicate n false) ≡ 0
none_counted n = sum_by-replicate (λ b. cond b 1 0) n false ∙ omega arith

pub reached_init : (g : Graph) (from n : ℕ) (row : Vec ℕ Global) (items : List ℕ) (old marks : List Bool) (none found : List ℕ) → IsGraph g → from < length g → row ≡ get_or g from row → items ≡ row.items → old ≡ replicate n false → n ≡ length g → none ≡ [] → MarksRow items old none marks found → Reaching g from 0 marks found
reached_init g from n row items old marks none found is_graph h e i o ne z m =
    let in_row : All (λ n. n < length g) row.items = rw (← e) at (is_graph from row h) in
    reaching_start g from row old marks found h e in_row (rw (o, ne) (grind (arith, common_steps))) (λ k q. unmarked_at n k (rw o at q)) (rw o (none_counted n)) (rw (i, z) at m)

pub reached_next : (g : Graph) (from next node : ℕ) (row : Vec ℕ Global) (items : List ℕ) (old marks : List Bool) (before found : List ℕ) → IsGraph g → Reaching g from next old before → next < length before → node ≡ get_or before next node → row ≡ get_or g node row → items ≡ row.items → MarksRow items old before marks found → Reaching g from (next + 1) marks found
reached_next g from next node row items old marks before found is_graph r h at e i m =
    let there : node ≡ get_or before next 0 = at ∙ get_or_default_zero before next node h in
    let within : get_or before next 0 < length g = r.within next 0 h in
    let e' : row ≡ get_or g (get_or before next 0) row = rw there at e in
    let in_row : All (λ n. n < length g) row.items = rw (← e') at (is_graph (get_or before next 0) row within) in
    reaching_step g from next row old marks before found r h e' in_row (rw i at m)
