-- Ranks that fall along each edge, and the order that they give.
use Rattle.std.proofs.Common.{◌≡◌, ◌∙◌, sym, ap, arith, length, take, get_or, List, ℕ, ◌<◌}
use Rattle.std.specs.List.{Contains}
use Rattle.std.proofs.lemmas.Grind.{get_or_default_zero}
use Rattle.std.proofs.lemmas.List.{get_or-take, length-take}
use Rattle.std.proofs.lemmas.List.Elements.{All-contains}
use Rattle.std.proofs.lemmas.Option.{slice_get_within, get_or_from_slice_get}
use Rattle.yv_base_graph.specs.Graph.{Graph, IsGraph, HasEdge, LeadsTo, by_edge, by_way, HasRanks, AreRanks, IsOrder, ArePlaces}

pub edge_within : (g : Graph) (a b : ℕ) → IsGraph g → HasEdge g a b → (a < length g) × (b < length g)
edge_within g a b is_graph (row, at, c) =
    let h : a < length g = slice_get_within g a row at in
    (h, All-contains (λ n. n < length g) row.items b (rw (get_or_from_slice_get g a row row at) at (is_graph a row h)) c)

pub leads_to_within : (g : Graph) (a b : ℕ) → IsGraph g → LeadsTo g a b → b < length g
leads_to_within g a b is_graph (by_edge e) = (edge_within g a b is_graph e).1
leads_to_within g a b is_graph (by_way {b = c} e w) = leads_to_within g c b is_graph w

pub leads_within : (g : Graph) (a b : ℕ) → IsGraph g → LeadsTo g a b → a < length g
leads_within g a b is_graph (by_edge e) = (edge_within g a b is_graph e).0
leads_within g a b is_graph (by_way {b = c} e w) = (edge_within g a c is_graph e).0

pub falls_along : (g : Graph) (rank : ℕ → ℕ) → ((a b : ℕ) → HasEdge g a b → rank b < rank a) → (a b : ℕ) → LeadsTo g a b → rank b < rank a
falls_along g rank f a b (by_edge e) = f a b e
falls_along g rank f a b (by_way {b = c} e w) = omega (arith, f a c e, falls_along g rank f c b w)

-- where ranks fall along the edges no node leads to itself
pub ranking_no_cycle : (g : Graph) → HasRanks g → (a : ℕ) → LeadsTo g a a → ⊥
ranking_no_cycle g (rank, f) a w = omega (arith, falls_along g rank f a a w)

in_front : (xs : List ℕ) (n i x : ℕ) → i < n → i < length xs → get_or xs i 0 ≡ x → Contains (take n xs) x
in_front xs n i x below h e = (i, (rw length-take (omega (arith, below, h))), get_or-take n xs i x below ∙ get_or_default_zero xs i x h ∙ e)

-- in the order of ranks that fall, each node stands once and behind all that it leads to
pub order_of : (g : Graph) (ranks order : List ℕ) → IsGraph g → AreRanks g ranks → ArePlaces ranks order → IsOrder g order
order_of g ranks order is_graph r p = record {
  each = p.each ∙ r.each;
  within = λ i d h. let w : get_or order i 0 < length ranks = p.within i h in omega (arith, w, get_or_default_zero order i d h, r.each);
  stands = λ a h. let o = p.found a (omega (arith, h, r.each)) in (get_or ranks a 0, o.0, get_or_default_zero order (get_or ranks a 0) a o.0 ∙ o.1);
  once = λ i j h k same. sym (p.placed i h) ∙ ap (λ a. get_or ranks a 0) same ∙ p.placed j k;
  behind = λ i b h w.
      let o = p.found b (omega (arith, leads_to_within g (get_or order i 0) b is_graph w, r.each)) in
      let down : get_or ranks b 0 < get_or ranks (get_or order i 0) 0 = falls_along g (λ a. get_or ranks a 0) r.falls (get_or order i 0) b w in
      let lower : get_or ranks b 0 < i = omega (arith, down, p.placed i h) in
      in_front order i (get_or ranks b 0) b lower o.0 o.1;
}
