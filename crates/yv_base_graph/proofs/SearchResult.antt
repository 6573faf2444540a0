-- What the search has found at its end.
use Rattle.std.proofs.Common.{◌≡◌, ℕ, ◌<◌, ◌≤◌, inl, inr, List, [], ◌∷◌, length, get_or, map, refl, sym, ◌∙◌, ap, subst, arith, zero, suc, get_or-set_same, cond}
use Rattle.std.proofs.lemmas.Bool.{cases_lt}
use Rattle.std.proofs.lemmas.List.Sums.{sum_by-cons}
use Rattle.std.specs.List.{count_by}
use Rattle.yv_base_graph.specs.declared.search.State.{State}
use Rattle.yv_base_graph.specs.declared.search.State.TheVariants.{New, Pending, Done}
use Rattle.yv_base_graph.specs.Graph.{Graph, IsGraph, HasEdge, LeadsTo, by_edge, by_way, IsFirstOnCycle, HasRanks, AreRanks, IsOrder, ArePlaces}
use Rattle.yv_base_graph.specs.InnerSearch.{Progress, Among, state_of, IsSearch, IsSearched, rank_of, Enters, Steps, IsVisited, is_new}
use Rattle.yv_base_graph.proofs.Ranks.{edge_within, leads_within, order_of}
use Rattle.yv_base_graph.proofs.SearchInvariant.{clash_new_pending, same_done, done_within, enter_steps, then_reaches}

pub nothing_pending : (g : Graph) (s : Progress) → IsSearch g s → s.path ≡ [] → 0 < length s.pending → ⊥
nothing_pending g s r idle h = let a : Among 0 [] = subst (λ (l : List ℕ). Among 0 l) idle (r.heads_on_path 0 (r.first_head h)) in a

done_of : (g : Graph) (s : Progress) (x : ℕ) (v : State) → IsSearched g s → x < length g → state_of s.states x ≡ v → (t : ℕ) × (state_of s.states x ≡ Done t)
done_of g s x New r h e = absurd (r.visited x h e)
done_of g s x (Pending p) r h e = absurd (nothing_pending g s r.searching r.idle (let o : p < length s.pending = (r.searching.placed x p e).0 in omega (arith, o)))
done_of g s x (Done t) r h e = (t, e)

all_done : (g : Graph) (s : Progress) (x : ℕ) → IsSearched g s → x < length g → (t : ℕ) × (state_of s.states x ≡ Done t)
all_done g s x r h = done_of g s x (state_of s.states x) r h refl

leads_down : {g : Graph} {a b : ℕ} (s : Progress) (ra rb : ℕ) → IsSearch g s → LeadsTo g a b → state_of s.states a ≡ Done ra → state_of s.states b ≡ Done rb → rb ≤ ra
leads_down {a = a} {b = b} s ra rb r (by_edge e) ha hb = let o = r.falls a ra b ha e in let f : o.0 ≡ rb = same_done o.0 rb (sym o.1 ∙ hb) in omega (arith, f, o.2)
leads_down {a = a} {b = b} s ra rb r (by_way {b = c} e w) ha hb = let o = r.falls a ra c ha e in let l : rb ≤ o.0 = leads_down s o.0 rb r w o.1 hb in omega (arith, l, o.2)

low_cycle : {g : Graph} {a b : ℕ} (s : Progress) (ra : ℕ) → IsSearch g s → LeadsTo g a b → a ≡ b → a < s.least → state_of s.states a ≡ Done ra → ⊥
low_cycle {a = a} {b = b} s ra r (by_edge e) same l h = let o = r.falls a ra b h e in let f : o.0 ≡ ra = same_done o.0 ra (sym o.1 ∙ sym (ap (λ n. state_of s.states n) same) ∙ h) in let d : o.0 < ra = o.3 l in omega (arith, f, d)
low_cycle {a = a} {b = b} s ra r (by_way {b = c} e w) same l h = let o = r.falls a ra c h e in let d : o.0 < ra = o.3 l in let u : ra ≤ o.0 = leads_down s o.0 ra r w o.1 (sym (ap (λ n. state_of s.states n) same) ∙ h) in omega (arith, u, d)

pub no_low_cycle : (g : Graph) (s : Progress) (a : ℕ) → IsGraph g → IsSearched g s → LeadsTo g a a → a < s.least → ⊥
no_low_cycle g s a is_graph r w l = let d = all_done g s a r (leads_within g a a is_graph w) in low_cycle s d.0 r.searching w refl l d.1

pub found_first : (g : Graph) (s : Progress) → IsGraph g → IsSearched g s → s.least < length g → IsFirstOnCycle g s.least
found_first g s is_graph r h = record { within = h; cycle = r.searching.cycle h; least = λ b w l. no_low_cycle g s b is_graph r w l }

pub found_none : (g : Graph) (s : Progress) → IsGraph g → IsSearched g s → length g ≤ s.least → (a : ℕ) → LeadsTo g a a → ⊥
found_none g s is_graph r h a w = no_low_cycle g s a is_graph r w (omega (arith, h, leads_within g a a is_graph w))

rank_read : (states : List State) (x : ℕ) → get_or (map rank_of states) x 0 ≡ rank_of (state_of states x)
rank_read [] x = refl
rank_read (v ∷ vs) zero = refl
rank_read (v ∷ vs) (suc x) = rank_read vs x

pub length_ranks : (states : List State) → length (map rank_of states) ≡ length states
length_ranks [] = refl
length_ranks (v ∷ vs) = omega (arith, length_ranks vs)

rank_done : (states : List State) (x t : ℕ) → state_of states x ≡ Done t → get_or (map rank_of states) x 0 ≡ t
rank_done states x t h = rank_read states x ∙ ap rank_of h

pub found_ranks : (g : Graph) (s : Progress) → IsGraph g → IsSearched g s → length g ≤ s.least → AreRanks g (map rank_of s.states)
found_ranks g s is_graph r h = record {
  each = length_ranks s.states ∙ r.searching.each;
  falls = λ a b edge.
      let w : (a < length g) × (b < length g) = edge_within g a b is_graph edge in
      let x = all_done g s a r w.0 in
      let o = r.searching.falls a x.0 b x.1 edge in
      let d : o.0 < x.0 = o.3 (omega (arith, w.0, h)) in
      omega (arith, d, rank_done s.states a x.0 x.1, rank_done s.states b o.0 o.1);
}

pub found_ranking : (g : Graph) (s : Progress) → IsGraph g → IsSearched g s → length g ≤ s.least → HasRanks g
found_ranking g s is_graph r h = (λ a. get_or (map rank_of s.states) a 0, (found_ranks g s is_graph r h).falls)

no_news : (states : List State) → ((x : ℕ) → x < length states → state_of states x ≡ New → ⊥) → count_by is_new states ≡ 0
no_news [] h = refl
no_news (New ∷ vs) h = absurd (h 0 (omega arith) refl)
no_news (Pending p ∷ vs) h = omega (arith, no_news vs (λ x l. h (suc x) (omega arith)), sum_by-cons (λ v. cond (is_new v) 1 0) (Pending p) vs)
no_news (Done r ∷ vs) h = omega (arith, no_news vs (λ x l. h (suc x) (omega arith)), sum_by-cons (λ v. cond (is_new v) 1 0) (Done r) vs)

-- the nodes in the order in which their groups were closed
pub found_places : (g : Graph) (s : Progress) → IsSearched g s → length g ≤ s.least → ArePlaces (map rank_of s.states) s.order
found_places g s r h =
    let whole : s.least ≡ length g = omega (arith, h, r.searching.bound) in
    let len : length (map rank_of s.states) ≡ length g = length_ranks s.states ∙ r.searching.each in
    record {
      each =
          let none : length s.pending ≡ 0 = elim (cases_lt 0 (length s.pending)) [ inl some ↦ absurd (nothing_pending g s r.searching r.idle some) | inr m ↦ omega arith ] in
          let old : count_by is_new s.states ≡ 0 = no_news s.states (λ x l. r.visited x (omega (arith, l, r.searching.each))) in
          omega (arith, none, old, r.searching.counted, len);
      within = λ i l. let d : state_of s.states (get_or s.order i 0) ≡ Done i = r.searching.numbered whole i l in omega (arith, done_within s.states (get_or s.order i 0) i d, length_ranks s.states);
      placed = λ i l. rank_done s.states (get_or s.order i 0) i (r.searching.numbered whole i l);
      found = λ x l.
          let d = all_done g s x r (omega (arith, l, len)) in
          let e : get_or (map rank_of s.states) x 0 ≡ d.0 = rank_done s.states x d.0 d.1 in
          (omega (arith, e, r.searching.ranked x d.0 d.1), ap (λ k. get_or s.order k 0) e ∙ r.searching.found whole x d.0 d.1);
    }

pub visit_start : (g : Graph) (s t : Progress) (y : ℕ) → IsSearch g s → s.path ≡ [] → state_of s.states y ≡ New → y < length g → Enters y s t → Steps g s t
visit_start g s t y r idle new h e = enter_steps g s t y r new (omega (arith, h, r.each)) (λ q l. absurd (nothing_pending g s r idle (omega (arith, l)))) e

pub visit_visited : (g : Graph) (s t : Progress) (y : ℕ) → IsSearch g s → y < length g → Enters y s t → IsVisited t y
visit_visited g s t y r h e v = clash_new_pending (length s.pending) (sym v ∙ ap (λ l. state_of l y) e.states ∙ get_or-set_same s.states y (Pending (length s.pending)) New (omega (arith, h, r.each)))

pub found_first_at : (g : Graph) (s : Progress) (a : ℕ) → IsGraph g → IsSearched g s → a ≡ s.least → a < length g → IsFirstOnCycle g a
found_first_at g s a is_graph r e h = rw e (found_first g s is_graph r (omega (arith, e, h)))

pub found_ranks_at : (g : Graph) (s : Progress) (ranks : List ℕ) → IsGraph g → IsSearched g s → length g ≤ s.least → ranks ≡ map rank_of s.states → AreRanks g ranks
found_ranks_at g s ranks is_graph r h e = rw e (found_ranks g s is_graph r h)

pub found_places_at : (g : Graph) (s : Progress) (ranks order : List ℕ) → IsSearched g s → length g ≤ s.least → ranks ≡ map rank_of s.states → order ≡ s.order → ArePlaces ranks order
found_places_at g s ranks order r h e f = rw (e, f) (found_places g s r h)

pub found_order_at : (g : Graph) (s : Progress) (order : List ℕ) → IsGraph g → IsSearched g s → length g ≤ s.least → order ≡ s.order → IsOrder g order
found_order_at g s order is_graph r h f = rw f (order_of g (map rank_of s.states) s.order is_graph (found_ranks g s is_graph r h) (found_places g s r h))

-- a node leads to itself exactly where it has an edge to a node of its rank
edge_back : {g : Graph} {a b : ℕ} (s : Progress) (r : ℕ) → IsSearch g s → LeadsTo g a b → a ≡ b → state_of s.states a ≡ Done r → (c : ℕ) × HasEdge g a c × (state_of s.states c ≡ Done r)
edge_back {a = a} {b = b} s r h (by_edge e) same d = (b, e, sym (ap (λ n. state_of s.states n) same) ∙ d)
edge_back {a = a} {b = b} s r h (by_way {b = c} e w) same d =
    let o = h.falls a r c d e in
    let up : r ≤ o.0 = leads_down s o.0 r h w o.1 (sym (ap (λ n. state_of s.states n) same) ∙ d) in
    let is : o.0 ≡ r = omega (arith, up, o.2) in
    (c, e, o.1 ∙ ap Done is)

pub back_edge : (g : Graph) (s : Progress) (a : ℕ) → IsGraph g → IsSearched g s → LeadsTo g a a → (c : ℕ) × HasEdge g a c × (get_or (map rank_of s.states) c 0 ≡ get_or (map rank_of s.states) a 0)
back_edge g s a is_graph r w =
    let d = all_done g s a r (leads_within g a a is_graph w) in
    let o = edge_back s d.0 r.searching w refl d.1 in
    (o.0, o.1, rank_done s.states o.0 d.0 o.2 ∙ sym (rank_done s.states a d.0 d.1))

pub cycle_by : (g : Graph) (s : Progress) (a c : ℕ) → IsGraph g → IsSearched g s → HasEdge g a c → get_or (map rank_of s.states) c 0 ≡ get_or (map rank_of s.states) a 0 → LeadsTo g a a
cycle_by g s a c is_graph r e h =
    let w : (a < length g) × (c < length g) = edge_within g a c is_graph e in
    let d = all_done g s a r w.0 in
    let f = all_done g s c r w.1 in
    let same : f.0 ≡ d.0 = sym (rank_done s.states c f.0 f.1) ∙ h ∙ rank_done s.states a d.0 d.1 in
    then_reaches g a c a (by_edge e) (r.searching.same c a d.0 (f.1 ∙ ap Done same) d.1)
