-- One edge is followed.
use Rattle.std.proofs.Common.{◌≡◌, ℕ, ◌+◌, ◌-◌, ◌<◌, ◌≤◌, inl, inr, List, length, get_or, min, refl, sym, ◌∙◌, ap, subst, arith}
use Rattle.std.proofs.lemmas.List.{get_or_default}
use Rattle.std.proofs.lemmas.Grind.{get_or_default_zero}
use Rattle.std.proofs.lemmas.Option.{slice_get_read}
use Rattle.std.specs.declared.vec.Vec.{Vec}
use Rattle.std.specs.declared.alloc.Global.{Global}
use Rattle.yv_base_graph.specs.declared.search.State.{State}
use Rattle.yv_base_graph.specs.declared.search.State.TheVariants.{New, Pending, Done}
use Rattle.yv_base_graph.specs.Graph.{Graph, IsGraph, HasEdge}
use Rattle.yv_base_graph.specs.InnerSearch.{Progress, state_of, Enters, Skips, Joins, IsSearch, IsNext, Steps, IsTop, IsFollowed}
use Rattle.yv_base_graph.proofs.Among.{among_at}
use Rattle.yv_base_graph.proofs.Ranks.{edge_within}
use Rattle.yv_base_graph.proofs.SearchInvariant.{state_within, top_of, climbs, reaches_then, enter_steps, skip_steps, join_searching, remade}

pub next_edge : (g : Graph) (s : Progress) (x c y : ℕ) → IsNext g s x c y → HasEdge g x y
next_edge g s x c y n = (n.row, n.at, (c, n.inside, get_or_default_zero n.row.items c y n.inside ∙ sym n.reads))

state_read : (xs ys : List State) (x : ℕ) (v w : State) → xs ≡ ys → x < length ys → v ≡ get_or xs x v → v ≡ w → state_of ys x ≡ w
state_read xs ys x v w e h at is = get_or_default ys x New v h ∙ ap (λ l. get_or l x v) (sym e) ∙ sym at ∙ is

pub target_state : (g : Graph) (s : Progress) (x c y : ℕ) (xs : List State) (v w : State) → IsGraph g → IsSearch g s → IsNext g s x c y → xs ≡ s.states → v ≡ get_or xs y v → v ≡ w → state_of s.states y ≡ w
target_state g s x c y xs v w is_graph r n e at is = state_read xs s.states y v w e (omega (arith, (edge_within g x y is_graph (next_edge g s x c y n)).1, r.each)) at is

pub follow_new : (g : Graph) (s t : Progress) (x c y : ℕ) → IsGraph g → IsSearch g s → IsNext g s x c y → state_of s.states y ≡ New → Enters y s t → Steps g s t
follow_new g s t x c y is_graph r n new e =
    let edge : HasEdge g x y = next_edge g s x c y n in
    let top : IsTop g s (get_or s.path (length s.path - 1) 0) x = top_of g s (get_or s.path (length s.path - 1) 0) x r n.busy refl n.last in
    enter_steps g s t y r new (omega (arith, (edge_within g x y is_graph edge).1, r.each)) (λ q l. reaches_then g (get_or s.pending q 0) x y (climbs g s (get_or s.path (length s.path - 1) 0) x r top q l) edge) e

pub follow_done : (g : Graph) (s t : Progress) (x c y k : ℕ) → IsGraph g → IsSearch g s → IsNext g s x c y → state_of s.states y ≡ Done k → Skips x (c + 1) s t → Steps g s t
follow_done g s t x c y k is_graph r n done e =
    let top : IsTop g s (get_or s.path (length s.path - 1) 0) x = top_of g s (get_or s.path (length s.path - 1) 0) x r n.busy refl n.last in
    let at : get_or n.row.items (get_or s.cursors x 0) 0 ≡ y = ap (λ i. get_or n.row.items i 0) (sym n.next) ∙ sym n.reads in
    skip_steps g s t (get_or s.path (length s.path - 1) 0) x (c + 1) n.row r top n.at (omega (arith, n.inside, n.next)) (inl (k, ap (λ z. get_or s.states z New) at ∙ done)) (omega (arith, n.next)) e

pub follow_pending : (g : Graph) (s m t : Progress) (x c y place : ℕ) → IsGraph g → IsSearch g s → IsNext g s x c y → state_of s.states y ≡ Pending place → Joins x place s m → Skips x (c + 1) m t → Steps g s t
follow_pending g s m t x c y place is_graph r n pending j e =
    let top : IsTop g s (get_or s.path (length s.path - 1) 0) x = top_of g s (get_or s.path (length s.path - 1) 0) x r n.busy refl n.last in
    let at : get_or n.row.items (get_or s.cursors x 0) 0 ≡ y = ap (λ i. get_or n.row.items i 0) (sym n.next) ∙ sym n.reads in
    let mid : Progress = record { states = s.states; cursors = s.cursors; pending = s.pending; heads = m.heads; path = s.path; order = s.order; least = min s.least x } in
    let same : m ≡ mid = remade m mid _ _ _ _ _ _ _ j.states j.cursors j.pending refl j.path j.order j.least refl in
    let searching : IsSearch g mid = join_searching g s (get_or s.path (length s.path - 1) 0) x place y r top (next_edge g s x c y n) pending m.heads j.heads in
    let top_mid : IsTop g mid (get_or s.path (length s.path - 1) 0) x = record { on_path = top.on_path; greatest = top.greatest; state = top.state; within = top.within; node = top.node; path = top.path } in
    let to_x : min s.least x ≤ x = omega arith in
    let now : IsFollowed mid x (get_or s.path (length s.path - 1) 0) (get_or n.row.items (get_or s.cursors x 0) 0) = inr (place, ap (λ z. get_or s.states z New) at ∙ pending, (λ h a l k. let b = (j.heads.below h a).1 in omega (arith, b, l)), to_x) in
    let steps : Steps g mid t = skip_steps g mid t (get_or s.path (length s.path - 1) 0) x (c + 1) n.row searching top_mid n.at (omega (arith, n.inside, n.next)) now (omega (arith, n.next)) (subst (λ (u : Progress). Skips x (c + 1) u t) same e) in
    record { searching = steps.searching; kept = steps.kept; smaller = steps.smaller }

last_read : (xs ys : List ℕ) (n v : ℕ) → xs ≡ ys → n ≡ length xs → 0 < length ys → v ≡ get_or xs (n - 1) v → v ≡ get_or ys (length ys - 1) 0
last_read xs ys n v e f h at = rw (← e, ← f) (at ∙ get_or_default_zero xs (n - 1) v (let l : length xs ≡ length ys = ap length e in omega (arith, l, f, h)))

pub place_within : (g : Graph) (s : Progress) (p : ℕ) → IsSearch g s → 0 < length s.path → p ≡ get_or s.path (length s.path - 1) 0 → p < length s.pending
place_within g s p r h e = rw e (r.path_within (get_or s.path (length s.path - 1) 0) (among_at s.path (length s.path - 1) (omega arith)))

pub top_read : (g : Graph) (s : Progress) (p x : ℕ) (xs : List ℕ) → IsSearch g s → 0 < length s.path → p ≡ get_or s.path (length s.path - 1) 0 → xs ≡ s.pending → x ≡ get_or xs p x → IsTop g s p x
top_read g s p x xs r h e f at = top_of g s p x r h e (at ∙ ap (λ l. get_or l p x) f ∙ get_or_default_zero s.pending p x (place_within g s p r h e))

pub pending_within : (g : Graph) (s : Progress) (p x : ℕ) → IsSearch g s → IsTop g s p x → x < length g
pending_within g s p x r top = omega (arith, state_within s.states x p top.state, r.each)

pub is_next : (g : Graph) (s : Progress) (p x c y : ℕ) (row : Vec ℕ Global) → 0 < length s.path → p ≡ get_or s.path (length s.path - 1) 0 → IsTop g s p x → x < length g → row ≡ get_or g x row → c ≡ get_or s.cursors x 0 → c < length row.items → y ≡ get_or row.items c y → IsNext g s x c y
is_next g s p x c y row busy e top h at f inside reads = record {
  busy = busy;
  last = sym top.node ∙ ap (λ k. get_or s.pending k 0) e;
  next = f;
  row = row;
  at = slice_get_read g (length g) x row refl h at;
  inside = inside;
  reads = reads ∙ get_or_default_zero row.items c y inside;
}
