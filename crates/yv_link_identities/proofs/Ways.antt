-- Ways from identities to their bases, along ranks that fall.
use Rattle.std.proofs.Common.{◌≡◌, ℕ, ◌+◌, ◌<◌, ◌≤◌, ◌⊎◌, inl, inr, List, length, get_or, refl, sym, ◌∙◌, ap, subst, arith}
use Rattle.std.proofs.lemmas.Bool.{cases_lt}
use Rattle.std.proofs.lemmas.Grind.{get_or_default_zero}
use Rattle.std.proofs.lemmas.List.{get_or_default}
use Rattle.std.proofs.lemmas.List.Elements.{All-contains}
use Rattle.std.proofs.lemmas.Option.{slice_get_within, get_or_from_slice_get, slice_get_read}
use Rattle.std.specs.List.{Contains}
use Rattle.std.specs.declared.vec.Vec.{Vec}
use Rattle.std.specs.declared.alloc.Global.{Global}
use Rattle.yv_base_graph.specs.Graph.{Graph, IsGraph, HasEdge, LeadsTo, by_edge, by_way, AreRanks, ArePlaces}
use Rattle.yv_link_identities.specs.InnerWays.{EntersBelow}

pub edge_within : (g : Graph) (a b : ℕ) → IsGraph g → HasEdge g a b → (a < length g) × (b < length g)
edge_within g a b is_graph (row, at, c) =
    let h : a < length g = slice_get_within g a row at in
    (h, All-contains (λ n. n < length g) row.items b (rw (get_or_from_slice_get g a row row at) at (is_graph a row h)) c)

pub row_edge : (g : Graph) (a i b : ℕ) (row : Vec ℕ Global) → a < length g → row ≡ get_or g a row → i < length row.items → b ≡ get_or row.items i b → HasEdge g a b
row_edge g a i b row h e l at = (row, slice_get_read g (length g) a row refl h e, (i, l, sym at))

-- the place of an edge in its row
pub edge_place : (g : Graph) (a b : ℕ) (row : Vec ℕ Global) → row ≡ get_or g a row → HasEdge g a b → Contains row.items b
edge_place g a b row e h = rw (e, get_or_from_slice_get g a h.0 row h.1) h.2

pub way_join : (g : Graph) {a b : ℕ} (c : ℕ) → LeadsTo g a b → LeadsTo g b c → LeadsTo g a c
way_join g c (by_edge e) w = by_way e w
way_join g c (by_way e v) w = by_way e (way_join g c v w)

pub way_falls : (g : Graph) (ranks : List ℕ) {a b : ℕ} → AreRanks g ranks → LeadsTo g a b → get_or ranks b 0 < get_or ranks a 0
way_falls g ranks r (by_edge {a = a} {b = b} e) = r.falls a b e
way_falls g ranks r (by_way {a = a} {b = c} {c = b} e w) = omega (arith, r.falls a c e, way_falls g ranks r w)

-- the first edge of a way
pub first_edge : (g : Graph) {a b : ℕ} → LeadsTo g a b → (c : ℕ) × HasEdge g a c × ((c ≡ b) ⊎ LeadsTo g c b)
first_edge g (by_edge {a = a} {b = b} e) = (b, e, inl refl)
first_edge g (by_way {a = a} {b = c} {c = b} e w) = (c, e, inr w)

pub edge_then : (g : Graph) (a c b : ℕ) → HasEdge g a c → (c ≡ b) ⊎ LeadsTo g c b → LeadsTo g a b
edge_then g a c b e (inl same) = by_edge (subst (λ (n : ℕ). HasEdge g a n) same e)
edge_then g a c b e (inr w) = by_way e w

-- a stem: from a node with one base alone
only_base : (g : Graph) (a b only : ℕ) (row : Vec ℕ Global) → row ≡ get_or g a row → length row.items ≡ 1 → only ≡ get_or row.items 0 only → HasEdge g a b → b ≡ only
only_base g a b only row e one at h =
    let c : Contains row.items b = edge_place g a b row e h in
    let first : c.0 ≡ 0 = omega (arith, c.1, one) in
    sym c.2 ∙ ap (λ i. get_or row.items i b) first ∙ get_or_default_zero row.items 0 b (omega (arith, one)) ∙ sym (at ∙ get_or_default_zero row.items 0 only (omega (arith, one)))

pub stem_to : (g : Graph) (a b only : ℕ) (row : Vec ℕ Global) → row ≡ get_or g a row → length row.items ≡ 1 → only ≡ get_or row.items 0 only → (only ≡ b → ⊥) → LeadsTo g a b → LeadsTo g only b
stem_to g a b only row e one at ne w =
    let f = first_edge g w in
    let same : f.0 ≡ only = only_base g a f.0 only row e one at f.1 in
    elim f.2 [ inl here ↦ absurd (ne (sym same ∙ here)) | inr onward ↦ subst (λ (n : ℕ). LeadsTo g n b) same onward ]

-- the next of a stem, as it is read
pub record NextOfStem (g : Graph) (ranks : List ℕ) (a b only : ℕ) : Type 0 where
  pub within : only < length g
  pub falls : get_or ranks only 0 < get_or ranks a 0
  pub to : LeadsTo g a b → LeadsTo g only b
  pub back : LeadsTo g only b → LeadsTo g a b

pub next_of_stem : (g : Graph) (ranks : List ℕ) (a b only : ℕ) (row again : Vec ℕ Global) → IsGraph g → AreRanks g ranks → a < length g → row ≡ get_or g a row → length row.items ≡ 1 → again ≡ get_or g a again → only ≡ get_or again.items 0 only → (only ≡ b → ⊥) → NextOfStem g ranks a b only
next_of_stem g ranks a b only row again is_graph r h e one f at ne =
    let same : again ≡ row = f ∙ get_or_default g a again row h ∙ sym e in
    let at' : only ≡ get_or row.items 0 only = at ∙ ap (λ (v : Vec ℕ Global). get_or v.items 0 only) same in
    let edge : HasEdge g a only = row_edge g a 0 only row h e (omega (arith, one)) at' in
    record {
      within = (edge_within g a only is_graph edge).1;
      falls = r.falls a only edge;
      to = stem_to g a b only row e one at' ne;
      back = by_way edge;
    }

-- what a search from the bases of a node has passed
abbrev pub NoneLeads : Graph → List ℕ → ℕ → ℕ → Type 0
NoneLeads g row i b = (k : ℕ) → k < i → (get_or row k 0 ≡ b) ⊎ LeadsTo g (get_or row k 0) b → ⊥

pub none_more : (g : Graph) (row : List ℕ) (i b c : ℕ) → NoneLeads g row i b → i < length row → c ≡ get_or row i c → (c ≡ b → ⊥) → (LeadsTo g c b → ⊥) → NoneLeads g row (i + 1) b
none_more g row i b c none h at ne bad k l o = elim (cases_lt k i) [
  | inl less ↦ none k less o
  | inr more ↦
      let same : k ≡ i = omega (arith, l, more) in
      let is : get_or row k 0 ≡ c = ap (λ n. get_or row n 0) same ∙ sym (at ∙ get_or_default_zero row i c h) in
      elim o [ inl e ↦ ne (sym is ∙ e) | inr w ↦ bad (subst (λ (n : ℕ). LeadsTo g n b) is w) ]
]

pub none_leads : (g : Graph) (a b n : ℕ) (row : Vec ℕ Global) → row ≡ get_or g a row → length row.items ≤ n → NoneLeads g row.items n b → LeadsTo g a b → ⊥
none_leads g a b n row e h none w =
    let f = first_edge g w in
    let c : Contains row.items f.0 = edge_place g a f.0 row e f.1 in
    let is : get_or row.items c.0 0 ≡ f.0 = sym (get_or_default_zero row.items c.0 f.0 c.1) ∙ c.2 in
    none c.0 (omega (arith, c.1, h)) (subst (λ (k : ℕ). (k ≡ b) ⊎ LeadsTo g k b) (sym is) f.2)

-- what a search for an edge that ends up to a rank has passed
abbrev pub NoneEnters : Graph → List ℕ → ℕ → List ℕ → ℕ → ℕ → Type 0
NoneEnters g ranks middle row i b = (k : ℕ) → k < i → get_or ranks (get_or row k 0) 0 ≤ middle → (get_or row k 0 ≡ b) ⊎ LeadsTo g (get_or row k 0) b → ⊥

pub none_enters_more : (g : Graph) (ranks : List ℕ) (middle : ℕ) (row : List ℕ) (i b c : ℕ) → NoneEnters g ranks middle row i b → i < length row → c ≡ get_or row i c → (get_or ranks c 0 ≤ middle → (c ≡ b) ⊎ LeadsTo g c b → ⊥) → NoneEnters g ranks middle row (i + 1) b
none_enters_more g ranks middle row i b c none h at bad k l low o = elim (cases_lt k i) [
  | inl less ↦ none k less low o
  | inr more ↦
      let same : k ≡ i = omega (arith, l, more) in
      let is : get_or row k 0 ≡ c = ap (λ n. get_or row n 0) same ∙ sym (at ∙ get_or_default_zero row i c h) in
      bad (subst (λ (n : ℕ). get_or ranks n 0 ≤ middle) is low) (subst (λ (n : ℕ). (n ≡ b) ⊎ LeadsTo g n b) is o)
]

pub none_enters : (g : Graph) (ranks : List ℕ) (middle a b n : ℕ) (row : Vec ℕ Global) → row ≡ get_or g a row → length row.items ≤ n → NoneEnters g ranks middle row.items n b → EntersBelow g ranks middle a b → ⊥
none_enters g ranks middle a b n row e h none w =
    let c : Contains row.items w.base = edge_place g a w.base row e w.edge in
    let is : get_or row.items c.0 0 ≡ w.base = sym (get_or_default_zero row.items c.0 w.base c.1) ∙ c.2 in
    none c.0 (omega (arith, c.1, h)) (subst (λ (k : ℕ). get_or ranks k 0 ≤ middle) (sym is) w.below) (subst (λ (k : ℕ). (k ≡ b) ⊎ LeadsTo g k b) (sym is) w.onward)

-- a way from above a rank to below it has an edge that passes it
pub record Crosses (g : Graph) (ranks : List ℕ) (middle a b : ℕ) : Type 0 where
  pub node : ℕ
  pub reached : (node ≡ a) ⊎ LeadsTo g a node
  pub high : middle < get_or ranks node 0
  pub enters : EntersBelow g ranks middle node b

pub crosses : (g : Graph) (ranks : List ℕ) (middle : ℕ) {a b : ℕ} → LeadsTo g a b → middle < get_or ranks a 0 → get_or ranks b 0 ≤ middle → Crosses g ranks middle a b
crosses g ranks middle (by_edge {a = a} {b = b} e) h l = record {
  node = a;
  reached = inl refl;
  high = h;
  enters = record { base = b; edge = e; below = l; onward = inl refl };
}
crosses g ranks middle (by_way {a = a} {b = c} {c = b} e w) h l = elim (cases_lt middle (get_or ranks c 0)) [
  | inl above ↦
      let r = crosses g ranks middle w above l in
      record {
        node = r.node;
        reached = elim r.reached [ inl same ↦ inr (by_edge (subst (λ (n : ℕ). HasEdge g a n) (sym same) e)) | inr v ↦ inr (by_way e v) ];
        high = r.high;
        enters = r.enters;
      }
  | inr below ↦ record {
    node = a;
    reached = inl refl;
    high = h;
    enters = record { base = c; edge = e; below = below; onward = inr w };
  }
]

-- what a search over the nodes above a rank has passed
abbrev pub NoneCrosses : Graph → List ℕ → List ℕ → ℕ → ℕ → ℕ → ℕ → Type 0
NoneCrosses g ranks order middle p a b = (k : ℕ) → middle < k → k < p → (get_or order k 0 ≡ a) ⊎ LeadsTo g a (get_or order k 0) → EntersBelow g ranks middle (get_or order k 0) b → ⊥

pub none_crosses : (g : Graph) (ranks order : List ℕ) (middle p a b : ℕ) → IsGraph g → AreRanks g ranks → ArePlaces ranks order → a < length g → get_or ranks a 0 < p → middle < get_or ranks a 0 → get_or ranks b 0 ≤ middle → NoneCrosses g ranks order middle p a b → LeadsTo g a b → ⊥
none_crosses g ranks order middle p a b is_graph r places within top h l none w =
    let c : Crosses g ranks middle a b = crosses g ranks middle w h l in
    let node_within : c.node < length ranks = elim c.reached [ inl same ↦ omega (arith, same, within, r.each) | inr v ↦ omega (arith, (edge_within g c.node c.enters.base is_graph c.enters.edge).0, r.each) ] in
    let up : get_or ranks c.node 0 ≤ get_or ranks a 0 = elim c.reached [ inl same ↦ omega (arith, ap (λ n. get_or ranks n 0) same) | inr v ↦ omega (arith, way_falls g ranks r v) ] in
    let o = places.found c.node node_within in
    let is : get_or order (get_or ranks c.node 0) 0 ≡ c.node = o.1 in
    none (get_or ranks c.node 0) c.high (omega (arith, up, top)) (subst (λ (n : ℕ). (n ≡ a) ⊎ LeadsTo g a n) (sym is) c.reached) (subst (λ (n : ℕ). EntersBelow g ranks middle n b) (sym is) c.enters)

pub crosses_back : (g : Graph) (ranks : List ℕ) (middle a b n : ℕ) → (n ≡ a) ⊎ LeadsTo g a n → EntersBelow g ranks middle n b → LeadsTo g a b
crosses_back g ranks middle a b n (inl same) w = subst (λ (k : ℕ). LeadsTo g k b) same (edge_then g n w.base b w.edge w.onward)
crosses_back g ranks middle a b n (inr v) w = way_join g b v (edge_then g n w.base b w.edge w.onward)

-- what the loops read of a row
pub item_edge : (g : Graph) (a i : ℕ) (row : Vec ℕ Global) (items : List ℕ) → a < length g → row ≡ get_or g a row → items ≡ row.items → i < length items → HasEdge g a (get_or items i 0)
item_edge g a i row items h e f l =
    let inside : i < length row.items = omega (arith, l, ap length f) in
    row_edge g a i (get_or items i 0) row h e inside (ap (λ xs. get_or xs i 0) f ∙ get_or_default row.items i 0 (get_or items i 0) inside)

pub enters_by : (g : Graph) (ranks : List ℕ) (middle a b i rank : ℕ) (row : Vec ℕ Global) (items : List ℕ) → IsGraph g → AreRanks g ranks → a < length g → row ≡ get_or g a row → items ≡ row.items → i < length items → rank ≡ get_or ranks (get_or items i 0) rank → rank ≤ middle → (get_or items i 0 ≡ b) ⊎ LeadsTo g (get_or items i 0) b → EntersBelow g ranks middle a b
enters_by g ranks middle a b i rank row items is_graph r h e f l at low onward =
    let edge : HasEdge g a (get_or items i 0) = item_edge g a i row items h e f l in
    let within : get_or items i 0 < length ranks = omega (arith, (edge_within g a (get_or items i 0) is_graph edge).1, r.each) in
    let is : rank ≡ get_or ranks (get_or items i 0) 0 = at ∙ get_or_default_zero ranks (get_or items i 0) rank within in
    record { base = get_or items i 0; edge = edge; below = omega (arith, is, low); onward = onward }

pub enters_not : (g : Graph) (ranks : List ℕ) (middle a b n : ℕ) (row : Vec ℕ Global) (items : List ℕ) → row ≡ get_or g a row → items ≡ row.items → length items ≤ n → NoneEnters g ranks middle items n b → EntersBelow g ranks middle a b → ⊥
enters_not g ranks middle a b n row items e f h none w =
    none_enters g ranks middle a b n row e (omega (arith, h, ap length f)) (subst (λ (xs : List ℕ). NoneEnters g ranks middle xs n b) f none) w

pub leads_not : (g : Graph) (a b n : ℕ) (row : Vec ℕ Global) (items : List ℕ) → row ≡ get_or g a row → items ≡ row.items → length items ≤ n → NoneLeads g items n b → LeadsTo g a b → ⊥
leads_not g a b n row items e f h none w =
    none_leads g a b n row e (omega (arith, h, ap length f)) (subst (λ (xs : List ℕ). NoneLeads g xs n b) f none) w

pub not_above : (g : Graph) (ranks : List ℕ) (a b node x y : ℕ) → AreRanks g ranks → (LeadsTo g a b → LeadsTo g node b) → node < length g → b < length g → x ≡ get_or ranks node x → y ≡ get_or ranks b y → x ≤ y → LeadsTo g a b → ⊥
not_above g ranks a b node x y r onward within within' at at' le w =
    let falls : get_or ranks b 0 < get_or ranks node 0 = way_falls g ranks r (onward w) in
    let high : x ≡ get_or ranks node 0 = at ∙ get_or_default_zero ranks node x (omega (arith, within, r.each)) in
    let low : y ≡ get_or ranks b 0 = at' ∙ get_or_default_zero ranks b y (omega (arith, within', r.each)) in
    omega (arith, falls, high, low, le)

-- one more node above the middle
pub none_crosses_more : (g : Graph) (ranks order : List ℕ) (middle p a b n : ℕ) → NoneCrosses g ranks order middle p a b → n ≡ get_or order p 0 → ((n ≡ a) ⊎ LeadsTo g a n → EntersBelow g ranks middle n b → ⊥) → NoneCrosses g ranks order middle (p + 1) a b
none_crosses_more g ranks order middle p a b n none at bad k above l o w = elim (cases_lt k p) [
  | inl less ↦ none k above less o w
  | inr more ↦
      let same : k ≡ p = omega (arith, l, more) in
      let is : get_or order k 0 ≡ n = ap (λ i. get_or order i 0) same ∙ sym at in
      bad (subst (λ (i : ℕ). (i ≡ a) ⊎ LeadsTo g a i) is o) (subst (λ (i : ℕ). EntersBelow g ranks middle i b) is w)
]

pub place_within : (g : Graph) (ranks order : List ℕ) (a p high : ℕ) → AreRanks g ranks → ArePlaces ranks order → a < length g → high ≡ get_or ranks a high → p ≤ high → p < length order
place_within g ranks order a p high r places within at le =
    let here : a < length ranks = omega (arith, within, r.each) in
    let is : high ≡ get_or ranks a 0 = at ∙ get_or_default_zero ranks a high here in
    omega (arith, is, le, (places.found a here).0)

pub rank_read : (g : Graph) (ranks : List ℕ) (a x : ℕ) → AreRanks g ranks → a < length g → x ≡ get_or ranks a x → x ≡ get_or ranks a 0
rank_read g ranks a x r within at = at ∙ get_or_default_zero ranks a x (omega (arith, within, r.each))
