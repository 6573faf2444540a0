-- The graph of what is directly derived from each identity, and its ways.
use Rattle.std.proofs.Common.{◌≡◌, ℕ, ◌+◌, ◌<◌, ◌&&◌, inl, inr, Bool, true, false, cond, List, [], ◌∷◌, ◌++◌, length, set, get_or, Option, Some, None, refl, sym, ◌∙◌, ap, subst, arith, length-set, rules}
use Rattle.std.specs.Prelude.{nat_lt}
use Rattle.std.specs.List.{slice_get}
use Rattle.std.specs.Option.{option_map, option_and_then, unwrap_or}
use Rattle.std.specs.declared.vec.Vec.{Vec}
use Rattle.std.specs.declared.alloc.Global.{Global}
use Rattle.std.proofs.lemmas.Bool.{cases_lt}
use Rattle.std.proofs.lemmas.List.{get_or_default}
use Rattle.std.proofs.lemmas.Option.{same_Some, slice_get_within, slice_get-get_or}
use Rattle.yv_base_graph.specs.Graph.{Graph, HasEdge, IsGraph, LeadsTo, by_edge, by_way}
use Rattle.yv_link_scopes.specs.Files.{Briefs}
use Rattle.yv_link_scopes.specs.Rows.{Row, name_in}
use Rattle.yv_link_identities.specs.Names.{is_base, is_identity, identity_meant, HasBase}
use Rattle.yv_link_identities.specs.Derivation.{IsDerivedFrom, directly, further}
use Rattle.yv_link_identities.specs.InnerPairs.{HasNoEdge}
use Rattle.yv_link_identities.specs.References.{ref_of, reference_of}
use Rattle.yv_link_identities.specs.declared.references.IdentityRef.{IdentityRef}
use Rattle.yv_link_identities.proofs.DerivationWays.{meant_identity}
use Rattle.yv_link_identities.proofs.BaseGraph.{edges_old, edge_new, edges_are}
use Rattle.yv_link_identities.proofs.Ways.{way_join}
use Rattle.yv_type_identities.specs.InnerBases.{base_of}
use Rattle.yv_type_identities.specs.InnerRuns.{AreDerived, AreIdentityPlaces, is_identity_in, number_at, pair_of}
use Rattle.yv_type_identities.specs.declared.identity_places.IdentityPlaces.{IdentityPlaces}
use Rattle.yv_type_identities.proofs.Blocks.{means}
use Rattle.yv_type_identities.proofs.RowLoop.{both, both_true, mapped}

-- ### the edges that statements give, one by one

module _ (rows : List Row) (gives : Row → Option (ℕ × ℕ)) where
  abbrev pub HasPair : ℕ → ℕ → ℕ → Type 0
  HasPair n a b = (k : ℕ) × (k < n) × (r : Row) × (slice_get rows k ≡ Some r) × (gives r ≡ Some (a, b))

  -- the graph has the edges of the first statements, and no other from an identity
  pub record Edges (n : ℕ) (g : Graph) : Type 0 where
    pub edge : (a b : ℕ) → HasEdge g a b → is_identity_in rows a ≡ true → HasPair n a b
    pub all : (a b : ℕ) → HasPair n a b → HasEdge g a b

  pub edges_none : (g : Graph) → HasNoEdge g → Edges 0 g
  edges_none g none = record {
    edge = λ a b e i. absurd (none a b e);
    all = λ a b p. absurd (omega (arith, p.1));
  }

  module _ (n : ℕ) (r : Row) (o : Option (ℕ × ℕ)) (at : slice_get rows n ≡ Some r) (full : (a b : ℕ) → gives r ≡ Some (a, b) → o ≡ Some (a, b)) where
    pub edges_other : (g : Graph) → o ≡ None → Edges n g → Edges (n + 1) g
    edges_other g none m = record {
      edge = λ a b e i. let p = m.edge a b e i in (p.0, omega (arith, p.1), p.2, p.3, p.4);
      all = λ a b p. elim (cases_lt p.0 n) [
        | inl l ↦ m.all a b (p.0, l, p.2, p.3, p.4)
        | inr up ↦
            let same : p.0 ≡ n = omega (arith, p.1, up) in
            let row : p.2 ≡ r = same_Some p.2 r (sym p.3 ∙ ap (slice_get rows) same ∙ at) in
            let bad : None ≡ Some (a, b) = sym none ∙ full a b (ap gives (sym row) ∙ p.4) in
            absurd (let h : None ≡ Some (a, b) = bad in cc)
      ];
    }

    pub edges_more : (from to : ℕ) (g g' : Graph) (row row' : Vec ℕ Global) → o ≡ Some (from, to) → (is_identity_in rows from ≡ true → gives r ≡ Some (from, to)) → from < length g → row ≡ get_or g from row → row'.items ≡ row.items ++ to ∷ [] → g' ≡ set g from row' → Edges n g → Edges (n + 1) g'
    edges_more from to g g' row row' is sound h e more now m = rw now (record {
      edge = λ a b edge i. elim (edges_are g from row row' to a b h e more edge) [
        | inl old ↦ let p = m.edge a b old i in (p.0, omega (arith, p.1), p.2, p.3, p.4)
        | inr (same, same') ↦ (n, omega arith, r, at, rw (same, same') (sound (ap (is_identity_in rows) (sym same) ∙ i)))
      ];
      all = λ a b p. elim (cases_lt p.0 n) [
        | inl l ↦ edges_old g from row row' to a b h e more (m.all a b (p.0, l, p.2, p.3, p.4))
        | inr up ↦
            let same : p.0 ≡ n = omega (arith, p.1, up) in
            let this : p.2 ≡ r = same_Some p.2 r (sym p.3 ∙ ap (slice_get rows) same ∙ at) in
            let pair : ◌≡◌ {A = ℕ × ℕ} (from, to) (a, b) = same_Some {A = ℕ × ℕ} (from, to) (a, b) (sym is ∙ full a b (ap gives (sym this) ∙ p.4)) in
            subst (λ (q : ℕ × ℕ). HasEdge (set g from row') q.0 q.1) pair (edge_new g from row row' to h more)
      ];
    })

-- each edge ends at a node
abbrev pub Ends : Graph → Type 0
Ends g = (a b : ℕ) → HasEdge g a b → b < length g

pub ends_none : (g : Graph) → HasNoEdge g → Ends g
ends_none g none a b e = absurd (none a b e)

pub ends_more : (from to : ℕ) (g g' : Graph) (row row' : Vec ℕ Global) → from < length g → to < length g → row ≡ get_or g from row → row'.items ≡ row.items ++ to ∷ [] → g' ≡ set g from row' → Ends g → Ends g'
ends_more from to g g' row row' h t e more now m = rw now (λ a b edge. rw length-set (elim (edges_are g from row row' to a b h e more edge) [
  | inl old ↦ m a b old
  | inr (same, same') ↦ omega (arith, t, same')
]))

pub ends_graph : (g : Graph) → Ends g → IsGraph g
ends_graph g ends k d h i x l =
    let row : Vec ℕ Global = get_or g k d in
    let edge : HasEdge g k (get_or row.items i x) = (row, slice_get-get_or g k d h, (i, l, get_or_default row.items i (get_or row.items i x) x l)) in
    ends k (get_or row.items i x) edge

-- ### what a statement gives

identity_there : (rows : List Row) (k : ℕ) → is_identity_in rows k ≡ true → (r : Row) × (slice_get rows k ≡ Some r) × (is_identity r ≡ true)
identity_there rows k h = by (slice_get rows k) refl h
  where
    by : (o : Option Row) → slice_get rows k ≡ o → unwrap_or (option_map is_identity o) false ≡ true → (r : Row) × (slice_get rows k ≡ Some r) × (is_identity r ≡ true)
    by None e t = absurd (cc)
    by (Some r) e t = (r, e, t)

pub there_identity : (rows : List Row) (k : ℕ) (r : Row) → slice_get rows k ≡ Some r → is_identity r ≡ true → is_identity_in rows k ≡ true
there_identity rows k r at is = ap (λ o. unwrap_or (option_map is_identity o) false) at ∙ is

pub bound : {A B : Type 0} (o : Option A) (f : A → Option B) (y : B) → option_and_then f o ≡ Some y → (x : A) × (o ≡ Some x) × (f x ≡ Some y)
bound None f y h = absurd (cc)
bound (Some x) f y h = (x, refl, h)

chosen : (t : Bool) (p q : ℕ × ℕ) → cond t (Some p) None ≡ Some q → (t ≡ true) × (p ≡ q)
chosen true p q h = (refl, same_Some p q h)
chosen false p q h = absurd (cc)

module _ (files : Briefs) (rows : List Row) (places : IdentityPlaces) (are : AreIdentityPlaces rows places) where
  -- what a reference by a name means
  meant : (s : Row) (place : IdentityRef) (base : ℕ) → reference_of files rows s.file (name_in s) ≡ Some place → number_at places place ≡ Some base → identity_meant files rows s ≡ Some base
  meant s place base means at =
      let m = bound (identity_meant files rows s) (λ k. option_map ref_of (slice_get rows k)) place means in
      let r = mapped ref_of (slice_get rows m.0) place m.2 in
      let i = identity_there rows m.0 (meant_identity files rows s m.0 m.1) in
      let same : i.0 ≡ r.0 = same_Some i.0 r.0 (sym i.1 ∙ r.1) in
      let found : number_at places place ≡ Some m.0 = ap (number_at places) (sym r.2) ∙ are.found m.0 r.0 r.1 (ap is_identity (sym same) ∙ i.2) in
      m.1 ∙ ap Some (same_Some m.0 base (sym found ∙ at))

  pub pair_base : (k : ℕ) (s : Row) (base own : ℕ) → slice_get rows k ≡ Some s → pair_of files rows rows places s ≡ Some (base, own) → HasBase files rows own base
  pair_base k s base own at h =
      let a = bound (base_of files rows s) _ (base, own) h in
      let b = bound (number_at places a.0) _ (base, own) a.2 in
      let c = chosen (nat_lt b.0 (length rows) && (is_identity_in rows s.scope && nat_lt s.scope (length rows))) (b.0, s.scope) (base, own) b.2 in
      let d = both (nat_lt b.0 (length rows)) _ c.0 in
      let e = both (is_identity_in rows s.scope) _ d.1 in
      let one : b.0 ≡ base = ap (λ (p : ℕ × ℕ). p.0) c.1 in
      let in' : s.scope ≡ own = ap (λ (p : ℕ × ℕ). p.1) c.1 in
      let i = identity_there rows s.scope e.0 in
      let m = means files rows s a.0 (is_base s) refl a.1 in
      record {
        own = i.0;
        own_at = ap (slice_get rows) (sym in') ∙ i.1;
        is_one = i.2;
        number = k;
        statement = s;
        stands = at;
        names = m.0;
        inside = in';
        means = meant s a.0 base m.1 (b.1 ∙ ap Some one);
      }

  pub base_pair : (base own : ℕ) → HasBase files rows own base → HasPair rows (pair_of files rows rows places) (length rows) base own
  base_pair base own h =
      let i = identity_there rows base (meant_identity files rows h.statement base h.means) in
      let refers : reference_of files rows h.statement.file (name_in h.statement) ≡ Some (ref_of i.0) = ap (option_and_then (λ k. option_map ref_of (slice_get rows k))) h.means ∙ ap (option_map ref_of) i.1 in
      let gives : base_of files rows h.statement ≡ Some (ref_of i.0) = ap (λ b. cond b (reference_of files rows h.statement.file (name_in h.statement)) None) h.names ∙ refers in
      let at : number_at places (ref_of i.0) ≡ Some base = are.found base i.0 i.1 i.2 in
      let low : nat_lt base (length rows) ≡ true = below base (length rows) (slice_get_within rows base i.0 i.1) in
      let is : is_identity_in rows h.statement.scope ≡ true = ap (is_identity_in rows) h.inside ∙ there_identity rows own h.own h.own_at h.is_one in
      let lower : nat_lt h.statement.scope (length rows) ≡ true = below h.statement.scope (length rows) (let l : h.statement.scope < length rows = omega (arith, h.inside, slice_get_within rows own h.own h.own_at) in l) in
      let test : ℕ → Option (ℕ × ℕ) = λ b. cond (nat_lt b (length rows) && (is_identity_in rows h.statement.scope && nat_lt h.statement.scope (length rows))) (Some (b, h.statement.scope)) None in (
        h.number,
        slice_get_within rows h.number h.statement h.stands,
        h.statement,
        h.stands,
        ap (option_and_then (λ place. option_and_then test (number_at places place))) gives
            ∙ ap (option_and_then test) at
            ∙ ap (λ t. cond t (Some (base, h.statement.scope)) None) (both_true (nat_lt base (length rows)) _ low (both_true (is_identity_in rows h.statement.scope) _ is lower))
            ∙ ap (λ o. Some (base, o)) h.inside,
      )
    where
      below : (a b : ℕ) → a < b → nat_lt a b ≡ true
      below a b l = search rules

  pub edges_all : (n : ℕ) (g : Graph) → length g ≡ length rows → n ≡ length rows → Edges rows (pair_of files rows rows places) n g → AreDerived files rows g
  edges_all n g each all m = record {
    each = each;
    edge = λ base own e i. let p = m.edge base own e i in pair_base p.0 p.2 base own p.3 p.4;
    all = λ base own h. let p = base_pair base own h in m.all base own (p.0, omega (arith, p.1, all), p.2, p.3, p.4);
  }

-- ### ways

module _ (files : Briefs) (rows : List Row) (g : Graph) (are : AreDerived files rows g) where
  onward : {i b : ℕ} (c : ℕ) → IsDerivedFrom files rows i b → HasBase files rows b c → IsDerivedFrom files rows i c
  onward c (directly h) base = further h (directly base)
  onward c (further h d) base = further h (onward c d base)

  pub leads_derived : {a b : ℕ} → is_identity_in rows a ≡ true → LeadsTo g a b → IsDerivedFrom files rows b a
  leads_derived is (by_edge {a = a} {b = b} e) = directly (are.edge a b e is)
  leads_derived is (by_way {a = a} {b = c} {c = b} e w) =
      let base = are.edge a c e is in
      onward a (leads_derived (there_identity rows c base.own base.own_at base.is_one) w) base

  pub derived_leads : {i b : ℕ} → IsDerivedFrom files rows i b → LeadsTo g b i
  derived_leads (directly {i = i} {b = b} h) = by_edge (are.all b i h)
  derived_leads (further {i = i} {b = c} {c = b} h d) = way_join g i (derived_leads d) (by_edge (are.all c i h))
