-- The graph of definitions, as it is filled statement by statement.
use Rattle.std.proofs.Common.{◌≡◌, ℕ, ◌+◌, ◌<◌, ◌↔◌, ◌⊎◌, inl, inr, zero, suc, List, [], ◌∷◌, ◌++◌, length, set, get_or, refl, sym, ◌∙◌, ap, subst, arith, Option, Some, None, length-set, get_or-set_same, get_or-set_other}
use Rattle.std.proofs.lemmas.Bool.{cases_eq, cases_lt}
use Rattle.std.proofs.lemmas.List.{get_or_default, get_or_append_left}
use Rattle.std.proofs.lemmas.Option.{same_Some, slice_get_within, slice_get-get_or, get_or_from_slice_get, slice_get_read}
use Rattle.std.specs.List.{slice_get, Contains}
use Rattle.std.specs.declared.vec.Vec.{Vec}
use Rattle.std.specs.declared.alloc.Global.{Global}
use Rattle.yv_link_scopes.specs.Files.{Briefs}
use Rattle.yv_link_scopes.specs.Rows.{Row}
use Rattle.yv_link_scopes.specs.declared.kind.NameKind.{NameKind}
use Rattle.yv_base_graph.specs.Graph.{Graph, HasEdge}
use Rattle.yv_link_definitions.specs.Leads.{CountsFor, directly, further, Joins}
use Rattle.yv_link_definitions.specs.InnerGraph.{HasNoEdge, AreSteps}
use Rattle.yv_link_definitions.proofs.MeantDefinitions.{meant_within}

pub last_of : {A : Type 0} (xs : List A) (y d : A) → get_or (xs ++ y ∷ []) (length xs) d ≡ y
last_of [] y d = refl
last_of (x ∷ xs) y d = last_of xs y d

pub longer : {A : Type 0} (xs : List A) (y : A) → length (xs ++ y ∷ []) ≡ length xs + 1
longer [] y = refl
longer (x ∷ xs) y = omega (arith, longer xs y)

pub pushed_at : {A : Type 0} (xs : List A) (y r : A) (a : ℕ) → slice_get (xs ++ y ∷ []) a ≡ Some r → (slice_get xs a ≡ Some r) ⊎ ((a ≡ length xs) × (y ≡ r))
pushed_at [] y r zero h = inr (refl, same_Some y r h)
pushed_at [] y r (suc a) h = cc
pushed_at (x ∷ xs) y r zero h = inl h
pushed_at (x ∷ xs) y r (suc a) h = elim (pushed_at xs y r a h) [ inl old ↦ inl old | inr (e, same) ↦ inr (omega (arith, e), same) ]

nothing_in : (items : List ℕ) (b : ℕ) → items ≡ [] → Contains items b → ⊥
nothing_in items b e c = let none : length items ≡ 0 = ap length e in omega (arith, c.1, none)

pub no_edge_none : (g : Graph) → g ≡ [] → HasNoEdge g
no_edge_none g e a b h = let none : length g ≡ 0 = ap length e in omega (arith, slice_get_within g a h.0 h.1, none)

pub no_edge_more : (g g' : Graph) (row : Vec ℕ Global) → HasNoEdge g → row.items ≡ [] → g' ≡ g ++ row ∷ [] → HasNoEdge g'
no_edge_more g g' row none empty e a b h = elim (pushed_at g row h.0 a (ap (λ (x : Graph). slice_get x a) (sym e) ∙ h.1)) [
  | inl old ↦ none a b (h.0, old, h.2)
  | inr (at, same) ↦ nothing_in h.0.items b (ap (λ (v : Vec ℕ Global). v.items) (sym same) ∙ empty) h.2
]

-- one more edge
edges_old : (g : Graph) (own : ℕ) (row row' : Vec ℕ Global) (base a b : ℕ) → own < length g → row ≡ get_or g own row → row'.items ≡ row.items ++ base ∷ [] → HasEdge g a b → HasEdge (set g own row') a b
edges_old g own row row' base a b h e more (v, at, c) = elim (cases_eq a own) [
  | inl same ↦
      let v_is : v ≡ row = sym (get_or_from_slice_get g own v row (ap (slice_get g) (sym same) ∙ at)) ∙ sym e in
      let c' : Contains row.items b = rw v_is at c in
      let here : slice_get (set g own row') a ≡ Some row' = slice_get-get_or (set g own row') a row' (rw length-set (omega (arith, same, h))) ∙ ap Some (ap (λ n. get_or (set g own row') n row') same ∙ get_or-set_same g own row' row' h) in
      (row', here, rw more (c'.0, omega (arith, c'.1, longer row.items base), get_or_append_left row.items (base ∷ []) b c'.0 c'.1 ∙ c'.2))
  | inr ne ↦
      let within : a < length g = slice_get_within g a v at in
      let here : slice_get (set g own row') a ≡ Some v = slice_get-get_or (set g own row') a v (rw length-set within) ∙ ap Some (let k : get_or (set g own row') a v ≡ get_or g a v = rw get_or-set_other refl in k) ∙ sym (slice_get-get_or g a v within) ∙ at in
      (v, here, c)
]

edge_new : (g : Graph) (own : ℕ) (row row' : Vec ℕ Global) (base : ℕ) → own < length g → row'.items ≡ row.items ++ base ∷ [] → HasEdge (set g own row') own base
edge_new g own row row' base h more =
    let here : slice_get (set g own row') own ≡ Some row' = slice_get-get_or (set g own row') own row' (rw length-set h) ∙ ap Some (get_or-set_same g own row' row' h) in
    (row', here, rw more (length row.items, omega (arith, longer row.items base), last_of row.items base base))

pushed_in : (items : List ℕ) (base b : ℕ) → Contains (items ++ base ∷ []) b → Contains items b ⊎ (b ≡ base)
pushed_in items base b (k, l, at) = elim (cases_lt k (length items)) [
  | inl less ↦ inl (k, less, sym (get_or_append_left items (base ∷ []) b k less) ∙ at)
  | inr up ↦ let same : k ≡ length items = omega (arith, l, up, longer items base) in inr (sym at ∙ ap (λ n. get_or (items ++ base ∷ []) n b) same ∙ last_of items base b)
]

edges_are : (g : Graph) (own : ℕ) (row row' : Vec ℕ Global) (base a b : ℕ) → own < length g → row ≡ get_or g own row → row'.items ≡ row.items ++ base ∷ [] → HasEdge (set g own row') a b → HasEdge g a b ⊎ ((a ≡ own) × (b ≡ base))
edges_are g own row row' base a b h e more (v, at, c) = elim (cases_eq a own) [
  | inl same ↦
      let here : slice_get (set g own row') own ≡ Some row' = slice_get-get_or (set g own row') own row' (rw length-set h) ∙ ap Some (get_or-set_same g own row' row' h) in
      let v_is : v ≡ row' = same_Some v row' (sym at ∙ ap (slice_get (set g own row')) same ∙ here) in
      let c' : Contains (row.items ++ base ∷ []) b = rw (← more, ← v_is) c in
      elim (pushed_in row.items base b c') [
        | inl old ↦ inl (row, slice_get_read g (length g) a row refl (omega (arith, same, h)) (e ∙ ap (λ n. get_or g n row) (sym same)), old)
        | inr new ↦ inr (same, new)
      ]
  | inr ne ↦
      let within : a < length g = rw length-set at (slice_get_within (set g own row') a v at) in
      let there : slice_get g a ≡ Some v = slice_get-get_or g a v within ∙ ap Some (let k : get_or g a v ≡ get_or (set g own row') a v = rw get_or-set_other refl in k) ∙ sym (slice_get-get_or (set g own row') a v (rw length-set within)) ∙ at in
      inl (v, there, c)
]

-- what is counted for is a statement
owner_within : (rows : List Row) (kind : NameKind) {k d : ℕ} → CountsFor rows kind k d → d < length rows
owner_within rows kind (directly {d = d} {s = s} here e there one) = slice_get_within rows d s there
owner_within rows kind (further here e there between rest) = owner_within rows kind rest

pub joins_within : (files : Briefs) (rows : List Row) (k a b : ℕ) → Joins files rows k a b → (a < length rows) × (b < length rows)
joins_within files rows k a b h = (owner_within rows h.0 h.1, meant_within files rows h.0 k b h.2)

-- a pair that one of the first statements gives
abbrev pub HasPair : Briefs → List Row → ℕ → ℕ → ℕ → Type 0
HasPair files rows n a b = (k : ℕ) × (k < n) × Joins files rows k a b

pub record Pairing (files : Briefs) (rows : List Row) (n : ℕ) (g : Graph) : Type 0 where
  pub each : length g ≡ length rows
  pub edge : (a b : ℕ) → HasEdge g a b → HasPair files rows n a b
  pub all : (a b : ℕ) → HasPair files rows n a b → HasEdge g a b

pub pairing_none : (files : Briefs) (rows : List Row) (g : Graph) → length g ≡ length rows → HasNoEdge g → Pairing files rows 0 g
pairing_none files rows g each none = record {
  each = each;
  edge = λ a b e. absurd (none a b e);
  all = λ a b p. absurd (omega (arith, p.1));
}

-- what a statement gives
abbrev pub GivesPair : Briefs → List Row → ℕ → Option (ℕ × ℕ) → Type 0
GivesPair files rows k o = (a b : ℕ) → (o ≡ Some (a, b)) ↔ Joins files rows k a b

-- one more statement, which gives no pair
pub pairing_other : (files : Briefs) (rows : List Row) (n : ℕ) (g : Graph) (o : Option (ℕ × ℕ)) → Pairing files rows n g → GivesPair files rows n o → o ≡ None → Pairing files rows (n + 1) g
pairing_other files rows n g o m gives none = record {
  each = m.each;
  edge = λ a b e. let p = m.edge a b e in (p.0, omega (arith, p.1), p.2);
  all = λ a b p. elim (cases_lt p.0 n) [
    | inl l ↦ m.all a b (p.0, l, p.2)
    | inr up ↦
        let same : p.0 ≡ n = omega (arith, p.1, up) in
        let bad : None ≡ Some (a, b) = sym none ∙ (gives a b).1 (subst (λ k. Joins files rows k a b) same p.2) in
        absurd (let h : None ≡ Some (a, b) = bad in cc)
  ];
}

-- one more statement, which gives a pair
pub pairing_pair : (files : Briefs) (rows : List Row) (n own base : ℕ) (g g' : Graph) (row row' : Vec ℕ Global) → Pairing files rows n g → GivesPair files rows n (Some (own, base)) → own < length g → row ≡ get_or g own row → row'.items ≡ row.items ++ base ∷ [] → g' ≡ set g own row' → Pairing files rows (n + 1) g'
pairing_pair files rows n own base g g' row row' m gives h e more now = rw now (record {
  each = rw length-set m.each;
  edge = λ a b edge. elim (edges_are g own row row' base a b h e more edge) [
    | inl old ↦ let p = m.edge a b old in (p.0, omega (arith, p.1), p.2)
    | inr (same, same') ↦ (n, omega arith, rw (same, same') ((gives own base).0 refl))
  ];
  all = λ a b p. elim (cases_lt p.0 n) [
    | inl l ↦ edges_old g own row row' base a b h e more (m.all a b (p.0, l, p.2))
    | inr up ↦
        let same : p.0 ≡ n = omega (arith, p.1, up) in
        let given : ◌≡◌ {A = Option (ℕ × ℕ)} (Some (own, base)) (Some (a, b)) = (gives a b).1 (subst (λ k. Joins files rows k a b) same p.2) in
        let pair : ◌≡◌ {A = ℕ × ℕ} (own, base) (a, b) = same_Some {A = ℕ × ℕ} (own, base) (a, b) given in
        subst (λ (q : ℕ × ℕ). HasEdge (set g own row') q.0 q.1) pair (edge_new g own row row' base h more)
  ];
})

pub pairing_all : (files : Briefs) (rows : List Row) (n : ℕ) (g : Graph) → n ≡ length rows → Pairing files rows n g → AreSteps files rows g
pairing_all files rows n g all m = record {
  each = m.each;
  within = λ k d h i x l.
      let row : Vec ℕ Global = get_or g k d in
      let edge : HasEdge g k (get_or row.items i x) = (row, slice_get-get_or g k d h, (i, l, get_or_default row.items i (get_or row.items i x) x l)) in
      let p = m.edge k (get_or row.items i x) edge in
      let w : get_or row.items i x < length rows = (joins_within files rows p.0 k (get_or row.items i x) p.2).1 in
      omega (arith, w, m.each);
  edge = λ a b e. let p = m.edge a b e in (p.0, p.2);
  all = λ k a b j. m.all a b (k, (let r = j.2 in let w = slice_get_within rows k r.statement r.at in omega (arith, w, all)), j);
}
