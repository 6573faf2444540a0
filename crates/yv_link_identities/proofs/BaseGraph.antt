-- The graph of the bases, as it is filled statement by statement.
use Rattle.std.proofs.Common.{◌≡◌, ℕ, ◌+◌, ◌<◌, ◌⊎◌, inl, inr, zero, suc, Bool, true, false, cond, List, [], ◌∷◌, ◌++◌, length, set, get_or, refl, sym, ◌∙◌, ap, subst, arith, Option, Some, None, length-set, get_or-set_same, get_or-set_other}
use Rattle.std.proofs.lemmas.Bool.{cases_eq, cases_lt}
use Rattle.std.proofs.lemmas.List.{get_or_default, get_or_append_left}
use Rattle.std.proofs.lemmas.Option.{same_Some, slice_get_within, slice_get-get_or, get_or_from_slice_get, slice_get_read}
use Rattle.std.specs.List.{slice_get, Contains}
use Rattle.std.specs.Option.{option_map, option_and_then}
use Rattle.std.specs.declared.vec.Vec.{Vec}
use Rattle.std.specs.declared.alloc.Global.{Global}
use Rattle.yv_link_scopes.specs.Files.{Briefs}
use Rattle.yv_link_scopes.specs.Rows.{Row}
use Rattle.yv_base_graph.specs.Graph.{Graph, HasEdge}
use Rattle.yv_link_identities.specs.Names.{is_base, identity_meant, HasBase}
use Rattle.yv_link_identities.specs.InnerIdentityNumbers.{number_at, count_of, node_of}
use Rattle.yv_link_identities.specs.InnerPairs.{pair_of, HasNoEdge, AreBases}
use Rattle.yv_link_identities.proofs.PassingNumbers.{longer, last_of}
use Rattle.yv_link_identities.proofs.Numbering.{node_some, node_back, identity_row}

pushed_at : {A : Type 0} (xs : List A) (y r : A) (a : ℕ) → slice_get (xs ++ y ∷ []) a ≡ Some r → (slice_get xs a ≡ Some r) ⊎ ((a ≡ length xs) × (y ≡ r))
pushed_at [] y r zero h = inr (refl, same_Some y r h)
pushed_at [] y r (suc a) h = cc
pushed_at (x ∷ xs) y r zero h = inl h
pushed_at (x ∷ xs) y r (suc a) h = elim (pushed_at xs y r a h) [ inl old ↦ inl old | inr (e, same) ↦ inr (omega (arith, e), same) ]

nothing_in : (items : List ℕ) (b : ℕ) → items ≡ [] → Contains items b → ⊥
nothing_in items b e c = let none : length items ≡ 0 = ap length e in omega (arith, c.1, none)

pub no_edge_none : (g : Graph) → g ≡ [] → HasNoEdge g
no_edge_none g e a b h = let none : length g ≡ 0 = ap length e in omega (arith, slice_get_within g a h.0 h.1, none)

pub no_edge_more : (g g' : Graph) (row : Vec ℕ Global) → HasNoEdge g → row.items ≡ [] → g' ≡ g ++ row ∷ [] → HasNoEdge g'
no_edge_more g g' row none empty e a b h = elim (pushed_at g row h.0 a (ap (λ (x : Graph). slice_get x a) (sym e) ∙ h.1)) [
  | inl old ↦ none a b (h.0, old, h.2)
  | inr (at, same) ↦ nothing_in h.0.items b (ap (λ (v : Vec ℕ Global). v.items) (sym same) ∙ empty) h.2
]

-- the parts of a pair
map_by : (o : Option ℕ) (own a b : ℕ) → option_map {U = ℕ × ℕ} (λ z. (own, z)) o ≡ Some (a, b) → (own ≡ a) × (o ≡ Some b)
map_by None own a b h = cc
map_by (Some z) own a b h =
    let e : ◌≡◌ {A = ℕ × ℕ} (own, z) (a, b) = same_Some {A = ℕ × ℕ} (own, z) (a, b) h in
    (ap (λ (p : ℕ × ℕ). p.0) e, ap (λ (p : ℕ × ℕ). Some p.1) e)

pair_by : (t : Bool) (o m : Option ℕ) (f : ℕ → Option ℕ) (a b : ℕ) → cond t (option_and_then {U = ℕ × ℕ} (λ own. option_and_then {U = ℕ × ℕ} (λ meant. option_map {U = ℕ × ℕ} (λ base. (own, base)) (f meant)) m) o) None ≡ Some (a, b) → (t ≡ true) × (o ≡ Some a) × (d : ℕ) × (m ≡ Some d) × (f d ≡ Some b)
pair_by false o m f a b h = cc
pair_by true None m f a b h = cc
pair_by true (Some own) None f a b h = cc
pair_by true (Some own) (Some d) f a b h = let r = map_by (f d) own a b h in (refl, ap Some r.0, d, refl, r.1)

pair_made : (t : Bool) (o m : Option ℕ) (f : ℕ → Option ℕ) (a b d : ℕ) → t ≡ true → o ≡ Some a → m ≡ Some d → f d ≡ Some b → cond t (option_and_then {U = ℕ × ℕ} (λ own. option_and_then {U = ℕ × ℕ} (λ meant. option_map {U = ℕ × ℕ} (λ base. (own, base)) (f meant)) m) o) None ≡ Some (a, b)
pair_made t o m f a b d e h i j = rw (e, h, i) (ap (option_map {U = ℕ × ℕ} (λ base. (a, base))) j)

-- a pair that one of the first statements gives
abbrev pub HasPair : Briefs → List Row → ℕ → ℕ → ℕ → Type 0
HasPair files rows n a b = (k : ℕ) × (k < n) × (r : Row) × (slice_get rows k ≡ Some r) × (pair_of files rows r ≡ Some (a, b))

pub record Pairing (files : Briefs) (rows : List Row) (n : ℕ) (g : Graph) : Type 0 where
  pub each : length g ≡ count_of rows
  pub edge : (a b : ℕ) → HasEdge g a b → HasPair files rows n a b
  pub all : (a b : ℕ) → HasPair files rows n a b → HasEdge g a b

pub pairing_none : (files : Briefs) (rows : List Row) (g : Graph) → length g ≡ count_of rows → HasNoEdge g → Pairing files rows 0 g
pairing_none files rows g each none = record {
  each = each;
  edge = λ a b e. absurd (none a b e);
  all = λ a b p. absurd (omega (arith, p.1));
}

-- one more statement, which gives no pair
pub pairing_other : (files : Briefs) (rows : List Row) (n : ℕ) (r : Row) (g : Graph) (o : Option (ℕ × ℕ)) → Pairing files rows n g → slice_get rows n ≡ Some r → o ≡ pair_of files rows r → o ≡ None → Pairing files rows (n + 1) g
pairing_other files rows n r g o m at is none = record {
  each = m.each;
  edge = λ a b e. let p = m.edge a b e in (p.0, omega (arith, p.1), p.2, p.3, p.4);
  all = λ a b p. elim (cases_lt p.0 n) [
    | inl l ↦ m.all a b (p.0, l, p.2, p.3, p.4)
    | inr up ↦
        let same : p.0 ≡ n = omega (arith, p.1, up) in
        let row : p.2 ≡ r = same_Some p.2 r (sym p.3 ∙ ap (slice_get rows) same ∙ at) in
        let bad : None ≡ Some (a, b) = sym none ∙ is ∙ ap (pair_of files rows) (sym row) ∙ p.4 in
        absurd (let h : None ≡ Some (a, b) = bad in cc)
  ];
}

-- one more edge
pub edges_old : (g : Graph) (own : ℕ) (row row' : Vec ℕ Global) (base a b : ℕ) → own < length g → row ≡ get_or g own row → row'.items ≡ row.items ++ base ∷ [] → HasEdge g a b → HasEdge (set g own row') a b
edges_old g own row row' base a b h e more (v, at, c) = elim (cases_eq a own) [
  | inl same ↦
      let v_is : v ≡ row = sym (get_or_from_slice_get g own v row (ap (slice_get g) (sym same) ∙ at)) ∙ sym e in
      let c' : Contains row.items b = rw v_is at c in
      let here : slice_get (set g own row') a ≡ Some row' = slice_get-get_or (set g own row') a row' (rw length-set (omega (arith, same, h))) ∙ ap Some (ap (λ n. get_or (set g own row') n row') same ∙ get_or-set_same g own row' row' h) in
      (row', here, rw more (c'.0, omega (arith, c'.1, longer row.items base), get_or_append_left row.items (base ∷ []) b c'.0 c'.1 ∙ c'.2))
  | inr ne ↦
      let within : a < length g = slice_get_within g a v at in
      let here : slice_get (set g own row') a ≡ Some v = slice_get-get_or (set g own row') a v (rw length-set within) ∙ ap Some (let k : get_or (set g own row') a v ≡ get_or g a v = rw get_or-set_other refl in k) ∙ sym (slice_get-get_or g a v within) ∙ at in
      (v, here, c)
]

pub edge_new : (g : Graph) (own : ℕ) (row row' : Vec ℕ Global) (base : ℕ) → own < length g → row'.items ≡ row.items ++ base ∷ [] → HasEdge (set g own row') own base
edge_new g own row row' base h more =
    let here : slice_get (set g own row') own ≡ Some row' = slice_get-get_or (set g own row') own row' (rw length-set h) ∙ ap Some (get_or-set_same g own row' row' h) in
    (row', here, rw more (length row.items, omega (arith, longer row.items base), last_of row.items base base))

pub pushed_in : (items : List ℕ) (base b : ℕ) → Contains (items ++ base ∷ []) b → Contains items b ⊎ (b ≡ base)
pushed_in items base b (k, l, at) = elim (cases_lt k (length items)) [
  | inl less ↦ inl (k, less, sym (get_or_append_left items (base ∷ []) b k less) ∙ at)
  | inr up ↦ let same : k ≡ length items = omega (arith, l, up, longer items base) in inr (sym at ∙ ap (λ n. get_or (items ++ base ∷ []) n b) same ∙ last_of items base b)
]

pub edges_are : (g : Graph) (own : ℕ) (row row' : Vec ℕ Global) (base a b : ℕ) → own < length g → row ≡ get_or g own row → row'.items ≡ row.items ++ base ∷ [] → HasEdge (set g own row') a b → HasEdge g a b ⊎ ((a ≡ own) × (b ≡ base))
edges_are g own row row' base a b h e more (v, at, c) = elim (cases_eq a own) [
  | inl same ↦
      let here : slice_get (set g own row') own ≡ Some row' = slice_get-get_or (set g own row') own row' (rw length-set h) ∙ ap Some (get_or-set_same g own row' row' h) in
      let v_is : v ≡ row' = same_Some v row' (sym at ∙ ap (slice_get (set g own row')) same ∙ here) in
      let c' : Contains (row.items ++ base ∷ []) b = rw (← more, ← v_is) c in
      elim (pushed_in row.items base b c') [
        | inl old ↦ inl (row, slice_get_read g (length g) a row refl (omega (arith, same, h)) (e ∙ ap (λ n. get_or g n row) (sym same)), old)
        | inr new ↦ inr (same, new)
      ]
  | inr ne ↦
      let within : a < length g = rw length-set at (slice_get_within (set g own row') a v at) in
      let there : slice_get g a ≡ Some v = slice_get-get_or g a v within ∙ ap Some (let k : get_or g a v ≡ get_or (set g own row') a v = rw get_or-set_other refl in k) ∙ sym (slice_get-get_or (set g own row') a v (rw length-set within)) ∙ at in
      inl (v, there, c)
]

-- one more statement, which gives a pair
pub pairing_pair : (files : Briefs) (rows : List Row) (n own base : ℕ) (r : Row) (g g' : Graph) (row row' : Vec ℕ Global) → Pairing files rows n g → slice_get rows n ≡ Some r → pair_of files rows r ≡ Some (own, base) → own < length g → row ≡ get_or g own row → row'.items ≡ row.items ++ base ∷ [] → g' ≡ set g own row' → Pairing files rows (n + 1) g'
pairing_pair files rows n own base r g g' row row' m at is h e more now = rw now (record {
  each = rw length-set m.each;
  edge = λ a b edge. elim (edges_are g own row row' base a b h e more edge) [
    | inl old ↦ let p = m.edge a b old in (p.0, omega (arith, p.1), p.2, p.3, p.4)
    | inr (same, same') ↦ (n, omega arith, r, at, rw (same, same') is)
  ];
  all = λ a b p. elim (cases_lt p.0 n) [
    | inl l ↦ edges_old g own row row' base a b h e more (m.all a b (p.0, l, p.2, p.3, p.4))
    | inr up ↦
        let same : p.0 ≡ n = omega (arith, p.1, up) in
        let this : p.2 ≡ r = same_Some p.2 r (sym p.3 ∙ ap (slice_get rows) same ∙ at) in
        let pair : ◌≡◌ {A = ℕ × ℕ} (own, base) (a, b) = same_Some {A = ℕ × ℕ} (own, base) (a, b) (sym is ∙ ap (pair_of files rows) (sym this) ∙ p.4) in
        subst (λ (q : ℕ × ℕ). HasEdge (set g own row') q.0 q.1) pair (edge_new g own row row' base h more)
  ];
})

-- where the pair's identity and base stand
pub pair_within : (files : Briefs) (rows : List Row) (r : Row) (a b : ℕ) → pair_of files rows r ≡ Some (a, b) → (a < count_of rows) × (b < count_of rows)
pair_within files rows r a b h =
    let p = pair_by (is_base r) (node_of rows r.scope) (identity_meant files rows r) (node_of rows) a b h in
    ((node_some rows r.scope a p.1).1, (node_some rows p.2 b p.4).1)

pair_base : (files : Briefs) (rows : List Row) (k : ℕ) (r : Row) (a b : ℕ) → slice_get rows k ≡ Some r → pair_of files rows r ≡ Some (a, b) → HasBase files rows (number_at rows a) (number_at rows b)
pair_base files rows k r a b at h =
    let p = pair_by (is_base r) (node_of rows r.scope) (identity_meant files rows r) (node_of rows) a b h in
    let own = node_some rows r.scope a p.1 in
    let base = node_some rows p.2 b p.4 in
    let this = identity_row rows r.scope own.0 in
    record {
      own = this.0;
      own_at = ap (slice_get rows) own.2 ∙ this.1;
      is_one = this.2;
      number = k;
      statement = r;
      stands = at;
      names = p.0;
      inside = sym own.2;
      means = p.3 ∙ ap Some (sym base.2);
    }

base_pair : (files : Briefs) (rows : List Row) (a b : ℕ) → a < count_of rows → b < count_of rows → HasBase files rows (number_at rows a) (number_at rows b) → HasPair files rows (length rows) a b
base_pair files rows a b l m h = (
  h.number,
  slice_get_within rows h.number h.statement h.stands,
  h.statement,
  h.stands,
  pair_made (is_base h.statement) (node_of rows h.statement.scope) (identity_meant files rows h.statement) (node_of rows) a b (number_at rows b) h.names (ap (node_of rows) h.inside ∙ node_back rows a l) h.means (node_back rows b m),
)

pub pairing_all : (files : Briefs) (rows : List Row) (n : ℕ) (g : Graph) → n ≡ length rows → Pairing files rows n g → AreBases files rows g
pairing_all files rows n g all m = record {
  each = m.each;
  within = λ k d h i x l.
      let row : Vec ℕ Global = get_or g k d in
      let edge : HasEdge g k (get_or row.items i x) = (row, slice_get-get_or g k d h, (i, l, get_or_default row.items i (get_or row.items i x) x l)) in
      let p = m.edge k (get_or row.items i x) edge in
      let w : get_or row.items i x < count_of rows = (pair_within files rows p.2 k (get_or row.items i x) p.4).1 in
      omega (arith, w, m.each);
  edge = λ a b e. let p = m.edge a b e in pair_base files rows p.0 p.2 a b p.3 p.4;
  all = λ a b l k h. let p = base_pair files rows a b l k h in m.all a b (p.0, omega (arith, p.1, all), p.2, p.3, p.4);
}
