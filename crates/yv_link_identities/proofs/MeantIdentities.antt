-- References, and the identities that they mean.
use Rattle.std.proofs.Common.{◌≡◌, ℕ, ◌+◌, ◌<◌, ◌≤◌, ◌⊎◌, inl, inr, ◌↔◌, zero, suc, Bool, true, false, IsTrue, ◌&&◌, cond, List, [], ◌∷◌, ◌++◌, length, map, get_or, refl, sym, ◌∙◌, ap, subst, arith, Option, Some, None}
use Rattle.std.proofs.lemmas.Bool.{cases_Bool, cases_eq, cases_lt, false≢true}
use Rattle.std.proofs.lemmas.List.{length-map, map-append, get_or_default, get_or_append_left}
use Rattle.std.proofs.lemmas.Option.{same_Some, slice_get_within, slice_get-map, slice_get-get_or}
use Rattle.std.specs.List.{slice_get, position_from}
use Rattle.std.specs.List.Sorted.{IsStrictlySortedBy}
use Rattle.std.specs.Ordering.{nat_cmp}
use Rattle.std.specs.BTreeSet.{BTreeSet}
use Rattle.std.specs.Option.{option_map, option_and_then}
use Rattle.yv_link_scopes.specs.Names.{first_where}
use Rattle.yv_link_scopes.specs.Files.{Briefs}
use Rattle.yv_link_scopes.specs.Rows.{Row}
use Rattle.yv_base_graph.specs.Graph.{Graph, IsGraph, LeadsTo}
use Rattle.yv_link_identities.specs.Names.{is_identity, meaning_of}
use Rattle.yv_link_identities.specs.Derivation.{IsDerivedFrom}
use Rattle.yv_link_identities.specs.References.{ref_of, refs_of, is_at, number_of, reference_of, IsDerived, AreDescendants}
use Rattle.yv_link_identities.specs.InnerIdentityNumbers.{is_identity_at, identities_of, number_at, count_of}
use Rattle.yv_link_identities.specs.InnerPairs.{AreBases}
use Rattle.yv_link_identities.specs.InnerWays.{AreBelow}
use Rattle.yv_link_identities.specs.declared.references.IdentityRef.{IdentityRef}
use Rattle.yv_link_identities.proofs.PassingNumbers.{chosen_ascending, last_of, longer}
use Rattle.yv_link_identities.proofs.Numbering.{identity_at, identity_row, number_of_row, number_identity}
use Rattle.yv_link_identities.proofs.DerivationWays.{found_where, leads_derived, derived_leads, derived_numbers}
use Rattle.yv_link_identities.proofs.Sets.{has_key, key_of, sorted_ascends}
use Rattle.yv_link_identities.proofs.Ways.{edge_within, first_edge}

-- nothing that passes stands before the first, nor anywhere where there is none
before_first : {X : Type 0} (p : X → Bool) (k d : ℕ) (xs : List X) → position_from p k xs ≡ Some d → (j : ℕ) (y : X) → k + j < d → slice_get xs j ≡ Some y → p y ≡ true → ⊥
before_first p k d [] h j y l at t = cc
before_first p k d (x ∷ xs) h zero y l at t =
    let here : p x ≡ true = ap p (same_Some x y at) ∙ t in
    let e : Some k ≡ Some d = ap (λ b. cond b (Some k) (position_from p (k + 1) xs)) (sym here) ∙ h in
    let same : k ≡ d = same_Some k d e in
    omega (arith, same, l)
before_first p k d (x ∷ xs) h (suc j) y l at t = elim (cases_Bool (p x)) [
  | inl b ↦
      let e : Some k ≡ Some d = ap (λ c. cond c (Some k) (position_from p (k + 1) xs)) (sym b) ∙ h in
      let same : k ≡ d = same_Some k d e in
      omega (arith, same, l)
  | inr b ↦ before_first p (k + 1) d xs (ap (λ c. cond c (Some k) (position_from p (k + 1) xs)) (sym b) ∙ h) j y (omega (arith, l)) at t
]

none_found : {X : Type 0} (p : X → Bool) (k : ℕ) (xs : List X) → position_from p k xs ≡ None → (j : ℕ) (y : X) → slice_get xs j ≡ Some y → p y ≡ true → ⊥
none_found p k [] h j y at t = cc
none_found p k (x ∷ xs) h j y at t = elim (cases_Bool (p x)) [
  | inl b ↦ let e : Some k ≡ None = ap (λ c. cond c (Some k) (position_from p (k + 1) xs)) (sym b) ∙ h in cc
  | inr b ↦ none_later p k x xs (none_found p (k + 1) xs (ap (λ c. cond c (Some k) (position_from p (k + 1) xs)) (sym b) ∙ h)) b j y at t
]
  where
    none_later : {X : Type 0} (p : X → Bool) (k : ℕ) (x : X) (xs : List X) → ((j : ℕ) (y : X) → slice_get xs j ≡ Some y → p y ≡ true → ⊥) → p x ≡ false → (j : ℕ) (y : X) → slice_get (x ∷ xs) j ≡ Some y → p y ≡ true → ⊥
    none_later p k x xs later b zero y at t = false≢true (sym b ∙ ap p (same_Some x y at) ∙ t)
    none_later p k x xs later b (suc j) y at t = later j y at t

first_by : {X : Type 0} (p : X → Bool) (d : ℕ) (x : X) (xs : List X) (o : Option ℕ) → first_where p xs ≡ o → slice_get xs d ≡ Some x → p x ≡ true → ((j : ℕ) (y : X) → j < d → slice_get xs j ≡ Some y → p y ≡ true → ⊥) → o ≡ Some d
first_by p d x xs None h at t earlier = absurd (none_found p 0 xs h d x at t)
first_by p d x xs (Some e) h at t earlier =
    let f = found_where p e xs h in
    elim (cases_lt e d) [
      | inl l ↦ absurd (earlier e f.0 l f.1 f.2)
      | inr m ↦ elim (cases_eq e d) [
        | inl same ↦ ap Some same
        | inr ne ↦ absurd (before_first p 0 e xs h d x (omega (arith, m, ne)) at t)
      ]
    ]

none_by : {X : Type 0} (p : X → Bool) (xs : List X) (o : Option ℕ) → first_where p xs ≡ o → ((j : ℕ) (y : X) → slice_get xs j ≡ Some y → p y ≡ true → ⊥) → o ≡ None
none_by p xs None h none = refl
none_by p xs (Some e) h none = let f = found_where p e xs h in absurd (none e f.0 f.1 f.2)

-- what the list of references has
abbrev pub AreRefs : List Row → List IdentityRef → Type 0
AreRefs rows refs = map Some refs ≡ refs_of rows (identities_of rows)

pub refs_count : (rows : List Row) (refs : List IdentityRef) → AreRefs rows refs → length refs ≡ count_of rows
refs_count rows refs e = sym (length-map refs Some) ∙ ap length e ∙ length-map (identities_of rows) (λ k. option_map ref_of (slice_get rows k))

number_get : (rows : List Row) (a : ℕ) → a < count_of rows → slice_get (identities_of rows) a ≡ Some (number_at rows a)
number_get rows a h = slice_get-get_or (identities_of rows) a 0 h

pub ref_at : (rows : List Row) (refs : List IdentityRef) (a : ℕ) → AreRefs rows refs → a < count_of rows → slice_get refs a ≡ option_map ref_of (slice_get rows (number_at rows a))
ref_at rows refs a e h =
    let within : a < length refs = omega (arith, h, refs_count rows refs e) in
    let some = number_identity rows a h in
    let r = identity_row rows (number_at rows a) some in
    let x : IdentityRef = get_or refs a (ref_of r.0) in
    let at : slice_get refs a ≡ Some x = slice_get-get_or refs a (ref_of r.0) within in
    let left : slice_get (map Some refs) a ≡ Some (Some x) = slice_get-map Some refs a ∙ ap (option_map Some) at in
    let right : slice_get (refs_of rows (identities_of rows)) a ≡ Some (option_map ref_of (slice_get rows (number_at rows a))) = slice_get-map (λ k. option_map ref_of (slice_get rows k)) (identities_of rows) a ∙ ap (option_map (λ k. option_map ref_of (slice_get rows k))) (number_get rows a h) in
    at ∙ same_Some (Some x) (option_map ref_of (slice_get rows (number_at rows a))) (sym left ∙ ap (λ xs. slice_get xs a) e ∙ right)

both : (a b : Bool) → (a && b) ≡ true → (a ≡ true) × (b ≡ true)
both true b h = (refl, h)
both false b h = cc

both_true : (a b : Bool) → a ≡ true → b ≡ true → (a && b) ≡ true
both_true true b e f = f
both_true false b e f = cc

meant_ref : (rows : List Row) (refs : List IdentityRef) (ref : IdentityRef) (k : ℕ) (r : Row) → AreRefs rows refs → slice_get rows k ≡ Some r → (is_identity r && is_at ref (ref_of r)) ≡ true → (a : ℕ) × (a < count_of rows) × (number_at rows a ≡ k) × (slice_get refs a ≡ Some (ref_of r)) × (is_at ref (ref_of r) ≡ true)
meant_ref rows refs ref k r e at t =
    let p = both (is_identity r) (is_at ref (ref_of r)) t in
    let n = number_of_row rows k (identity_at rows k r at ∙ p.0) in
    (n.0, n.1, n.2, ref_at rows refs n.0 e n.1 ∙ ap (λ i. option_map ref_of (slice_get rows i)) n.2 ∙ ap (option_map ref_of) at, p.1)

meant_by_ref : (rows : List Row) (refs : List IdentityRef) (ref : IdentityRef) (o : Option ℕ) → AreRefs rows refs → first_where (is_at ref) refs ≡ o → number_of rows ref ≡ option_map (number_at rows) o
meant_by_ref rows refs ref None e h = none_by (λ r. is_identity r && is_at ref (ref_of r)) rows (number_of rows ref) refl (λ j y at t.
    let m = meant_ref rows refs ref j y e at t in
    none_found (is_at ref) 0 refs h m.0 (ref_of y) m.3 m.4)
meant_by_ref rows refs ref (Some a) e h =
    let f = found_where (is_at ref) a refs h in
    let within : a < count_of rows = omega (arith, slice_get_within refs a f.0 f.1, refs_count rows refs e) in
    let r = identity_row rows (number_at rows a) (number_identity rows a within) in
    let is : f.0 ≡ ref_of r.0 = same_Some f.0 (ref_of r.0) (sym f.1 ∙ ref_at rows refs a e within ∙ ap (option_map ref_of) r.1) in
    first_by (λ r. is_identity r && is_at ref (ref_of r)) (number_at rows a) r.0 rows (number_of rows ref) refl r.1 (both_true (is_identity r.0) (is_at ref (ref_of r.0)) r.2 (ap (is_at ref) (sym is) ∙ f.2)) (λ j y l at t.
    let m = meant_ref rows refs ref j y e at t in
    let lower : m.0 < a = elim (cases_lt m.0 a) [
      | inl less ↦ less
      | inr up ↦ elim (cases_eq a m.0) [
        | inl same ↦ absurd (omega (arith, ap (number_at rows) same, m.2, l))
        | inr ne ↦ let rises : number_at rows a < number_at rows m.0 = chosen_ascending (is_identity_at rows) (length rows) a m.0 (omega (arith, up, ne)) m.1 in absurd (omega (arith, rises, m.2, l))
      ]
    ] in
    before_first (is_at ref) 0 a refs h m.0 (ref_of y) (omega (arith, lower)) m.3 m.4)

pub node_meant : (rows : List Row) (refs : List IdentityRef) (ref : IdentityRef) (o : Option ℕ) → AreRefs rows refs → o ≡ first_where (is_at ref) refs → option_map (number_at rows) o ≡ number_of rows ref
node_meant rows refs ref o e h = sym (meant_by_ref rows refs ref o e (sym h))

pub node_count : (rows : List Row) (refs : List IdentityRef) (ref : IdentityRef) (a : ℕ) → AreRefs rows refs → Some a ≡ first_where (is_at ref) refs → a < count_of rows
node_count rows refs ref a e h = let f = found_where (is_at ref) a refs (sym h) in omega (arith, slice_get_within refs a f.0 f.1, refs_count rows refs e)

-- a reference by a name
pub reference_none : (files : Briefs) (rows : List Row) (file : ℕ) (name : List ℕ) (o : Option IdentityRef) → None ≡ meaning_of files rows file name → o ≡ None → o ≡ reference_of files rows file name
reference_none files rows file name o m e = e ∙ ap (option_and_then (λ k. option_map ref_of (slice_get rows k))) m

pub reference_some : (files : Briefs) (rows : List Row) (file : ℕ) (name : List ℕ) (k : ℕ) (o : Option IdentityRef) → Some k ≡ meaning_of files rows file name → o ≡ option_map ref_of (slice_get rows k) → o ≡ reference_of files rows file name
reference_some files rows file name k o m e = e ∙ ap (option_and_then (λ k. option_map ref_of (slice_get rows k))) m

-- whether an identity is derived from another, by their places
pub derived_both : (files : Briefs) (rows : List Row) (g : Graph) (identity base : IdentityRef) (from to : ℕ) (result : Bool) → AreBases files rows g → Some (number_at rows from) ≡ number_of rows identity → Some (number_at rows to) ≡ number_of rows base → from < count_of rows → to < count_of rows → IsTrue result ↔ LeadsTo g from to → IsTrue result ↔ IsDerived files rows identity base
derived_both files rows g identity base from to result s m n h i l = (
  λ t. record {
    number = number_at rows from;
    base_number = number_at rows to;
    meant = sym m;
    base_meant = sym n;
    derived = leads_derived files rows g s (l.0 t);
  },
  λ d.
      let a : number_at rows from ≡ d.number = same_Some (number_at rows from) d.number (m ∙ d.meant) in
      let b : number_at rows to ≡ d.base_number = same_Some (number_at rows to) d.base_number (n ∙ d.base_meant) in
      l.1 (derived_leads files rows g s d.derived from to h i a b),
)

pub derived_not : (files : Briefs) (rows : List Row) (identity base : IdentityRef) → None ≡ number_of rows identity ⊎ None ≡ number_of rows base → IsTrue false ↔ IsDerived files rows identity base
derived_not files rows identity base (inl none) = (
  λ f. absurd (false≢true f),
  λ d. let bad : None ≡ Some d.number = none ∙ d.meant in absurd (let h : None ≡ Some d.number = bad in cc),
)
derived_not files rows identity base (inr none) = (
  λ f. absurd (false≢true f),
  λ d. let bad : None ≡ Some d.base_number = none ∙ d.base_meant in absurd (let h : None ≡ Some d.base_number = bad in cc),
)

-- the references to identities, where there is one to each
pub record Picking (refs : List IdentityRef) (nodes : List ℕ) (found : List IdentityRef) : Type 0 where
  pub picked : ((j : ℕ) → j < length nodes → get_or nodes j 0 < length refs) → map Some found ≡ map (λ a. slice_get refs a) nodes

pub picking_none : (refs : List IdentityRef) (nodes : List ℕ) (found : List IdentityRef) → nodes ≡ [] → found ≡ [] → Picking refs nodes found
picking_none refs nodes found e f = rw (e, f) (record { picked = λ within. refl })

last_number : (nodes : List ℕ) (node : ℕ) (n : ℕ) → ((j : ℕ) → j < length (nodes ++ node ∷ []) → get_or (nodes ++ node ∷ []) j 0 < n) → node < n
last_number nodes node n within = omega (arith, within (length nodes) (omega (arith, longer nodes node)), last_of nodes node 0)

pub picking_past : (refs : List IdentityRef) (nodes nodes' : List ℕ) (node : ℕ) (found : List IdentityRef) → nodes' ≡ nodes ++ node ∷ [] → length refs ≤ node → Picking refs nodes' found
picking_past refs nodes nodes' node found e past = rw e (record { picked = λ within. absurd (omega (arith, last_number nodes node (length refs) within, past)) })

pub picking_more : (refs : List IdentityRef) (nodes nodes' : List ℕ) (node : ℕ) (found found' : List IdentityRef) (x : IdentityRef) → Picking refs nodes found → nodes' ≡ nodes ++ node ∷ [] → slice_get refs node ≡ Some x → found' ≡ found ++ x ∷ [] → Picking refs nodes' found'
picking_more refs nodes nodes' node found found' x m e at more = rw e (record {
  picked = λ within.
      let before : (j : ℕ) → j < length nodes → get_or nodes j 0 < length refs = λ j l. omega (arith, within j (omega (arith, l, longer nodes node)), get_or_append_left nodes (node ∷ []) 0 j l) in
      ap (map Some) more
      ∙ map-append Some found (x ∷ [])
      ∙ ap (λ xs. xs ++ Some x ∷ []) (m.picked before)
      ∙ ap (λ o. map (λ a. slice_get refs a) nodes ++ o ∷ []) (sym at)
      ∙ sym (map-append (λ a. slice_get refs a) nodes (node ∷ []));
})

-- what is picked, by the numbers of the statements
picked_refs : (rows : List Row) (refs : List IdentityRef) (xs : List ℕ) → AreRefs rows refs → ((j : ℕ) → j < length xs → get_or xs j 0 < count_of rows) → map (λ a. slice_get refs a) xs ≡ refs_of rows (map (number_at rows) xs)
picked_refs rows refs [] e h = refl
picked_refs rows refs (x ∷ xs) e h =
    ap (λ o. o ∷ map (λ a. slice_get refs a) xs) (ref_at rows refs x e (h 0 (omega arith)))
    ∙ ap (λ os. option_map ref_of (slice_get rows (number_at rows x)) ∷ os) (picked_refs rows refs xs e (λ j l. h (suc j) (omega (arith, l))))

map_at : (f : ℕ → ℕ) (xs : List ℕ) (j : ℕ) → j < length xs → get_or (map f xs) j 0 ≡ f (get_or xs j 0)
map_at f [] j h = absurd (omega (arith, h))
map_at f (x ∷ xs) zero h = refl
map_at f (x ∷ xs) (suc j) h = map_at f xs j (omega (arith, h))

pub descendants_found : (files : Briefs) (rows : List Row) (g : Graph) (refs : List IdentityRef) (base : IdentityRef) (below : BTreeSet ℕ) (to : ℕ) (nodes : List ℕ) (found : List IdentityRef) → AreBases files rows g → AreRefs rows refs → Some (number_at rows to) ≡ number_of rows base → to < length g → AreBelow g to below → IsGraph g → IsStrictlySortedBy nat_cmp below.keys → nodes ≡ below.keys → Picking refs nodes found → AreDescendants files rows base found
descendants_found files rows g refs base below to nodes found s e meant within above is_graph sorted all m' =
    let m : Picking refs below.keys found = subst (λ xs. Picking refs xs found) all m' in
    let nodes : List ℕ = below.keys in
    let numbers : List ℕ = map (number_at rows) nodes in
    let long : length numbers ≡ length nodes = length-map nodes (number_at rows) in
    let leads : (j : ℕ) → j < length nodes → LeadsTo g (get_or nodes j 0) to = λ j l. (above (get_or nodes j 0)).0 (has_key below (get_or nodes j 0) (j, l, get_or_default nodes j (get_or nodes j 0) 0 l)) in
    let inside : (j : ℕ) → j < length nodes → get_or nodes j 0 < count_of rows = λ j l. let f = first_edge g (leads j l) in omega (arith, (edge_within g (get_or nodes j 0) f.0 is_graph f.1).0, s.each) in
    record {
      numbers = numbers;
      ascending = λ a b l h.
          let h' : b < length nodes = omega (arith, h, long) in
          let up : get_or nodes a 0 < get_or nodes b 0 = sorted_ascends nodes sorted a b l h' in
          let rises : number_at rows (get_or nodes a 0) < number_at rows (get_or nodes b 0) = chosen_ascending (is_identity_at rows) (length rows) (get_or nodes a 0) (get_or nodes b 0) up (inside b h') in
          omega (arith, rises, map_at (number_at rows) nodes a (omega (arith, l, h')), map_at (number_at rows) nodes b h');
      exact = λ k. (
        λ c.
            let l : c.0 < length nodes = omega (arith, c.1, long) in
            let is : number_at rows (get_or nodes c.0 0) ≡ k = sym (map_at (number_at rows) nodes c.0 l) ∙ get_or_default numbers c.0 0 k c.1 ∙ c.2 in
            (number_at rows to, sym meant, subst (λ (n : ℕ). IsDerivedFrom files rows n (number_at rows to)) is (leads_derived files rows g s (leads c.0 l))),
        λ d.
            let n = number_of_row rows k (derived_numbers files rows d.2).0 in
            let same : number_at rows to ≡ d.0 = same_Some (number_at rows to) d.0 (meant ∙ d.1) in
            let way : LeadsTo g n.0 to = derived_leads files rows g s d.2 n.0 to n.1 (omega (arith, within, s.each)) n.2 same in
            let c = key_of below n.0 ((above n.0).1 way) in
            let here : c.0 < length numbers = omega (arith, c.1, long) in
            (c.0, here, get_or_default numbers c.0 k 0 here ∙ map_at (number_at rows) nodes c.0 c.1 ∙ ap (number_at rows) (get_or_default nodes c.0 0 n.0 c.1 ∙ c.2) ∙ n.2),
      );
      each =
          m.picked (λ j l. omega (arith, inside j l, refs_count rows refs e))
          ∙ picked_refs rows refs nodes e inside;
    }

pub no_descendants : (files : Briefs) (rows : List Row) (base : IdentityRef) (found : List IdentityRef) → None ≡ number_of rows base → found ≡ [] → AreDescendants files rows base found
no_descendants files rows base found none e = rw e (record {
  numbers = [];
  ascending = λ a b l h. absurd (omega (arith, h));
  exact = λ k. (
    λ c. absurd (omega (arith, c.1)),
    λ d. let bad : None ≡ Some d.0 = none ∙ d.1 in absurd (let h : None ≡ Some d.0 = bad in cc),
  );
  each = refl;
})
