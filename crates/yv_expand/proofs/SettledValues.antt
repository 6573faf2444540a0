-- What statements take, from what those take to which they step.
use Rattle.std.proofs.Common.{◌≡◌, ◌==◌, ◌&&◌, not, ℕ, ◌+◌, ◌<◌, ◌≤◌, inl, inr, zero, suc, Bool, true, false, is_some, if◌then◌else◌, List, [], ◌∷◌, ◌++◌, length, set, get_or, take, refl, sym, ◌∙◌, ap, subst, arith, Option, Some, None, get_or-set_same, get_or-set_other}
use Rattle.std.specs.Option.{unwrap_or}
use Rattle.std.proofs.lemmas.Bool.{cases_eq, eq-eqb, ne_eqb}
use Rattle.std.proofs.lemmas.List.{append-nil, take_more, take_all}
use Rattle.std.proofs.lemmas.List.Elements.{Contains-append_left, Contains-push, Contains-push_cases}
use Rattle.std.proofs.lemmas.Option.{slice_get_within, same_Some}
use Rattle.std.specs.List.{slice_get, Contains}
use Rattle.std.specs.declared.vec.Vec.{Vec}
use Rattle.std.specs.declared.alloc.Global.{Global}
use Rattle.yv_link_scopes.specs.Names.{local_of}
use Rattle.yv_link_scopes.specs.Files.{Briefs, module_file_at}
use Rattle.yv_link_scopes.specs.Rows.{Row, name_in}
use Rattle.yv_link_scopes.specs.Tables.{is_same, place_of_kind}
use Rattle.yv_link_scopes.specs.Scopes.{MeansFrom, start_of}
use Rattle.yv_link_scopes.specs.declared.kind.NameKind.{NameKind}
use Rattle.yv_link_scopes.specs.declared.kind.NameKind.TheVariants.{Grouping}
use Rattle.yv_base_graph.specs.Graph.{IsOrder, HasEdge, by_edge}
use Rattle.yv_link_definitions.specs.Duplicates.{is_of}
use Rattle.yv_link_definitions.specs.Refers.{RefersTo, names_definition}
use Rattle.yv_expand_statements.specs.Units.{units_of, saturate}
use Rattle.yv_expand_statements.specs.Weigh.{Weigh, nothing, other, node, uses}
use Rattle.yv_expand_statements.specs.StatementBlocks.{block_of, numbers_from, stands_in}
use Rattle.yv_expand.specs.InnerLists.{Lists, counts, is_place, part_place, top_place, placed_from, sum_at}
use Rattle.yv_expand.specs.InnerSteps.{AreSteps, AreSettled, IsSettled, IsUsed, Takes, WorthBy, list_of}
use Rattle.yv_expand.proofs.UnitListing.{numbers_have}
use Rattle.yv_expand.proofs.UnitWords.{both_true, counts_kind, none_of_grouping}

pub sum_append : (values xs : List ℕ) (d : ℕ) → sum_at values (xs ++ d ∷ []) ≡ sum_at values xs + get_or values d 0
sum_append values [] d = omega arith
sum_append values (x ∷ xs) d = omega (arith, sum_append values xs d)

-- the place in whose list a statement stands is the block in which it stands, if it counts
and_trues : (a : Bool) → a ≡ ((a && true) && true)
and_trues true = refl
and_trues false = refl

and_false : (a : Bool) → false ≡ (a && false)
and_false true = refl
and_false false = refl

place_split : (c n : Bool) (x b : ℕ) → is_place b (if c && n then Some x else None) ≡ (((x == b) && n) && c)
place_split true true x b = and_trues (x == b)
place_split true false x b = and_false (x == b) ∙ and_left (x == b)
  where
    and_left : (a : Bool) → (a && false) ≡ ((a && false) && true)
    and_left true = refl
    and_left false = refl
place_split false n x b = and_false ((x == b) && n)

pub part_split : (b j : ℕ) (r : Row) → is_place b (part_place j r) ≡ (stands_in b j r && counts r)
part_split b j r = place_split (counts r) (not (r.scope == j)) r.scope b

file_same : (c s n e : Bool) (x f : ℕ) → (x == f) ≡ true → e ≡ true → is_place f (if c && (s && n) then Some x else None) ≡ (((s && n) && e) && c)
file_same true true true e x f h g = h ∙ rw g refl
file_same true true false e x f h g = refl
file_same true false n e x f h g = refl
file_same false s n e x f h g = and_false ((s && n) && e)

file_other : (c s t n e : Bool) (x f : ℕ) → (x == f) ≡ false → e ≡ false → is_place f (if c && (s && n) then Some x else None) ≡ (((t && n) && e) && c)
file_other true true t true e x f h g = h ∙ rw g (by t)
  where
    by : (t : Bool) → false ≡ (((t && true) && false) && true)
    by true = refl
    by false = refl
file_other true true t false e x f h g = by t e
  where
    by : (t e : Bool) → false ≡ (((t && false) && e) && true)
    by true e = refl
    by false e = refl
file_other true false t n e x f h g = rw g (by t n)
  where
    by : (t n : Bool) → false ≡ (((t && n) && false) && true)
    by true true = refl
    by true false = refl
    by false n = refl
file_other false s t n e x f h g = and_false ((t && n) && e)

pub top_split : (files : Briefs) (f j : ℕ) (r : Row) → is_place f (top_place files j r) ≡ ((stands_in (module_file_at files f) j r && (r.file == f)) && counts r)
top_split files f j r = elim (cases_eq r.file f) [
  | inl same ↦
      let module_file : module_file_at files r.file ≡ module_file_at files f = ap (module_file_at files) same in
      rw module_file (file_same (counts r) (r.scope == module_file_at files f) (not (r.scope == j)) (r.file == f) r.file f (eq-eqb r.file f same) (eq-eqb r.file f same))
  | inr ne ↦ file_other (counts r) (r.scope == module_file_at files r.file) (r.scope == module_file_at files f) (not (r.scope == j)) (r.file == f) r.file f (ne_eqb r.file f ne) (ne_eqb r.file f ne)
]

-- a grouping that is used
pub used_grouping : (files : Briefs) (rows : List Row) (k d : ℕ) → IsUsed files rows k d → (s : Row) × (slice_get rows d ≡ Some s) × (is_of Grouping s ≡ true)
used_grouping files rows k d (r, own, at, units, refers) =
    let q = refers.1 in
    let same : q.statement ≡ r = same_Some q.statement r (sym q.at ∙ at) in
    let kind : refers.0 ≡ Grouping = counts_kind refers.0 r own units (ap (names_definition refers.0) (sym same) ∙ q.names) in
    by (local_of (name_in q.statement)) (start_of files rows k (name_in q.statement)) (subst (λ (kd : NameKind). MeansFrom kd rows (local_of (name_in q.statement)) (start_of files rows k (name_in q.statement)) (Some d)) kind q.means)
  where
    by : (name : List ℕ) (o : Option ℕ) → MeansFrom Grouping rows name o (Some d) → (s : Row) × (slice_get rows d ≡ Some s) × (is_of Grouping s ≡ true)
    by name None e = absurd (let bad : Some d ≡ None = e in cc)
    by name (Some block) m =
        let named = m.0.2 in
        (named.0, named.1, (both_true (is_of Grouping named.0) (is_same m.0.0 name (place_of_kind Grouping named.0) (name_in named.0)) named.2).0)

module _ (files : Briefs) (rows : List Row) (values : List ℕ) where
  -- one more statement that counts
  pub counted : (k own m s : ℕ) (r : Row) (ks : List ℕ) → slice_get rows k ≡ Some r → units_of r.head.keyword ≡ Some own → IsSettled files rows values k → Weigh files rows ks m → saturate s ≡ saturate m → (t : ℕ) × Weigh files rows (k ∷ ks) t × (saturate (get_or values k 0 + s) ≡ saturate t)
  counted k own m s r ks at units settled w e =
      let same : settled.0 ≡ r = same_Some settled.0 r (sym settled.2 ∙ at) in
      let worth : WorthBy files rows k (Some own) settled.1 = subst (λ (o : Option ℕ). WorthBy files rows k o settled.1) (ap (λ (x : Row). units_of x.head.keyword) same ∙ units) settled.3 in
      let g : ℕ = worth.0 in
      let b : ℕ = worth.1 in
      elim worth.2 [
        | inl (d, refers, grouping) ↦ (own + g + b + m, uses at units refers grouping worth.3 w, omega (arith, settled.4, worth.4, e))
        | inr (none, z) ↦ (own + b + m, node at units none worth.3 w, omega (arith, settled.4, worth.4, z, e))
      ]

  -- statements take what those take that count
  pub list_sum : (p q : ℕ → Row → Bool) → ((j : ℕ) (r : Row) → q j r ≡ (p j r && counts r)) → (n : ℕ) (rs : List Row) → ((j : ℕ) (r : Row) → slice_get rs j ≡ Some r → slice_get rows (n + j) ≡ Some r) → ((j : ℕ) (r : Row) → slice_get rows j ≡ Some r → q j r ≡ true → IsSettled files rows values j) → (m : ℕ) × Weigh files rows (numbers_from p n rs) m × (saturate (sum_at values (numbers_from q n rs)) ≡ saturate m)
  list_sum p q both n [] here settled = (0, nothing, refl)
  list_sum p q both n (r ∷ rs) here settled =
      by (p n r) (units_of r.head.keyword) refl refl
      (list_sum p q both (n + 1) rs (λ j x at. ap (slice_get rows) (let e : n + 1 + j ≡ n + suc j = omega arith in e) ∙ here (suc j) x at) settled)
    where
      at : slice_get rows n ≡ Some r
      at = ap (slice_get rows) (let e : n ≡ n + 0 = omega arith in e) ∙ here zero r refl

      by : (b : Bool) (o : Option ℕ) → p n r ≡ b → units_of r.head.keyword ≡ o → (m : ℕ) × Weigh files rows (numbers_from p (n + 1) rs) m × (saturate (sum_at values (numbers_from q (n + 1) rs)) ≡ saturate m) → (m : ℕ) × Weigh files rows (numbers_from p n (r ∷ rs)) m × (saturate (sum_at values (numbers_from q n (r ∷ rs))) ≡ saturate m)
      by false o e f rest =
          let q_is : q n r ≡ false = both n r ∙ ap (λ x. x && counts r) e in
          rw (e, q_is) rest
      by true None e f rest =
          let q_is : q n r ≡ false = both n r ∙ ap (λ x. x && counts r) e ∙ ap is_some f in
          rw (e, q_is) (rest.0, other at f rest.1, rest.2)
      by true (Some own) e f rest =
          let q_is : q n r ≡ true = both n r ∙ ap (λ x. x && counts r) e ∙ ap is_some f in
          rw (e, q_is) (counted n own rest.0 (sum_at values (numbers_from q (n + 1) rs)) r (numbers_from p (n + 1) rs) at f (settled n r at q_is) rest.1 rest.2)

  -- what a statement takes, once all to which it steps have their values
  pub worth_new : (k value : ℕ) (r : Row) (items : List ℕ) → slice_get rows k ≡ Some r → Takes files rows k items → ((b : ℕ) → Contains items b → IsSettled files rows values b) → value ≡ saturate (saturate (sum_at values items) + unwrap_or (units_of r.head.keyword) 0) → (n : ℕ) × WorthBy files rows k (units_of r.head.keyword) n × (value ≡ saturate n)
  worth_new k value r items at (used, are, is) settled e =
      let inner = list_sum (stands_in k) (λ j x. is_place k (part_place j x)) (part_split k) 0 rows (λ j x h. ap (slice_get rows) (let z : 0 + j ≡ j = omega arith in z) ∙ h) (λ j x h passes.
      let there : Contains (placed_from part_place k 0 rows) (0 + j) = numbers_have (λ i y. is_place k (part_place i y)) 0 j rows x h (ap (λ i. is_place k (part_place i x)) (let z : 0 + j ≡ j = omega arith in z) ∙ passes) in
      let part : Contains (placed_from part_place k 0 rows) j = subst (λ (i : ℕ). Contains (placed_from part_place k 0 rows) i) (let z : 0 + j ≡ j = omega arith in z) there in
      settled j (subst (λ (l : List ℕ). Contains l j) (sym are) (Contains-append_left (placed_from part_place k 0 rows) (list_of used) j part))) in
      by (units_of r.head.keyword) used refl refl inner.0 inner.1 inner.2
    where
      alone : used ≡ None → sum_at values items ≡ sum_at values (placed_from part_place k 0 rows)
      alone h = ap (sum_at values) (are ∙ ap (λ u. placed_from part_place k 0 rows ++ list_of u) h ∙ append-nil (placed_from part_place k 0 rows))

      pushed : (d : ℕ) → used ≡ Some d → items ≡ placed_from part_place k 0 rows ++ d ∷ []
      pushed d h = are ∙ ap (λ u. placed_from part_place k 0 rows ++ list_of u) h

      by : (o u : Option ℕ) → units_of r.head.keyword ≡ o → used ≡ u → (m : ℕ) → Weigh files rows (block_of rows k) m → saturate (sum_at values (placed_from part_place k 0 rows)) ≡ saturate m → (n : ℕ) × WorthBy files rows k o n × (value ≡ saturate n)
      by None None f h m w s =
          let none : unwrap_or (units_of r.head.keyword) 0 ≡ 0 = ap (λ o. unwrap_or o 0) f in
          (m, w, omega (arith, alone h))
      by None (Some d) f h m w s =
          let u : IsUsed files rows k d = (is d).0 h in
          let same : u.0 ≡ r = same_Some u.0 r (sym u.2 ∙ at) in
          absurd (let bad : None ≡ Some u.1 = sym f ∙ ap (λ (x : Row). units_of x.head.keyword) (sym same) ∙ u.3 in cc)
      by (Some own) None f h m w s =
          let one : unwrap_or (units_of r.head.keyword) 0 ≡ own = ap (λ o. unwrap_or o 0) f in
          let none : (d : ℕ) → RefersTo files rows k d → ⊥ = λ d refers. absurd (let bad : None ≡ Some d = sym h ∙ (is d).1 (r, own, at, f, refers) in cc) in
          (own + 0 + m, (0, m, inr (none, refl), w, refl), omega (arith, alone h))
      by (Some own) (Some d) f h m w s =
          let one : unwrap_or (units_of r.head.keyword) 0 ≡ own = ap (λ o. unwrap_or o 0) f in
          let u : IsUsed files rows k d = (is d).0 h in
          let grouping = used_grouping files rows k d u in
          let there : Contains items d = subst (λ (l : List ℕ). Contains l d) (sym (pushed d h)) (Contains-push (placed_from part_place k 0 rows) d) in
          let known : IsSettled files rows values d = settled d there in
          let same : known.0 ≡ grouping.0 = same_Some known.0 grouping.0 (sym known.2 ∙ grouping.1) in
          let none : units_of known.0.head.keyword ≡ None = ap (λ (x : Row). units_of x.head.keyword) same ∙ none_of_grouping grouping.0 grouping.2 in
          let inside : Weigh files rows (block_of rows d) known.1 = subst (λ (o : Option ℕ). WorthBy files rows d o known.1) none known.3 in
          (own + known.1 + m, (known.1, m, inl (d, u.4, inside), w, refl), omega (arith, ap (sum_at values) (pushed d h), sum_append values (placed_from part_place k 0 rows) d, known.4))

-- those that came first in the order have their values
abbrev pub AreFirst : Briefs → List Row → List ℕ → List ℕ → ℕ → Type 0
AreFirst files rows order values i = (b : ℕ) → Contains (take i order) b → IsSettled files rows values b

module _ (files : Briefs) (rows : List Row) (g : Lists) (order : List ℕ) where
  first_before : (i number b : ℕ) (v : Vec ℕ Global) → IsOrder g order → i < length order → number ≡ get_or order i 0 → slice_get g number ≡ Some v → Contains v.items b → Contains (take i order) b
  first_before i number b v o h is at c =
      o.behind i b h (by_edge (subst (λ (n : ℕ). HasEdge g n b) is (v, at, c)))

  -- the next one
  pub first_more : (i number value : ℕ) (values values' : List ℕ) (r : Row) (v : Vec ℕ Global) → AreSteps files rows g → IsOrder g order → AreFirst files rows order values i → i < length order → number ≡ get_or order i 0 → slice_get rows number ≡ Some r → slice_get g number ≡ Some v → value ≡ saturate (saturate (sum_at values v.items) + unwrap_or (units_of r.head.keyword) 0) → values' ≡ set values number value → length values ≡ length rows → AreFirst files rows order values' (i + 1)
  first_more i number value values values' r v steps o old h is at row e now each b c =
      let new = worth_new files rows values number value r v.items at (steps.takes number v row) (λ x inside. old x (first_before i number x v o h is row inside)) e in
      let within : number < length values = omega (arith, slice_get_within rows number r at, each) in
      elim (cases_eq b number) [
        | inl same ↦
            let here : get_or values' b 0 ≡ value = ap (λ (l : List ℕ). get_or l b 0) now ∙ ap (λ n. get_or (set values number value) n 0) same ∙ get_or-set_same values number value 0 within in
            subst (λ (n : ℕ). IsSettled files rows values' n) (sym same) (r, new.0, at, new.1, ap (λ n. get_or values' n 0) (sym same) ∙ here ∙ new.2)
        | inr ne ↦
            let more : take (i + 1) order ≡ take i order ++ number ∷ [] = take_more order i 0 h ∙ ap (λ n. take i order ++ n ∷ []) (sym is) in
            elim (Contains-push_cases (take i order) number b (subst (λ (l : List ℕ). Contains l b) more c)) [
              | inl before ↦
                  let was : IsSettled files rows values b = old b before in
                  let same : get_or values' b 0 ≡ get_or values b 0 = ap (λ (l : List ℕ). get_or l b 0) now ∙ get_or-set_other values number b value 0 ne in
                  (was.0, was.1, was.2, was.3, same ∙ was.4)
              | inr same ↦ absurd (ne (sym same))
            ]
      ]

  pub first_all : (i : ℕ) (values : List ℕ) → AreSteps files rows g → IsOrder g order → AreFirst files rows order values i → length order ≤ i → AreSettled files rows values
  first_all i values steps o all past k r at =
      let there : Contains order k = o.stands k (omega (arith, slice_get_within rows k r at, steps.each)) in
      all k (subst (λ (l : List ℕ). Contains l k) (sym (take_all i order past)) there)
