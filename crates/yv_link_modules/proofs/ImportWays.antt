-- Imports as a graph, and what leads where in it.
use Rattle.std.proofs.Common.{◌≡◌, ◌≢◌, ℕ, ◌+◌, ◌<◌, ◌⊎◌, inl, inr, zero, suc, Bool, true, false, cond, codes, List, [], ◌∷◌, ◌++◌, length, get_or, set, refl, sym, ◌∙◌, ap, subst, arith, Option, Some, None, length-append}
use Rattle.std.specs.List.{Contains, slice_get, slice_index_or}
use Rattle.std.specs.declared.vec.Vec.{Vec}
use Rattle.std.specs.declared.alloc.Global.{Global}
use Rattle.std.proofs.lemmas.Bool.{cases_eq, false≢true}
use Rattle.std.proofs.lemmas.List.{length-set}
use Rattle.std.proofs.lemmas.List.Elements.{Contains-append_left, Contains-push, Contains-push_cases}
use Rattle.std.proofs.lemmas.Option.{same_Some, slice_get-get_or}
use Rattle.yv_base_graph.specs.Graph.{Graph, IsGraph, HasEdge, LeadsTo as LeadsIn, by_edge, by_way as by_edges, AreReached}
use Rattle.yv_link_scopes.specs.Files.{Briefs, has_word, module_file_at, file_named}
use Rattle.yv_link_scopes.specs.Rows.{Row, name_in}
use Rattle.yv_link_modules.specs.Imports.{ImportsWithin, LeadsTo, by_import, by_way, imported_module, module_in, IsImportCycle}
use Rattle.yv_link_modules.specs.Links.{is_module_at}
use Rattle.yv_link_modules.specs.InnerImports.{AreImports, AreLeads, HasOneMore, Marks, marked_in, closes_cycle, is_import_cycle}

get_set : {X : Type 0} (xs : List X) (i : ℕ) (y : X) → i < length xs → slice_get (set xs i y) i ≡ Some y
get_set [] i y h = absurd (omega (arith, h))
get_set (x ∷ xs) zero y h = refl
get_set (x ∷ xs) (suc i) y h = get_set xs i y (omega arith)

get_set_other : {X : Type 0} (xs : List X) (i j : ℕ) (y : X) → j ≢ i → slice_get (set xs i y) j ≡ slice_get xs j
get_set_other [] i j y ne = refl
get_set_other (x ∷ xs) zero zero y ne = absurd (ne refl)
get_set_other (x ∷ xs) zero (suc j) y ne = refl
get_set_other (x ∷ xs) (suc i) zero y ne = refl
get_set_other (x ∷ xs) (suc i) (suc j) y ne = get_set_other xs i j y (λ e. ne (ap (λ n. suc n) e))

slice_get_some : {X : Type 0} (xs : List X) (i : ℕ) → i < length xs → (x : X) × (slice_get xs i ≡ Some x)
slice_get_some [] i h = absurd (omega (arith, h))
slice_get_some (x ∷ xs) zero h = (x, refl)
slice_get_some (x ∷ xs) (suc i) h = slice_get_some xs i (omega arith)

-- a row of a graph, with one more node behind
pub one_more : (g : Graph) (from to : ℕ) (old new : Vec ℕ Global) → from < length g → slice_get g from ≡ Some old → new.items ≡ old.items ++ to ∷ [] → HasOneMore g (set g from new) from to
one_more g from to old new lt at is = record {
  each = length-set g from new;
  there = (new, get_set g from new lt, subst (λ (xs : List ℕ). Contains xs to) (sym is) (Contains-push old.items to));
  kept = λ a b h. elim (cases_eq a from) [
    | inl e ↦ (let same : h.0 ≡ old = same_Some h.0 old (sym h.1 ∙ ap (slice_get g) e ∙ at) in
        let inside : Contains old.items b = subst (λ (v : Vec ℕ Global). Contains v.items b) same h.2 in
        (new, ap (slice_get (set g from new)) e ∙ get_set g from new lt, subst (λ (xs : List ℕ). Contains xs b) (sym is) (Contains-append_left old.items (to ∷ []) b inside)))
    | inr ne ↦ (h.0, get_set_other g from a new ne ∙ h.1, h.2)
  ];
  others = λ a b h. elim (cases_eq a from) [
    | inl e ↦ (let same : h.0 ≡ new = same_Some h.0 new (sym h.1 ∙ ap (slice_get (set g from new)) e ∙ get_set g from new lt) in
        let inside : Contains (old.items ++ to ∷ []) b = subst (λ (xs : List ℕ). Contains xs b) is (subst (λ (v : Vec ℕ Global). Contains v.items b) same h.2) in
        elim (Contains-push_cases old.items to b inside) [
          | inl c ↦ inl (old, ap (slice_get g) e ∙ at, c)
          | inr q ↦ inr (e, sym q)
        ])
    | inr ne ↦ inl (h.0, sym (get_set_other g from a new ne) ∙ h.1, h.2)
  ];
}

-- a graph without edges
pub record IsBare (n : ℕ) (g : Graph) : Type 0 where
  pub each : length g ≡ n
  pub none : (a b : ℕ) → HasEdge g a b → ⊥

pub bare_start : IsBare 0 []
bare_start = record { each = refl; none = λ a b h. (let e = h.1 in cc) }

push_get : (g : Graph) (row : Vec ℕ Global) (a : ℕ) (r : Vec ℕ Global) → slice_get (g ++ row ∷ []) a ≡ Some r → (slice_get g a ≡ Some r) ⊎ (row ≡ r)
push_get [] row zero r e = inr (same_Some row r e)
push_get [] row (suc a) r e = cc
push_get (x ∷ g) row zero r e = inl e
push_get (x ∷ g) row (suc a) r e = push_get g row a r e

pub bare_more : (n : ℕ) (old new : Graph) (row : Vec ℕ Global) → row.items ≡ [] → new ≡ old ++ row ∷ [] → IsBare n old → IsBare (n + 1) new
bare_more n old new row empty e h = record {
  each = (let l = ap length e in omega (arith, l, h.each, length-append old (row ∷ [])));
  none = λ a b x. elim (push_get old row a x.0 (ap (λ g. slice_get g a) (sym e) ∙ x.1)) [
    | inl at ↦ h.none a b (x.0, at, x.2)
    | inr same ↦ (let l = x.2.1 in let z = ap length (ap (λ (v : Vec ℕ Global). v.items) (sym same) ∙ empty) in omega (arith, l, z))
  ];
}

pub imports_start : (files : Briefs) (rows : List Row) (n m : ℕ) (g : Graph) → m ≡ length files → n ≡ 0 → IsBare m g → AreImports files rows n g
imports_start files rows n m g e z h = record {
  each = h.each ∙ e;
  sound = λ a b x. absurd (h.none a b x);
  complete = λ a b i. absurd (let l = i.1 in omega (arith, l, z));
}

within_more : (files : Briefs) (rows : List Row) (n a b : ℕ) → ImportsWithin files rows n a b → ImportsWithin files rows (n + 1) a b
within_more files rows n a b i = (i.0, (let l = i.1 in omega (arith, l)), i.2, i.3, i.4, i.5)

-- one import more
pub imports_more : (files : Briefs) (rows : List Row) (n : ℕ) (r : Row) (b module_file : ℕ) (old new : Graph) → slice_get rows n ≡ Some r → imported_module files r ≡ Some b → module_file ≡ module_file_at files r.file → HasOneMore old new module_file b → AreImports files rows n old → AreImports files rows (n + 1) new
imports_more files rows n r b module_file old new at is from m h = record {
  each = m.each ∙ h.each;
  sound = λ x y e. elim (m.others x y e) [
    | inl o ↦ within_more files rows n x y (h.sound x y o)
    | inr q ↦ (n, omega arith, r, at, sym from ∙ sym q.0, is ∙ ap (λ (k : ℕ). Some k) (sym q.1))
  ];
  complete = λ x y i. elim (cases_eq i.0 n) [
    | inl e ↦ (let same : i.2 ≡ r = same_Some i.2 r (sym i.3 ∙ ap (slice_get rows) e ∙ at) in
        let x_is : module_file ≡ x = from ∙ ap (λ (q : Row). module_file_at files q.file) (sym same) ∙ i.4 in
        let y_is : b ≡ y = same_Some b y (sym is ∙ ap (imported_module files) (sym same) ∙ i.5) in
        subst (λ (k : ℕ). HasEdge new k y) x_is (subst (λ (k : ℕ). HasEdge new module_file k) y_is m.there))
    | inr ne ↦ m.kept x y (h.complete x y (i.0, (let l = i.1 in omega (arith, l, ne)), i.2, i.3, i.4, i.5))
  ];
}

-- another statement
pub imports_same : (files : Briefs) (rows : List Row) (n : ℕ) (r : Row) (g : Graph) → slice_get rows n ≡ Some r → imported_module files r ≡ None → AreImports files rows n g → AreImports files rows (n + 1) g
imports_same files rows n r g at plain h = record {
  each = h.each;
  sound = λ x y e. within_more files rows n x y (h.sound x y e);
  complete = λ x y i. elim (cases_eq i.0 n) [
    | inl e ↦ absurd (let same : i.2 ≡ r = same_Some i.2 r (sym i.3 ∙ ap (slice_get rows) e ∙ at) in
        let none : Some y ≡ None = sym i.5 ∙ ap (imported_module files) same ∙ plain in cc)
    | inr ne ↦ h.complete x y (i.0, (let l = i.1 in omega (arith, l, ne)), i.2, i.3, i.4, i.5)
  ];
}

-- the rows of marks so far are those of the first nodes
pub record AreRows (g : Graph) (n : ℕ) (leads : Marks) : Type 0 where
  pub each : length leads ≡ n
  pub reached : (a : ℕ) (marks : Vec Bool Global) → slice_get leads a ≡ Some marks → AreReached g a marks.items

module _ (files : Briefs) (rows : List Row) (g : Graph) (h : AreImports files rows (length rows) g) where
  to_leads : (a b : ℕ) → LeadsIn g a b → LeadsTo files rows a b
  to_leads a b (by_edge e) = by_import (h.sound a b e)
  to_leads a b (by_edges {b = c} e w) = by_way (h.sound a c e) (to_leads c b w)

  from_leads : (a b : ℕ) → LeadsTo files rows a b → LeadsIn g a b
  from_leads a b (by_import i) = by_edge (h.complete a b i)
  from_leads a b (by_way {b = c} i w) = by_edges (h.complete a c i) (from_leads c b w)

  pub leads_all : (n : ℕ) (leads : Marks) → n ≡ length g → AreRows g n leads → AreLeads files rows leads
  leads_all n leads e r = record {
    led_to = λ a b t. to a b (slice_get leads a) refl t;
    marked = λ a b lt w. from a b (slice_get leads a) refl (omega (arith, lt, e, r.each, h.each)) w;
  }
    where
      to : (a b : ℕ) (o : Option (Vec Bool Global)) → slice_get leads a ≡ o → marked_in o b ≡ true → LeadsTo files rows a b
      to a b None q t = absurd (false≢true t)
      to a b (Some marks) q t = to_leads a b ((r.reached a marks q).led_to b t)

      from : (a b : ℕ) (o : Option (Vec Bool Global)) → slice_get leads a ≡ o → a < length leads → LeadsTo files rows a b → marked_in o b ≡ true
      from a b None q lt w = absurd (let p = slice_get_some leads a lt in let z = sym p.1 ∙ q in cc)
      from a b (Some marks) q lt w = (r.reached a marks q).marked b (from_leads a b w)

get_own : (xs : List ℕ) (j e : ℕ) → j < length xs → get_or xs j (get_or xs j e) ≡ get_or xs j e
get_own [] j e h = absurd (omega (arith, h))
get_own (x ∷ xs) zero e h = refl
get_own (x ∷ xs) (suc j) e h = get_own xs j e (omega arith)

-- an import goes to one of the files
pub is_graph : (files : Briefs) (rows : List Row) (g : Graph) → ((r : Row) (b : ℕ) → imported_module files r ≡ Some b → b < length files) → AreImports files rows (length rows) g → IsGraph g
is_graph files rows g within h = λ k d lt j e l.
    let row : Vec ℕ Global = slice_index_or g k d in
    let i = h.sound k (slice_index_or row.items j e) (row, slice_get-get_or g k d lt, (j, l, get_own row.items j e l)) in
    omega (arith, within i.2 (slice_index_or row.items j e) i.5, h.each)

pub rows_start : (g : Graph) → AreRows g 0 []
rows_start g = record { each = refl; reached = λ a marks e. cc }

push_marks : (leads : Marks) (row : Vec Bool Global) (a : ℕ) (r : Vec Bool Global) → slice_get (leads ++ row ∷ []) a ≡ Some r → (slice_get leads a ≡ Some r) ⊎ ((a ≡ length leads) × (row ≡ r))
push_marks [] row zero r e = inr (refl, same_Some row r e)
push_marks [] row (suc a) r e = cc
push_marks (x ∷ leads) row zero r e = inl e
push_marks (x ∷ leads) row (suc a) r e = elim (push_marks leads row a r e) [ inl q ↦ inl q | inr q ↦ inr (ap (λ n. suc n) q.0, q.1) ]

pub rows_more : (g : Graph) (n : ℕ) (old new : Marks) (row : Vec Bool Global) → AreReached g n row.items → new ≡ old ++ row ∷ [] → AreRows g n old → AreRows g (n + 1) new
rows_more g n old new row m e h = record {
  each = (let l = ap length e in omega (arith, l, h.each, length-append old (row ∷ [])));
  reached = λ a marks q. elim (push_marks old row a marks (ap (λ ls. slice_get ls a) (sym e) ∙ q)) [
    | inl at ↦ h.reached a marks at
    | inr p ↦ subst (λ (v : Vec Bool Global). AreReached g a v.items) p.1 (subst (λ (k : ℕ). AreReached g k row.items) (sym (p.0 ∙ h.each)) m)
  ];
}

-- what the marks tell of a statement
pub cyclic_to : (files : Briefs) (rows : List Row) (leads : Marks) (r : Row) → AreLeads files rows leads → is_import_cycle files leads r ≡ true → IsImportCycle files rows r
cyclic_to files rows leads r h t = by (imported_module files r) refl t
  where
    by : (o : Option ℕ) → imported_module files r ≡ o → closes_cycle leads (module_file_at files r.file) o ≡ true → IsImportCycle files rows r
    by None e u = absurd (false≢true u)
    by (Some b) e u = (b, e, h.led_to b (module_file_at files r.file) u)

pub cyclic_from : (files : Briefs) (rows : List Row) (leads : Marks) (r : Row) → ((b : ℕ) → imported_module files r ≡ Some b → b < length files) → AreLeads files rows leads → IsImportCycle files rows r → is_import_cycle files leads r ≡ true
cyclic_from files rows leads r within h c = ap (closes_cycle leads (module_file_at files r.file)) c.1 ∙ h.marked c.0 (module_file_at files r.file) (within c.0 c.1) c.2

module_in_is : (files : Briefs) (o : Option ℕ) (b : ℕ) → module_in files o ≡ Some b → o ≡ Some b
module_in_is files None b e = cc
module_in_is files (Some n) b e = by (is_module_at files n) e
  where
    by : (x : Bool) → cond x (Some n) None ≡ Some b → Some n ≡ Some b
    by true q = q
    by false q = cc

-- an import names a file
pub imported_named : (files : Briefs) (r : Row) (b : ℕ) → imported_module files r ≡ Some b → file_named files (name_in r) ≡ Some b
imported_named files r b e = by (has_word (codes "import") r.head) e
  where
    by : (x : Bool) → cond x (module_in files (file_named files (name_in r))) None ≡ Some b → file_named files (name_in r) ≡ Some b
    by true q = module_in_is files (file_named files (name_in r)) b q
    by false q = cc
