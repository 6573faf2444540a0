-- What the conditions of statements name, as a graph.
use Rattle.std.proofs.Common.{◌≡◌, ℕ, zero, suc, ◌+◌, ◌<◌, ◌↔◌, ◌&&◌, inl, inr, Bool, true, false, List, [], ◌∷◌, ◌++◌, length, map, get_or, take, drop, cond, append_assoc, Option, Some, None, refl, sym, ◌∙◌, ap, subst, arith}
use Rattle.std.specs.List.{All, Contains, position_from, slice_get}
use Rattle.std.specs.Option.{option_and_then, option_to_list}
use Rattle.std.specs.declared.vec.Vec.{Vec}
use Rattle.std.specs.declared.alloc.Global.{Global}
use Rattle.std.proofs.lemmas.Bool.{and_parts}
use Rattle.std.proofs.lemmas.List.{drop_more, get_or_default, length-map, map-append, take_more}
use Rattle.std.proofs.lemmas.List.Elements.{All-contains_itself, Contains-append_left, Contains-append_right, Contains-append_cases}
use Rattle.std.proofs.lemmas.Option.{same_Some, slice_get_read}
use Rattle.yv_base_graph.specs.Graph.{Graph, IsGraph, HasEdge, AreOnCycles, IsOrder, IsMarked, IsFirstOnCycle}
use Rattle.yv_base_graph.specs.Graph as graph
use Rattle.yv_text_if_feature.specs.Tokens.{Token, names_among, tokens}
use Rattle.yv_text_if_feature.specs.Tokens.{Open, Close, Not, And, Or, Name, Wrong}
use Rattle.yv_text_statement.specs.Order.{Among, IsLeast, refusal_at}
use Rattle.yv_text_statement.specs.declared.refusal.Code.TheVariants as code
use Rattle.yv_link_scopes.specs.Files.{Briefs}
use Rattle.yv_link_scopes.specs.Names.{local_of}
use Rattle.yv_link_scopes.specs.Rows.{Row, name_in}
use Rattle.yv_link_scopes.specs.Scopes.{block_of}
use Rattle.yv_link_scopes.specs.Tables.{first_of, is_same}
use Rattle.yv_link_scopes.specs.declared.kind.NameKind.TheVariants.{Feature}
use Rattle.yv_link_features.specs.Meaning.{Meaning, is_feature, meaning_of}
use Rattle.yv_link_features.specs.On.{is_if_feature_of}
use Rattle.yv_link_features.specs.Depends.{DependsOn, LeadsTo, by_step, by_way}
use Rattle.yv_link_features.specs.Refusals.{BadRow}
use Rattle.yv_link_features.specs.InnerGraph.{AreLists, IsOrderOf, meant_from, meant_in, numbers_at, steps_of}
use Rattle.yv_link_features.specs.InnerNames.{meant_among}

contains_one : {X : Type 0} (x y : X) → Contains (x ∷ []) y → x ≡ y
contains_one x y (zero, l, e) = e
contains_one x y (suc k, l, e) = absurd (omega (arith, l))

behind : {X : Type 0} (x y : X) (xs : List X) → Contains xs y → Contains (x ∷ xs) y
behind x y xs c = Contains-append_right (x ∷ []) xs y c

front : {X : Type 0} (x : X) (xs : List X) → Contains (x ∷ xs) x
front x xs = (0, omega arith, refl)

in_option : (o : Option ℕ) (d : ℕ) → Contains (option_to_list o) d → o ≡ Some d
in_option None d c = absurd (omega (arith, c.1))
in_option (Some e) d c = ap Some (contains_one e d c)

of_option : (o : Option ℕ) (d : ℕ) → o ≡ Some d → Contains (option_to_list o) d
of_option o d e = subst (λ (p : Option ℕ). Contains (option_to_list p) d) (sym e) (front d [])

-- a feature that words mean is meant by one of their names
abbrev Named : Meaning → ℕ → List Token → ℕ → Type 0
Named means file ts d = (name : List ℕ) × Contains (names_among ts) name × (means file name ≡ Some d)

module _ (means : Meaning) (file : ℕ) where
  named : (ts : List Token) (d : ℕ) → Contains (meant_among means file ts) d → Named means file ts d
  named [] d c = absurd (omega (arith, c.1))
  named (Name n ∷ ts) d c = elim (Contains-append_cases (option_to_list (means file n)) (meant_among means file ts) d c) [
    | inl a ↦ (n, front n (names_among ts), in_option (means file n) d a)
    | inr b ↦ let q = named ts d b in (q.0, behind n q.0 (names_among ts) q.1, q.2)
  ]
  named (Open ∷ ts) d c = named ts d c
  named (Close ∷ ts) d c = named ts d c
  named (Not ∷ ts) d c = named ts d c
  named (And ∷ ts) d c = named ts d c
  named (Or ∷ ts) d c = named ts d c
  named (Wrong ∷ ts) d c = named ts d c

  of_name : (ts : List Token) (d : ℕ) (name : List ℕ) → Contains (names_among ts) name → means file name ≡ Some d → Contains (meant_among means file ts) d
  of_name [] d name c e = absurd (omega (arith, c.1))
  of_name (Name n ∷ ts) d name c e = elim (Contains-append_cases (n ∷ []) (names_among ts) name c) [
    | inl a ↦ Contains-append_left (option_to_list (means file n)) (meant_among means file ts) d (of_option (means file n) d (ap (means file) (contains_one n name a) ∙ e))
    | inr b ↦ Contains-append_right (option_to_list (means file n)) (meant_among means file ts) d (of_name ts d name b e)
  ]
  of_name (Open ∷ ts) d name c e = of_name ts d name c e
  of_name (Close ∷ ts) d name c e = of_name ts d name c e
  of_name (Not ∷ ts) d name c e = of_name ts d name c e
  of_name (And ∷ ts) d name c e = of_name ts d name c e
  of_name (Or ∷ ts) d name c e = of_name ts d name c e
  of_name (Wrong ∷ ts) d name c e = of_name ts d name c e

pub row_within : (rows : List Row) (k : ℕ) → k < length rows → (r : Row) × (slice_get rows k ≡ Some r)
row_within [] k l = absurd (omega (arith, l))
row_within (r ∷ rs) zero l = (r, refl)
row_within (r ∷ rs) (suc k) l = row_within rs k (omega (arith, l))

module _ (means : Meaning) (rows : List Row) where
  -- a feature that numbered conditions name is named by one of them
  from : (is : List ℕ) (d : ℕ) → Contains (meant_from means rows is) d → (i : ℕ) × Contains is i × Contains (meant_in means (slice_get rows i)) d
  from [] d c = absurd (omega (arith, c.1))
  from (i ∷ is) d c = elim (Contains-append_cases (meant_in means (slice_get rows i)) (meant_from means rows is) d c) [
    | inl a ↦ (i, front i is, a)
    | inr b ↦ let q = from is d b in (q.0, behind i q.0 is q.1, q.2)
  ]

  to : (is : List ℕ) (d i : ℕ) → Contains is i → Contains (meant_in means (slice_get rows i)) d → Contains (meant_from means rows is) d
  to [] d i c m = absurd (omega (arith, c.1))
  to (j ∷ is) d i c m = elim (Contains-append_cases (j ∷ []) is i c) [
    | inl a ↦ Contains-append_left (meant_in means (slice_get rows j)) (meant_from means rows is) d (subst (λ k. Contains (meant_in means (slice_get rows k)) d) (sym (contains_one j i a)) m)
    | inr b ↦ Contains-append_right (meant_in means (slice_get rows j)) (meant_from means rows is) d (to is d i b m)
  ]

  -- a numbered statement, read
  in_row : (o : Option Row) (d : ℕ) → Contains (meant_in means o) d → (q : Row) × (o ≡ Some q) × Named means q.file (tokens (name_in q)) d
  in_row None d c = absurd (omega (arith, c.1))
  in_row (Some q) d c = (q, refl, named means q.file (tokens (name_in q)) d c)

  listed_get : (lists : List (Vec ℕ Global)) (k i : ℕ) → Contains (numbers_at lists k) i → (v : Vec ℕ Global) × (slice_get lists k ≡ Some v) × Contains v.items i
  listed_get [] k i c = absurd (omega (arith, c.1))
  listed_get (v ∷ vs) zero i c = (v, refl, c)
  listed_get (v ∷ vs) (suc k) i c = listed_get vs k i c

  get_listed : (lists : List (Vec ℕ Global)) (k : ℕ) (v : Vec ℕ Global) → slice_get lists k ≡ Some v → numbers_at lists k ≡ v.items
  get_listed [] k v e = cc
  get_listed (w ∷ vs) zero v e = ap (λ (x : Vec ℕ Global). x.items) (same_Some w v e)
  get_listed (w ∷ vs) (suc k) v e = get_listed vs k v e

  -- rows of one list, seen by another
  row_of : (xs ys : List (Vec ℕ Global)) (f g : Vec ℕ Global → List ℕ) → map f xs ≡ map g ys → (k : ℕ) (v : Vec ℕ Global) → slice_get xs k ≡ Some v → (w : Vec ℕ Global) × (slice_get ys k ≡ Some w) × (f v ≡ g w)
  row_of [] ys f g e k v h = cc
  row_of (x ∷ xs) [] f g e k v h = absurd cc
  row_of (x ∷ xs) (y ∷ ys) f g e zero v h = (y, refl, ap f (sym (same_Some x v h)) ∙ first (f x) (g y) (map f xs) (map g ys) e)
    where
      first : (a b : List ℕ) (us vs : List (List ℕ)) → a ∷ us ≡ b ∷ vs → a ≡ b
      first a b us vs e = cc
  row_of (x ∷ xs) (y ∷ ys) f g e (suc k) v h = row_of xs ys f g (others (f x) (g y) (map f xs) (map g ys) e) k v h
    where
      others : (a b : List ℕ) (us vs : List (List ℕ)) → a ∷ us ≡ b ∷ vs → us ≡ vs
      others a b us vs e = cc

  module _ (lists : List (Vec ℕ Global)) (g : Graph) (listed : AreLists rows lists) (made : map (λ (v : Vec ℕ Global). v.items) g ≡ steps_of means rows lists) where
    -- an edge is a step
    step_of : (a b : ℕ) → HasEdge g a b → DependsOn means rows a b
    step_of a b h =
        let w = row_of g lists (λ v. v.items) (λ v. meant_from means rows v.items) made a h.0 h.1 in
        let i = from w.0.items b (subst (λ xs. Contains xs b) w.2 h.2) in
        let at = (listed.exact a i.0).0 (subst (λ xs. Contains xs i.0) (sym (get_listed lists a w.0 w.1)) i.1) in
        let q = in_row (slice_get rows i.0) b i.2 in
        let same : at.0 ≡ q.0 = same_Some at.0 q.0 (sym at.1 ∙ q.1) in
        record {
          place = i.0;
          condition = q.0;
          at = q.1;
          own = ap (is_if_feature_of a) (sym same) ∙ at.2;
          name = q.2.0;
          named = q.2.1;
          meant = q.2.2;
        }

    -- a step is an edge
    edge_of : (a b : ℕ) → DependsOn means rows a b → HasEdge g a b
    edge_of a b s =
        let v = listed_get lists a s.place ((listed.exact a s.place).1 (s.condition, s.at, s.own)) in
        let w = row_of lists g (λ v. meant_from means rows v.items) (λ v. v.items) (sym made) a v.0 v.1 in
        let meant : Contains (meant_in means (slice_get rows s.place)) b = subst (λ (o : Option Row). Contains (meant_in means o) b) (sym s.at) (of_name means s.condition.file (tokens (name_in s.condition)) b s.name s.named s.meant) in
        (w.0, w.1, subst (λ xs. Contains xs b) w.2 (to v.0.items b s.place v.2 meant))

    leads_of : (a b : ℕ) → graph.LeadsTo g a b → LeadsTo means rows a b
    leads_of a b (graph.by_edge e) = by_step (step_of a b e)
    leads_of a b (graph.by_way {b = c} e w) = by_way (step_of a c e) (leads_of c b w)

    way_of : (a b : ℕ) → LeadsTo means rows a b → graph.LeadsTo g a b
    way_of a b (by_step s) = graph.by_edge (edge_of a b s)
    way_of a b (by_way {b = c} s w) = graph.by_way (edge_of a c s) (way_of c b w)

    pub graph_len : length g ≡ length rows
    graph_len = sym (length-map g (λ (v : Vec ℕ Global). v.items)) ∙ ap length made ∙ length-map lists (λ (v : Vec ℕ Global). meant_from means rows v.items) ∙ listed.each

    -- names mean statements, so that edges go to nodes
    pub is_graph : ((file : ℕ) (name : List ℕ) (d : ℕ) → means file name ≡ Some d → d < length rows) → IsGraph g
    is_graph bound a row l k b m =
        let items : List ℕ = (get_or g a row).items in
        let here : slice_get g a ≡ Some (get_or g a row) = slice_get_read g (length g) a (get_or g a row) refl l (get_or_default g a row (get_or g a row) l) in
        let s = step_of a (get_or items k b) (get_or g a row, here, All-contains_itself items k b m) in
        omega (arith, bound s.condition.file s.name (get_or items k b) s.meant, graph_len)

    pub cycles_of : (marks : List Bool) → AreOnCycles g marks → (k : ℕ) → IsMarked marks k ↔ LeadsTo means rows k k
    cycles_of marks c k = (λ m. leads_of k k (c.cycle k m), λ w. c.marked k (way_of k k w))

    -- where nothing is refused, no node leads to itself
    pub no_cycle_left : (a : ℕ) → IsFirstOnCycle g a → IsLeast (Among rows (BadRow means rows) (length rows)) None → ⊥
    no_cycle_left a f none =
        let l : a < length rows = omega (arith, f.within, graph_len) in
        let r = row_within rows a l in
        none (refusal_at code.FeatureCycle r.0.file r.0.head) (a, l, r.0, r.1, inr (leads_of a a f.cycle, refl))

    pub order_of : (order : List ℕ) → IsOrder g order → IsOrderOf means rows order
    order_of order o = record {
      each = o.each ∙ graph_len;
      within = subst (λ n. All (λ a. a < n) order) graph_len o.within;
      stands = λ a l. o.stands a (omega (arith, l, graph_len));
      once = o.once;
      behind = λ i b l w. o.behind i b l (way_of _ b w);
    }

-- where a search finds something, it passes
abbrev Found : {X : Type 0} → (X → Bool) → ℕ → List X → ℕ → Type 0
Found {X} p k xs d = (i : ℕ) × (k + i ≡ d) × (x : X) × (slice_get xs i ≡ Some x) × (p x ≡ true)

found_by : {X : Type 0} (p : X → Bool) (k : ℕ) (x : X) (xs : List X) (d : ℕ) (b : Bool) → p x ≡ b → (position_from p (k + 1) xs ≡ Some d → Found p (k + 1) xs d) → cond b (Some k) (position_from p (k + 1) xs) ≡ Some d → Found p k (x ∷ xs) d
found_by p k x xs d true t further e = (0, omega (arith, same_Some k d e), x, refl, t)
found_by p k x xs d false t further e = let q = further e in (suc q.0, omega (arith, q.1), q.2, q.3, q.4)

pub found_at : {X : Type 0} (p : X → Bool) (k : ℕ) (xs : List X) (d : ℕ) → position_from p k xs ≡ Some d → Found p k xs d
found_at p k [] d e = absurd cc
found_at p k (x ∷ xs) d e = found_by p k x xs d (p x) refl (found_at p (k + 1) xs d) e

-- what a name means is a feature
pub meant_feature : (files : Briefs) (rows : List Row) (file : ℕ) (name : List ℕ) (d : ℕ) → meaning_of files rows file name ≡ Some d → (r : Row) × (slice_get rows d ≡ Some r) × (is_feature r ≡ true)
meant_feature files rows file name d e = by (block_of files rows file name) e
  where
    by : (o : Option ℕ) → option_and_then (λ block. first_of Feature rows block (local_of name)) o ≡ Some d → (r : Row) × (slice_get rows d ≡ Some r) × (is_feature r ≡ true)
    by None e = absurd cc
    by (Some block) e =
        let q = found_at (λ (r : Row). is_feature r && is_same block (local_of name) r.scope (name_in r)) 0 rows d e in
        let same : q.0 ≡ d = omega (arith, q.1) in
        (q.2, subst (λ n. slice_get rows n ≡ Some q.2) same q.3, (and_parts _ _ q.4).0)

module _ (means : Meaning) (rows : List Row) where
  -- one more condition
  pub steps_more : (conditions : List ℕ) (i : ℕ) (all old now : List ℕ) → i < length conditions → now ≡ old ++ meant_in means (slice_get rows (get_or conditions i 0)) → old ++ meant_from means rows (drop i conditions) ≡ all → now ++ meant_from means rows (drop (i + 1) conditions) ≡ all
  steps_more conditions i all old now l pushed h =
      let rest : List ℕ = meant_from means rows (drop (i + 1) conditions) in
      ap (λ xs. xs ++ rest) pushed
      ∙ append_assoc old (meant_in means (slice_get rows (get_or conditions i 0))) rest
      ∙ ap (λ xs. old ++ xs) (sym (ap (meant_from means rows) (drop_more conditions i 0 l)))
      ∙ h

-- one more list
pub graph_more : (f : Vec ℕ Global → List ℕ) (lists graph now : List (Vec ℕ Global)) (i : ℕ) (item v : Vec ℕ Global) → i < length lists → item ≡ get_or lists i item → now ≡ graph ++ v ∷ [] → v.items ≡ f item → map (λ (x : Vec ℕ Global). x.items) graph ≡ map f (take i lists) → map (λ (x : Vec ℕ Global). x.items) now ≡ map f (take (i + 1) lists)
graph_more f lists graph now i item v l is pushed e h =
    ap (map (λ (x : Vec ℕ Global). x.items)) pushed
    ∙ map-append (λ (x : Vec ℕ Global). x.items) graph (v ∷ [])
    ∙ ap (λ xs. xs ++ v.items ∷ []) h
    ∙ ap (λ x. map f (take i lists) ++ x ∷ []) (e ∙ ap f is)
    ∙ sym (map-append f (take i lists) (get_or lists i item ∷ []))
    ∙ sym (ap (map f) (take_more lists i item l))
