-- The edges between modules in their roles are those of the rules.
use Rattle.std.proofs.Common.{◌≡◌, ◌+◌, ◌<◌, ◌⊎◌, inl, inr, ◌∙◌, ◌&&◌, ◌||◌, ℕ, List, [], ◌∷◌, ◌++◌, not, Bool, true, false, refl, sym, ap, subst, if◌then◌else◌, take, length, arith, codes, Option, Some, None}
use Rattle.std.specs.List.{All, Contains, slice_get, flat_map}
use Rattle.std.specs.Option.{option_map, option_and_then}
use Rattle.std.specs.Str.{bytes_eq}
use Rattle.std.proofs.lemmas.Bool.{false≢true}
use Rattle.std.proofs.lemmas.Option.{slice_get_within, same_Some}
use Rattle.std.proofs.lemmas.List.Elements.{Contains-append_left}
use Rattle.std.proofs.lemmas.Slice.Eq.{bytes_eq-Decides}
use Rattle.yv_base_graph.specs.Graph.{Graph, HasEdge, LeadsTo, by_edge, by_way, IsMarked, AreReached}
use Rattle.yv_base_graph.specs.Marks.{is_marked}
use Rattle.yv_text_statement.specs.Tree.{Head, Tree, trees}
use Rattle.yv_text_statement.specs.Words.{is_among}
use Rattle.yv_link_scopes.specs.Names.{prefix_of}
use Rattle.yv_search.specs.Wants.{has_word, argument_of, module_of}
use Rattle.yv_search.specs.Prefixes.{is_text, module_meant, parts_of, Names}
use Rattle.yv_search.specs.Statements.{Place, places, is_place_of, Leads, by_augment, by_path, LeadsLent, Borrows}
use Rattle.yv_search.specs.Roles.{FileSet, root_module, is_there, HasFile, MayBeLedTo, Role, Implemented, Lender, Has, of_named, led_to, by_lender, lends, IsRequired, IsLender}
use Rattle.yv_search.specs.InnerModules.{module_at, is_file_of, number_in, ref_at, ref_of}
use Rattle.yv_search.specs.InnerPrefixes.{Refs, refs_of}
use Rattle.yv_search.specs.InnerEdges.{need_edges, lender_edges, way_edges, edges_to, part_edges, name_edges, augment_edges, way_of, edges_by, place_edges, edges_from, module_edges, file_edges, edges_to_named, start_edges, all_edges}
use Rattle.yv_search.specs.InnerGraph.{number_of, IsWithin, IsListed, IsGraphOf}
use Rattle.yv_search.specs.InnerRoles.{has_mark}
use Rattle.yv_search.specs.declared.table.ModuleRef.{ModuleRef}
use Rattle.yv_search.specs.declared.edges.Node.{Node}
use Rattle.yv_search.specs.declared.edges.Node.TheVariants as node
use Rattle.yv_search.specs.declared.edges.Edge.{Edge}
use Rattle.yv_search.specs.declared.edges.Way.{Way}
use Rattle.yv_search.specs.declared.edges.Way.TheVariants as ways
use Rattle.yv_search.proofs.Items.{no_item, here, only, join_cases, join_right, IsGiven, flat_cases, flat_there, all_items, IsPassing, passing, placed, placed_by}

abbrev pub edge : Node → Node → Edge
edge from to = record { from = from; to = to }

and_left : (a b : Bool) → (a && b) ≡ true → a ≡ true
and_left true b h = refl
and_left false b h = absurd (false≢true h)

and_right : (a b : Bool) → (a && b) ≡ true → b ≡ true
and_right true b h = h
and_right false b h = absurd (false≢true h)

not_so : (b : Bool) → not b ≡ true → b ≡ false
not_so true h = absurd (false≢true h)
not_so false h = refl

-- ### modules and their numbers

module _ (f : FileSet) where
  -- what is known of the module of a name
  pub record Known (m : List ℕ) (ref : ModuleRef) : Type 0 where
    pub number : number_in f.roots m ≡ Some ref.number
    pub there : ref.is_there ≡ is_there f.roots m
    pub free : ref.is_free ≡ not (is_among f.import_only m)

  pub known : (m : List ℕ) (ref : ModuleRef) → ref_of f.roots f.import_only m ≡ Some ref → Known m ref
  known m ref e = by (number_in f.roots m) refl e
    where
      by : (o : Option ℕ) → number_in f.roots m ≡ o → option_map (ref_at f.roots f.import_only m) o ≡ Some ref → Known m ref
      by None is h = absurd (cc)
      by (Some i) is h =
          let same : ref_at f.roots f.import_only m i ≡ ref = same_Some (ref_at f.roots f.import_only m i) ref h in
          record {
            number = is ∙ ap (λ (r : ModuleRef). Some r.number) same;
            there = sym (ap (λ (r : ModuleRef). r.is_there) same);
            free = sym (ap (λ (r : ModuleRef). r.is_free) same);
          }

  -- a module that is known may be required
  pub may_be : (m : List ℕ) (ref : ModuleRef) → Known m ref → (ref.is_there && ref.is_free) ≡ true → MayBeLedTo f m
  may_be m ref k h = record {
    there = sym k.there ∙ and_left ref.is_there ref.is_free h;
    free = not_so (is_among f.import_only m) (sym k.free ∙ and_right ref.is_there ref.is_free h);
  }

  text_is : (m : List ℕ) (o : Option (List ℕ)) → is_text m o ≡ true → o ≡ Some m
  text_is m None h = absurd (false≢true h)
  text_is m (Some t) h = ap (λ (w : List ℕ). Some w) ((bytes_eq-Decides t m).0 h)

  text_same : (m : List ℕ) (o : Option (List ℕ)) → o ≡ Some m → is_text m o ≡ true
  text_same m o e = ap (is_text m) e ∙ (bytes_eq-Decides m m).1 refl

  -- two names with one number are one
  pub one_name : (m x : List ℕ) (i : ℕ) → number_in f.roots m ≡ Some i → number_in f.roots x ≡ Some i → m ≡ x
  one_name m x i a b =
      let p : IsPassing (is_file_of m) 0 f.roots i = passing (is_file_of m) 0 f.roots i a in
      let q : IsPassing (is_file_of x) 0 f.roots i = passing (is_file_of x) 0 f.roots i b in
      let places_same : p.place ≡ q.place = (let c = p.at in let d = q.at in omega (arith, c, d)) in
      let same : p.item ≡ q.item = same_Some p.item q.item (sym p.get ∙ ap (slice_get f.roots) places_same ∙ q.get) in
      same_Some m x (sym (text_is m (module_at p.item) p.passes) ∙ ap module_at same ∙ text_is x (module_at q.item) q.passes)

  -- numbers are below the number of files
  pub below : (m : List ℕ) (i : ℕ) → number_in f.roots m ≡ Some i → i < length f.roots
  below m i a =
      let p : IsPassing (is_file_of m) 0 f.roots i = passing (is_file_of m) 0 f.roots i a in
      let h : p.place < length f.roots = slice_get_within f.roots p.place p.item p.get in
      let c = p.at in omega (arith, c, h)

  -- a module with a file has a number
  pub number_of_file : (m : List ℕ) (root : Tree) → HasFile f.roots m root → (i : ℕ) × (number_in f.roots m ≡ Some i)
  number_of_file m root h = placed (is_file_of m) 0 f.roots (Some root) h.among (text_same m (module_at (Some root)) h.module_is)

  root_is_file : (m : List ℕ) (r : Option Tree) → is_text m (root_module r) ≡ true → is_file_of m r ≡ true
  root_is_file m None h = absurd (false≢true h)
  root_is_file m (Some t) h = by (has_word (codes "module") t) refl h
    where
      by : (b : Bool) → has_word (codes "module") t ≡ b → is_text m (if b then t.head.argument else None) ≡ true → is_text m (module_of t) ≡ true
      by true is g = subst (λ (c : Bool). is_text m (if c then t.head.argument else argument_of (codes "belongs-to") t) ≡ true) (sym is) g
      by false is g = absurd (false≢true g)

  pub number_of_root : (m : List ℕ) → is_there f.roots m ≡ true → (i : ℕ) × (number_in f.roots m ≡ Some i)
  number_of_root m h = placed_by (λ r. is_text m (root_module r)) (is_file_of m) 0 f.roots (root_is_file m) h

  pub ref_is : (m : List ℕ) (i : ℕ) → number_in f.roots m ≡ Some i → ref_of f.roots f.import_only m ≡ Some (ref_at f.roots f.import_only m i)
  ref_is m i e = ap (option_map (ref_at f.roots f.import_only m)) e

  -- ### what statements name

  -- a name in an argument, and the module's edges
  record IsNamed (root : Tree) (s : Head) (k : ℕ) (w : Way) (e : Edge) : Type 0 where
    pub m : List ℕ
    pub ref : ModuleRef
    pub names : Names root s m
    pub is : ref_of f.roots f.import_only m ≡ Some ref
    pub among : Contains (way_edges k w ref) e

  name_of_part : (root : Tree) (s : Head) (k : ℕ) (w : Way) (e : Edge) (argument part : List ℕ) → s.argument ≡ Some argument → Contains (parts_of argument) part → Contains (part_edges k (refs_of (ref_of f.roots f.import_only) root) w part) e → IsNamed root s k w e
  name_of_part root s k w e argument part has among h = by_prefix (prefix_of part) refl h
    where
      by_ref : (p m : List ℕ) → prefix_of part ≡ Some p → module_meant root p ≡ Some m → (o : Option ModuleRef) → ref_of f.roots f.import_only m ≡ o → Contains (edges_to k w o) e → IsNamed root s k w e
      by_ref p m pe me None re g = absurd (no_item e g)
      by_ref p m pe me (Some r) re g = record { m = m; ref = r; names = record { argument = argument; has = has; part = part; among = among; prefix = p; begins = pe; means = me }; is = re; among = g }

      by_module : (p : List ℕ) → prefix_of part ≡ Some p → (o : Option (List ℕ)) → module_meant root p ≡ o → Contains (edges_to k w (option_and_then (ref_of f.roots f.import_only) o)) e → IsNamed root s k w e
      by_module p pe None me g = absurd (no_item e g)
      by_module p pe (Some m) me g = by_ref p m pe me (ref_of f.roots f.import_only m) refl g

      by_prefix : (o : Option (List ℕ)) → prefix_of part ≡ o → Contains (edges_to k w (option_and_then (refs_of (ref_of f.roots f.import_only) root) o)) e → IsNamed root s k w e
      by_prefix None pe g = absurd (no_item e g)
      by_prefix (Some p) pe g = by_module p pe (module_meant root p) refl g

  name_cases : (root : Tree) (s : Head) (k : ℕ) (w : Way) (e : Edge) → Contains (name_edges k (refs_of (ref_of f.roots f.import_only) root) w s.argument) e → IsNamed root s k w e
  name_cases root s k w e h = by s.argument refl h
    where
      by : (o : Option (List ℕ)) → s.argument ≡ o → Contains (name_edges k (refs_of (ref_of f.roots f.import_only) root) w o) e → IsNamed root s k w e
      by None is g = absurd (no_item e g)
      by (Some a) is g =
          let c : IsGiven (part_edges k (refs_of (ref_of f.roots f.import_only) root) w) (parts_of a) e = flat_cases (part_edges k (refs_of (ref_of f.roots f.import_only) root) w) (parts_of a) e g in
          name_of_part root s k w e a c.item is c.among c.gives

  name_there : (root : Tree) (s : Head) (k : ℕ) (w : Way) (e : Edge) (m : List ℕ) (ref : ModuleRef) → Names root s m → ref_of f.roots f.import_only m ≡ Some ref → Contains (way_edges k w ref) e → Contains (name_edges k (refs_of (ref_of f.roots f.import_only) root) w s.argument) e
  name_there root s k w e m ref n is h =
      let meanings : Refs = refs_of (ref_of f.roots f.import_only) root in
      let path : option_and_then meanings (prefix_of n.part) ≡ Some ref = ap (option_and_then meanings) n.begins ∙ ap (option_and_then (ref_of f.roots f.import_only)) n.means ∙ is in
      subst (λ (o : Option (List ℕ)). Contains (name_edges k meanings w o) e) (sym n.has)
      (flat_there (part_edges k meanings w) (parts_of n.argument) n.part e n.among (subst (λ (o : Option ModuleRef). Contains (edges_to k w o) e) (sym path) h))

  -- ### the edges of a file

  -- what an edge of a file says
  pub data Says (root : Tree) (k : ℕ) (e : Edge) : Type 0 where
    leads : (m : List ℕ) (ref : ModuleRef) → Leads root m → ref_of f.roots f.import_only m ≡ Some ref → (ref.is_there && ref.is_free) ≡ true → edge (node.Required k) (node.Required ref.number) ≡ e → Says root k e
    leads_lent : (m : List ℕ) (ref : ModuleRef) → LeadsLent root m → ref_of f.roots f.import_only m ≡ Some ref → (ref.is_there && ref.is_free) ≡ true → edge (node.Lender k) (node.Required ref.number) ≡ e → Says root k e
    borrows : (m : List ℕ) (ref : ModuleRef) → Borrows root m → ref_of f.roots f.import_only m ≡ Some ref → edge (node.Required k) (node.Lender ref.number) ≡ e → Says root k e
    borrows_on : (m : List ℕ) (ref : ModuleRef) → Borrows root m → ref_of f.roots f.import_only m ≡ Some ref → edge (node.Lender k) (node.Lender ref.number) ≡ e → Says root k e

  -- an edge of a need
  need_is : (from : Node) (ref : ModuleRef) (e : Edge) → Contains (need_edges from ref) e → ((ref.is_there && ref.is_free) ≡ true) × (edge from (node.Required ref.number) ≡ e)
  need_is from ref e h = by (ref.is_there && ref.is_free) refl h
    where
      by : (b : Bool) → (ref.is_there && ref.is_free) ≡ b → Contains (if b then record { from = from; to = node.Required ref.number } ∷ [] else []) e → ((ref.is_there && ref.is_free) ≡ true) × (edge from (node.Required ref.number) ≡ e)
      by true is g = (is, only _ e g)
      by false is g = absurd (no_item e g)

  need_there : (from : Node) (ref : ModuleRef) → (ref.is_there && ref.is_free) ≡ true → Contains (need_edges from ref) (edge from (node.Required ref.number))
  need_there from ref may =
      let e : Edge = edge from (node.Required ref.number) in
      subst (λ (b : Bool). Contains (if b then e ∷ [] else []) e) (sym may) (here e [])

  path_edges : (root : Tree) (k : ℕ) (p : Place) (e : Edge) → Contains (places root) p → is_place_of (codes "path") p ≡ true → (l : Bool) → p.lent ≡ l → Contains (name_edges k (refs_of (ref_of f.roots f.import_only) root) (if l then ways.LeadsLent else ways.Leads) p.head.argument) e → Says root k e
  path_edges root k p e among is true lent h =
      let n : IsNamed root p.head k ways.LeadsLent e = name_cases root p.head k ways.LeadsLent e h in
      elim (join_cases (need_edges (node.Required k) n.ref) (need_edges (node.Lender k) n.ref) e n.among) [
        | inl a ↦ let q : ((n.ref.is_there && n.ref.is_free) ≡ true) × (edge (node.Required k) (node.Required n.ref.number) ≡ e) = need_is (node.Required k) n.ref e a in
            leads n.m n.ref (by_path p among is n.names) n.is q.0 q.1
        | inr a ↦ let q : ((n.ref.is_there && n.ref.is_free) ≡ true) × (edge (node.Lender k) (node.Required n.ref.number) ≡ e) = need_is (node.Lender k) n.ref e a in
            leads_lent n.m n.ref (record { place = p; among = among; is_path = is; is_lent = lent; names = n.names }) n.is q.0 q.1
      ]
  path_edges root k p e among is false lent h =
      let n : IsNamed root p.head k ways.Leads e = name_cases root p.head k ways.Leads e h in
      let q : ((n.ref.is_there && n.ref.is_free) ≡ true) × (edge (node.Required k) (node.Required n.ref.number) ≡ e) = need_is (node.Required k) n.ref e n.among in
      leads n.m n.ref (by_path p among is n.names) n.is q.0 q.1

  use_edges : (root : Tree) (k : ℕ) (p : Place) (e : Edge) → Contains (places root) p → (is_place_of (codes "type") p || is_place_of (codes "uses") p) ≡ true → Contains (name_edges k (refs_of (ref_of f.roots f.import_only) root) ways.Borrows p.head.argument) e → Says root k e
  use_edges root k p e among is h =
      let n : IsNamed root p.head k ways.Borrows e = name_cases root p.head k ways.Borrows e h in
      let b : Borrows root n.m = record { place = p; among = among; is_use = is; names = n.names } in
      elim (join_cases (lender_edges (node.Required k) n.ref) (lender_edges (node.Lender k) n.ref) e n.among) [
        | inl a ↦ borrows n.m n.ref b n.is (only (edge (node.Required k) (node.Lender n.ref.number)) e a)
        | inr a ↦ borrows_on n.m n.ref b n.is (only (edge (node.Lender k) (node.Lender n.ref.number)) e a)
      ]

  place_says : (root : Tree) (k : ℕ) (p : Place) (e : Edge) → Contains (places root) p → Contains (place_edges k (refs_of (ref_of f.roots f.import_only) root) p) e → Says root k e
  place_says root k p e among h = by (is_place_of (codes "path") p) (is_place_of (codes "type") p || is_place_of (codes "uses") p) refl refl h
    where
      by : (b u : Bool) → is_place_of (codes "path") p ≡ b → (is_place_of (codes "type") p || is_place_of (codes "uses") p) ≡ u
          → Contains (edges_by k (refs_of (ref_of f.roots f.import_only) root) (if b then Some (if p.lent then ways.LeadsLent else ways.Leads) else (if u then Some ways.Borrows else None)) p.head.argument) e → Says root k e
      by true u is js g = path_edges root k p e among is p.lent refl g
      by false true is js g = use_edges root k p e among js g
      by false false is js g = absurd (no_item e g)

  augment_says : (root : Tree) (k : ℕ) (s : Tree) (e : Edge) → Contains (trees root.children) s → Contains (augment_edges k (refs_of (ref_of f.roots f.import_only) root) s) e → Says root k e
  augment_says root k s e among h = by (has_word (codes "augment") s) refl h
    where
      by : (b : Bool) → has_word (codes "augment") s ≡ b → Contains (if b then name_edges k (refs_of (ref_of f.roots f.import_only) root) ways.Leads s.head.argument else []) e → Says root k e
      by true is g =
          let n : IsNamed root s.head k ways.Leads e = name_cases root s.head k ways.Leads e g in
          let q : ((n.ref.is_there && n.ref.is_free) ≡ true) × (edge (node.Required k) (node.Required n.ref.number) ≡ e) = need_is (node.Required k) n.ref e n.among in
          leads n.m n.ref (by_augment s among is n.names) n.is q.0 q.1
      by false is g = absurd (no_item e g)

  file_says : (root : Tree) (k : ℕ) (e : Edge) → Contains (edges_from k (refs_of (ref_of f.roots f.import_only) root) root) e → Says root k e
  file_says root k e h =
      let meanings : Refs = refs_of (ref_of f.roots f.import_only) root in
      elim (join_cases (flat_map (augment_edges k meanings) (trees root.children)) (flat_map (place_edges k meanings) (places root)) e h) [
        | inl a ↦ let c : IsGiven (augment_edges k meanings) (trees root.children) e = flat_cases (augment_edges k meanings) (trees root.children) e a in augment_says root k c.item e c.among c.gives
        | inr a ↦ let c : IsGiven (place_edges k meanings) (places root) e = flat_cases (place_edges k meanings) (places root) e a in place_says root k c.item e c.among c.gives
      ]

  augments_there : (root : Tree) (k : ℕ) (e : Edge) → Contains (flat_map (augment_edges k (refs_of (ref_of f.roots f.import_only) root)) (trees root.children)) e → Contains (edges_from k (refs_of (ref_of f.roots f.import_only) root) root) e
  augments_there root k e h = Contains-append_left (flat_map (augment_edges k (refs_of (ref_of f.roots f.import_only) root)) (trees root.children)) (flat_map (place_edges k (refs_of (ref_of f.roots f.import_only) root)) (places root)) e h

  place_there : (root : Tree) (k : ℕ) (p : Place) (w : Way) (e : Edge) → Contains (places root) p → way_of p ≡ Some w → Contains (name_edges k (refs_of (ref_of f.roots f.import_only) root) w p.head.argument) e → Contains (edges_from k (refs_of (ref_of f.roots f.import_only) root) root) e
  place_there root k p w e among is h =
      let meanings : Refs = refs_of (ref_of f.roots f.import_only) root in
      join_right (flat_map (augment_edges k meanings) (trees root.children)) (flat_map (place_edges k meanings) (places root)) e
      (flat_there (place_edges k meanings) (places root) p e among (subst (λ (o : Option Way). Contains (edges_by k meanings o p.head.argument) e) (sym is) h))

  path_way : (p : Place) → is_place_of (codes "path") p ≡ true → (l : Bool) → p.lent ≡ l → way_of p ≡ Some (if l then ways.LeadsLent else ways.Leads)
  path_way p is l lent =
      ap (λ (b : Bool). if b then Some (if p.lent then ways.LeadsLent else ways.Leads) else (if is_place_of (codes "type") p || is_place_of (codes "uses") p then Some ways.Borrows else None)) is
      ∙ ap (λ (b : Bool). Some (if b then ways.LeadsLent else ways.Leads)) lent

  pub leads_there : (root : Tree) (k : ℕ) (m : List ℕ) (ref : ModuleRef) → Leads root m → ref_of f.roots f.import_only m ≡ Some ref → (ref.is_there && ref.is_free) ≡ true → Contains (edges_from k (refs_of (ref_of f.roots f.import_only) root) root) (edge (node.Required k) (node.Required ref.number))
  leads_there root k m ref (by_augment s among is names) re may =
      let meanings : Refs = refs_of (ref_of f.roots f.import_only) root in
      let e : Edge = edge (node.Required k) (node.Required ref.number) in
      augments_there root k e (flat_there (augment_edges k meanings) (trees root.children) s e among
      (subst (λ (b : Bool). Contains (if b then name_edges k meanings ways.Leads s.head.argument else []) e) (sym is) (name_there root s.head k ways.Leads e m ref names re (need_there (node.Required k) ref may))))
  leads_there root k m ref (by_path p among is names) re may = by p.lent refl
    where
      by : (l : Bool) → p.lent ≡ l → Contains (edges_from k (refs_of (ref_of f.roots f.import_only) root) root) (edge (node.Required k) (node.Required ref.number))
      by true lent = place_there root k p ways.LeadsLent (edge (node.Required k) (node.Required ref.number)) among (path_way p is true lent)
          (name_there root p.head k ways.LeadsLent (edge (node.Required k) (node.Required ref.number)) m ref names re (Contains-append_left (need_edges (node.Required k) ref) (need_edges (node.Lender k) ref) (edge (node.Required k) (node.Required ref.number)) (need_there (node.Required k) ref may)))
      by false lent = place_there root k p ways.Leads (edge (node.Required k) (node.Required ref.number)) among (path_way p is false lent)
          (name_there root p.head k ways.Leads (edge (node.Required k) (node.Required ref.number)) m ref names re (need_there (node.Required k) ref may))

  pub lent_there : (root : Tree) (k : ℕ) (m : List ℕ) (ref : ModuleRef) → LeadsLent root m → ref_of f.roots f.import_only m ≡ Some ref → (ref.is_there && ref.is_free) ≡ true → Contains (edges_from k (refs_of (ref_of f.roots f.import_only) root) root) (edge (node.Lender k) (node.Required ref.number))
  lent_there root k m ref l re may =
      let e : Edge = edge (node.Lender k) (node.Required ref.number) in
      place_there root k l.place ways.LeadsLent e l.among (path_way l.place l.is_path true l.is_lent)
      (name_there root l.place.head k ways.LeadsLent e m ref l.names re (join_right (need_edges (node.Required k) ref) (need_edges (node.Lender k) ref) e (need_there (node.Lender k) ref may)))

  no_path : (p : Place) → (is_place_of (codes "type") p || is_place_of (codes "uses") p) ≡ true → is_place_of (codes "path") p ≡ false
  no_path p h = by (is_place_of (codes "type") p) (is_place_of (codes "uses") p) refl refl h
    where
      by : (a b : Bool) → is_place_of (codes "type") p ≡ a → is_place_of (codes "uses") p ≡ b → (a || b) ≡ true → is_place_of (codes "path") p ≡ false
      by true b is js g = ap (λ (w : List ℕ). bytes_eq w (codes "path")) ((bytes_eq-Decides p.head.keyword (codes "type")).0 is)
      by false true is js g = ap (λ (w : List ℕ). bytes_eq w (codes "path")) ((bytes_eq-Decides p.head.keyword (codes "uses")).0 js)
      by false false is js g = absurd (false≢true g)

  use_way : (p : Place) → (is_place_of (codes "type") p || is_place_of (codes "uses") p) ≡ true → way_of p ≡ Some ways.Borrows
  use_way p h =
      ap (λ (b : Bool). if b then Some (if p.lent then ways.LeadsLent else ways.Leads) else (if is_place_of (codes "type") p || is_place_of (codes "uses") p then Some ways.Borrows else None)) (no_path p h)
      ∙ ap (λ (b : Bool). if b then Some ways.Borrows else None) h

  pub borrows_there : (root : Tree) (k : ℕ) (m : List ℕ) (ref : ModuleRef) → Borrows root m → ref_of f.roots f.import_only m ≡ Some ref → Contains (edges_from k (refs_of (ref_of f.roots f.import_only) root) root) (edge (node.Required k) (node.Lender ref.number))
  borrows_there root k m ref b re =
      let e : Edge = edge (node.Required k) (node.Lender ref.number) in
      place_there root k b.place ways.Borrows e b.among (use_way b.place b.is_use)
      (name_there root b.place.head k ways.Borrows e m ref b.names re (Contains-append_left (lender_edges (node.Required k) ref) (lender_edges (node.Lender k) ref) e (here e [])))

  pub borrows_on_there : (root : Tree) (k : ℕ) (m : List ℕ) (ref : ModuleRef) → Borrows root m → ref_of f.roots f.import_only m ≡ Some ref → Contains (edges_from k (refs_of (ref_of f.roots f.import_only) root) root) (edge (node.Lender k) (node.Lender ref.number))
  borrows_on_there root k m ref b re =
      let e : Edge = edge (node.Lender k) (node.Lender ref.number) in
      place_there root k b.place ways.Borrows e b.among (use_way b.place b.is_use)
      (name_there root b.place.head k ways.Borrows e m ref b.names re (join_right (lender_edges (node.Required k) ref) (lender_edges (node.Lender k) ref) e (here e [])))

  -- ### all edges

  abbrev pub edges : List Edge
  edges = all_edges (ref_of f.roots f.import_only) f.roots f.named

  -- what an edge of all files says
  pub data AllSay (e : Edge) : Type 0 where
    of_start : (root : Tree) (x : List ℕ) (ref : ModuleRef) → HasFile (take f.named f.roots) x root → ref_of f.roots f.import_only x ≡ Some ref → ref.is_free ≡ true → edge node.Start (node.Required ref.number) ≡ e → AllSay e
    of_file : (root : Tree) (x : List ℕ) (ref : ModuleRef) → HasFile f.roots x root → ref_of f.roots f.import_only x ≡ Some ref → Says root ref.number e → AllSay e

  start_says : (r : Option Tree) (e : Edge) → Contains (take f.named f.roots) r → Contains (start_edges (ref_of f.roots f.import_only) r) e → AllSay e
  start_says None e among h = absurd (no_item e h)
  start_says (Some root) e among h = by_module (module_of root) refl h
    where
      by_free : (x : List ℕ) (ref : ModuleRef) → module_of root ≡ Some x → ref_of f.roots f.import_only x ≡ Some ref → (b : Bool) → ref.is_free ≡ b → Contains (if b then edge node.Start (node.Required ref.number) ∷ [] else []) e → AllSay e
      by_free x ref me re true is g = of_start root x ref (record { among = among; module_is = me }) re is (only (edge node.Start (node.Required ref.number)) e g)
      by_free x ref me re false is g = absurd (no_item e g)

      by_ref : (x : List ℕ) → module_of root ≡ Some x → (o : Option ModuleRef) → ref_of f.roots f.import_only x ≡ o → Contains (edges_to_named o) e → AllSay e
      by_ref x me None re g = absurd (no_item e g)
      by_ref x me (Some ref) re g = by_free x ref me re ref.is_free refl g

      by_module : (o : Option (List ℕ)) → module_of root ≡ o → Contains (edges_to_named (option_and_then (ref_of f.roots f.import_only) o)) e → AllSay e
      by_module None me g = absurd (no_item e g)
      by_module (Some x) me g = by_ref x me (ref_of f.roots f.import_only x) refl g

  files_say : (r : Option Tree) (e : Edge) → Contains f.roots r → Contains (file_edges (ref_of f.roots f.import_only) r) e → AllSay e
  files_say None e among h = absurd (no_item e h)
  files_say (Some root) e among h = by_module (module_of root) refl h
    where
      by_ref : (x : List ℕ) → module_of root ≡ Some x → (o : Option ModuleRef) → ref_of f.roots f.import_only x ≡ o → Contains (module_edges (ref_of f.roots f.import_only) root o) e → AllSay e
      by_ref x me None re g = absurd (no_item e g)
      by_ref x me (Some ref) re g = of_file root x ref (record { among = among; module_is = me }) re (file_says root ref.number e g)

      by_module : (o : Option (List ℕ)) → module_of root ≡ o → Contains (module_edges (ref_of f.roots f.import_only) root (option_and_then (ref_of f.roots f.import_only) o)) e → AllSay e
      by_module None me g = absurd (no_item e g)
      by_module (Some x) me g = by_ref x me (ref_of f.roots f.import_only x) refl g

  pub all_say : (e : Edge) → Contains edges e → AllSay e
  all_say e h =
      let refs_ : Refs = ref_of f.roots f.import_only in
      elim (join_cases (flat_map (start_edges refs_) (take f.named f.roots)) (flat_map (file_edges refs_) f.roots) e h) [
        | inl a ↦ let c : IsGiven (start_edges refs_) (take f.named f.roots) e = flat_cases (start_edges refs_) (take f.named f.roots) e a in start_says c.item e c.among c.gives
        | inr a ↦ let c : IsGiven (file_edges refs_) f.roots e = flat_cases (file_edges refs_) f.roots e a in files_say c.item e c.among c.gives
      ]

  pub start_there : (root : Tree) (x : List ℕ) (ref : ModuleRef) → HasFile (take f.named f.roots) x root → ref_of f.roots f.import_only x ≡ Some ref → ref.is_free ≡ true → Contains edges (edge node.Start (node.Required ref.number))
  start_there root x ref file re free =
      let refs_ : Refs = ref_of f.roots f.import_only in
      let e : Edge = edge node.Start (node.Required ref.number) in
      let path : option_and_then refs_ (module_of root) ≡ Some ref = ap (option_and_then refs_) file.module_is ∙ re in
      Contains-append_left (flat_map (start_edges refs_) (take f.named f.roots)) (flat_map (file_edges refs_) f.roots) e
      (flat_there (start_edges refs_) (take f.named f.roots) (Some root) e file.among
      (subst (λ (o : Option ModuleRef). Contains (edges_to_named o) e) (sym path) (subst (λ (b : Bool). Contains (if b then e ∷ [] else []) e) (sym free) (here e []))))

  pub file_there : (root : Tree) (x : List ℕ) (ref : ModuleRef) (e : Edge) → HasFile f.roots x root → ref_of f.roots f.import_only x ≡ Some ref → Contains (edges_from ref.number (refs_of (ref_of f.roots f.import_only) root) root) e → Contains edges e
  file_there root x ref e file re h =
      let refs_ : Refs = ref_of f.roots f.import_only in
      let path : option_and_then refs_ (module_of root) ≡ Some ref = ap (option_and_then refs_) file.module_is ∙ re in
      join_right (flat_map (start_edges refs_) (take f.named f.roots)) (flat_map (file_edges refs_) f.roots) e
      (flat_there (file_edges refs_) f.roots (Some root) e file.among (subst (λ (o : Option ModuleRef). Contains (module_edges refs_ root o) e) (sym path) h))
