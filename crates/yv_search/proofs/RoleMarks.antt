-- What the start leads to is what has its role.
use Rattle.std.proofs.Common.{◌≡◌, ◌+◌, ◌<◌, ◌∙◌, ◌&&◌, ℕ, List, not, Bool, true, false, refl, sym, ap, subst, length, get_or, take, drop, arith, Option, Some, None}
use Rattle.std.specs.List.{All, Contains}
use Rattle.std.specs.Option.{option_map}
use Rattle.std.proofs.lemmas.Bool.{false≢true}
use Rattle.std.proofs.lemmas.List.{take-append-drop}
use Rattle.std.proofs.lemmas.List.Elements.{Contains-append_left, All-contains_itself}
use Rattle.std.proofs.lemmas.Option.{slice_get-get_or}
use Rattle.yv_base_graph.specs.Graph.{Graph, IsGraph, HasEdge, LeadsTo, by_edge, by_way, IsMarked, AreReached}
use Rattle.yv_base_graph.specs.Marks.{is_marked}
use Rattle.yv_text_statement.specs.Tree.{Tree}
use Rattle.yv_text_statement.specs.Words.{is_among}
use Rattle.yv_search.specs.Statements.{Borrows}
use Rattle.yv_search.specs.Roles.{FileSet, is_there, HasFile, MayBeLedTo, Role, Implemented, Lender, Has, of_named, led_to, by_lender, lends, IsRequired, IsLender, IsTestOfRequired}
use Rattle.yv_search.specs.InnerModules.{number_in, ref_at, ref_of}
use Rattle.yv_search.specs.InnerGraph.{number_of, IsWithin, IsListed, IsGraphOf}
use Rattle.yv_search.specs.InnerRoles.{has_mark}
use Rattle.yv_search.specs.declared.table.ModuleRef.{ModuleRef}
use Rattle.yv_search.specs.declared.edges.Node.{Node}
use Rattle.yv_search.specs.declared.edges.Node.TheVariants as node
use Rattle.yv_search.specs.declared.edges.Edge.{Edge}
use Rattle.yv_search.proofs.Items.{all_items}
use Rattle.yv_search.proofs.RoleEdges.{edge, edges, Known, known, may_be, one_name, below, number_of_file, number_of_root, ref_is, Says, leads, leads_lent, borrows, borrows_on, AllSay, of_start, of_file, all_say, start_there, file_there, leads_there, lent_there, borrows_there, borrows_on_there}

module _ (f : FileSet) where
  -- a node says no more than what its module has
  abbrev Holds : Node → Type 0
  Holds node.Start = Unit {0}
  Holds (node.Required i) = (m : List ℕ) → number_in f.roots m ≡ Some i → IsRequired f m
  Holds (node.Lender i) = (m : List ℕ) → number_in f.roots m ≡ Some i → IsLender f m

  required_by : (m : List ℕ) (ref : ModuleRef) → ref_of f.roots f.import_only m ≡ Some ref → IsRequired f m → Holds (node.Required ref.number)
  required_by m ref re h = λ x at. subst (λ (z : List ℕ). IsRequired f z) (let k : Known f m ref = known f m ref re in one_name f m x ref.number k.number at) h

  lender_by : (m : List ℕ) (ref : ModuleRef) → ref_of f.roots f.import_only m ≡ Some ref → IsLender f m → Holds (node.Lender ref.number)
  lender_by m ref re h = λ x at. subst (λ (z : List ℕ). IsLender f z) (let k : Known f m ref = known f m ref re in one_name f m x ref.number k.number at) h

  number_at : (m : List ℕ) (ref : ModuleRef) → ref_of f.roots f.import_only m ≡ Some ref → number_in f.roots m ≡ Some ref.number
  number_at m ref re = let k : Known f m ref = known f m ref re in k.number

  may_have : (m : List ℕ) (ref : ModuleRef) → ref_of f.roots f.import_only m ≡ Some ref → (ref.is_there && ref.is_free) ≡ true → MayBeLedTo f m
  may_have m ref re may = may_be f m ref (known f m ref re) may

  says_on : (root : Tree) (x : List ℕ) (k : ModuleRef) (e : Edge) → HasFile f.roots x root → ref_of f.roots f.import_only x ≡ Some k → Says f root k.number e → Holds e.from → Holds e.to
  says_on root x k e file kx (leads m ref l re may is) = subst (λ (z : Edge). Holds z.from → Holds z.to) is (λ h. required_by m ref re (led_to root x m (h x (number_at x k kx)) file l (may_have m ref re may)))
  says_on root x k e file kx (leads_lent m ref l re may is) = subst (λ (z : Edge). Holds z.from → Holds z.to) is (λ h. required_by m ref re (by_lender root x m (h x (number_at x k kx)) file l (may_have m ref re may)))
  says_on root x k e file kx (borrows m ref b re is) = subst (λ (z : Edge). Holds z.from → Holds z.to) is (λ h. lender_by m ref re (lends Implemented root x m (h x (number_at x k kx)) file b))
  says_on root x k e file kx (borrows_on m ref b re is) = subst (λ (z : Edge). Holds z.from → Holds z.to) is (λ h. lender_by m ref re (lends Lender root x m (h x (number_at x k kx)) file b))

  not_so : (b : Bool) → not b ≡ true → b ≡ false
  not_so true h = absurd (false≢true h)
  not_so false h = refl

  -- an edge goes from what holds to what holds
  holds_on : (e : Edge) → AllSay f e → Holds e.from → Holds e.to
  holds_on e (of_start root x ref file re free is) = subst (λ (z : Edge). Holds z.from → Holds z.to) is (λ _. required_by x ref re (of_named root x file (let k : Known f x ref = known f x ref re in not_so (is_among f.import_only x) (sym k.free ∙ free))))
  holds_on e (of_file root x ref file re says) = says_on root x ref e file re says

  ref_below : (m : List ℕ) (ref : ModuleRef) → ref_of f.roots f.import_only m ≡ Some ref → ref.number < length f.roots
  ref_below m ref re = below f m ref.number (number_at m ref re)

  says_within : (root : Tree) (k : ℕ) (e : Edge) → k < length f.roots → Says f root k e → IsWithin (length f.roots) e.from × IsWithin (length f.roots) e.to
  says_within root k e h (leads m ref l re may is) = subst (λ (z : Edge). IsWithin (length f.roots) z.from × IsWithin (length f.roots) z.to) is (h, ref_below m ref re)
  says_within root k e h (leads_lent m ref l re may is) = subst (λ (z : Edge). IsWithin (length f.roots) z.from × IsWithin (length f.roots) z.to) is (h, ref_below m ref re)
  says_within root k e h (borrows m ref b re is) = subst (λ (z : Edge). IsWithin (length f.roots) z.from × IsWithin (length f.roots) z.to) is (h, ref_below m ref re)
  says_within root k e h (borrows_on m ref b re is) = subst (λ (z : Edge). IsWithin (length f.roots) z.from × IsWithin (length f.roots) z.to) is (h, ref_below m ref re)

  edge_within : (e : Edge) → AllSay f e → IsWithin (length f.roots) e.from × IsWithin (length f.roots) e.to
  edge_within e (of_start root x ref file re free is) = subst (λ (z : Edge). IsWithin (length f.roots) z.from × IsWithin (length f.roots) z.to) is (tt, ref_below x ref re)
  edge_within e (of_file root x ref file re says) = says_within root ref.number e (ref_below x ref re) says

  pub all_within : All (λ e. IsWithin (length f.roots) e.from × IsWithin (length f.roots) e.to) (edges f)
  all_within = all_items (λ (e : Edge). IsWithin (length f.roots) e.from × IsWithin (length f.roots) e.to) (edges f) (λ e h. edge_within e (all_say f e h))

  -- two nodes with one number are one
  same_node : (n : ℕ) (u v : Node) → IsWithin n u → IsWithin n v → number_of n u ≡ number_of n v → u ≡ v
  same_node n node.Start node.Start a b e = refl
  same_node n node.Start (node.Required j) a b e = absurd (omega (arith, b, e))
  same_node n node.Start (node.Lender j) a b e = absurd (omega (arith, b, e))
  same_node n (node.Required i) node.Start a b e = absurd (omega (arith, a, e))
  same_node n (node.Required i) (node.Required j) a b e = ap (λ (k : ℕ). node.Required k) e
  same_node n (node.Required i) (node.Lender j) a b e = absurd (omega (arith, a, b, e))
  same_node n (node.Lender i) node.Start a b e = absurd (omega (arith, a, e))
  same_node n (node.Lender i) (node.Required j) a b e = absurd (omega (arith, a, b, e))
  same_node n (node.Lender i) (node.Lender j) a b e = ap (λ (k : ℕ). node.Lender k) (omega (arith, e))

  -- a number says no more than what its module has
  record HoldsAt (a : ℕ) : Type 0 where
    pub holds : (u : Node) → IsWithin (length f.roots) u → number_of (length f.roots) u ≡ a → Holds u

  module _ (g : Graph) (is : IsGraphOf (length f.roots) (edges f) g) where
    hold_next : (a b : ℕ) → HasEdge g a b → HoldsAt a → HoldsAt b
    hold_next a b e h = record {
      holds = λ u within number.
          let l : IsListed (length f.roots) (edges f) a b = is.sound a b e in
          let says : AllSay f l.edge = all_say f l.edge l.among in
          let bounds : IsWithin (length f.roots) l.edge.from × IsWithin (length f.roots) l.edge.to = edge_within l.edge says in
          let to : Holds l.edge.to = holds_on l.edge says (h.holds l.edge.from bounds.0 l.from) in
          subst Holds (same_node (length f.roots) l.edge.to u bounds.1 within (l.to ∙ sym number)) to;
    }

    hold_along : (a b : ℕ) → HoldsAt a → LeadsTo g a b → HoldsAt b
    hold_along a b h (by_edge e) = hold_next a b e h
    hold_along a c h (by_way {b = b} e w) = hold_along b c (hold_next a b e h) w

    from_start : HoldsAt (number_of (length f.roots) node.Start)
    from_start = record { holds = λ u within number. subst Holds (same_node (length f.roots) node.Start u tt within (sym number)) tt }

    snoc : (a b c : ℕ) → LeadsTo g a b → HasEdge g b c → LeadsTo g a c
    snoc a b c (by_edge e) h = by_way e (by_edge h)
    snoc a b c (by_way {b = d} e w) h = by_way e (snoc d b c w h)

    abbrev node_for : Role → ℕ → Node
    node_for Implemented i = node.Required i
    node_for Lender i = node.Lender i

    -- the edge from a node that the start leads to
    on : (u v : Node) → LeadsTo g (number_of (length f.roots) node.Start) (number_of (length f.roots) u) → Contains (edges f) (edge u v) → LeadsTo g (number_of (length f.roots) node.Start) (number_of (length f.roots) v)
    on u v w h = snoc (number_of (length f.roots) node.Start) (number_of (length f.roots) u) (number_of (length f.roots) v) w (is.complete (edge u v) h)

    flags : (m : List ℕ) → MayBeLedTo f m → (is_there f.roots m && not (is_among f.import_only m)) ≡ true
    flags m may = ap (λ (b : Bool). b && not (is_among f.import_only m)) may.there ∙ ap not may.free

    lend_edge : (role : Role) (root : Tree) (k : ℕ) (m : List ℕ) (ref : ModuleRef) (x : List ℕ) → number_in f.roots x ≡ Some k → HasFile f.roots x root → Borrows root m → ref_of f.roots f.import_only m ≡ Some ref → Contains (edges f) (edge (node_for role k) (node.Lender ref.number))
    lend_edge Implemented root k m ref x kx file b re = file_there f root x (ref_at f.roots f.import_only x k) (edge (node.Required k) (node.Lender ref.number)) file (ref_is f x k kx) (borrows_there f root k m ref b re)
    lend_edge Lender root k m ref x kx file b re = file_there f root x (ref_at f.roots f.import_only x k) (edge (node.Lender k) (node.Lender ref.number)) file (ref_is f x k kx) (borrows_on_there f root k m ref b re)

    node_below : (n : ℕ) (u : Node) → IsWithin n u → number_of n u < n + n + 1
    node_below n node.Start w = omega arith
    node_below n (node.Required i) w = omega (arith, w)
    node_below n (node.Lender i) w = omega (arith, w)

    -- edges go to nodes of the graph
    pub graph_fits : IsGraph g
    graph_fits = λ k d h j e l.
        let b : ℕ = get_or (get_or g k d).items j e in
        let listed : IsListed (length f.roots) (edges f) k b = is.sound k b (get_or g k d, slice_get-get_or g k d h, All-contains_itself (get_or g k d).items j e l) in
        let bounds : IsWithin (length f.roots) listed.edge.from × IsWithin (length f.roots) listed.edge.to = edge_within listed.edge (all_say f listed.edge listed.among) in
        let low : number_of (length f.roots) listed.edge.to < length f.roots + length f.roots + 1 = node_below (length f.roots) listed.edge.to bounds.1 in
        let same : number_of (length f.roots) listed.edge.to ≡ b = listed.to in
        let each : length g ≡ length f.roots + length f.roots + 1 = is.each in
        omega (arith, low, same, each)

    -- the start leads to what has a role
    reach : (role : Role) (m : List ℕ) → Has f role m → (i : ℕ) → number_in f.roots m ≡ Some i → LeadsTo g (number_of (length f.roots) node.Start) (number_of (length f.roots) (node_for role i))
    reach _ _ (of_named root m file free) i at = by_edge (is.complete (edge node.Start (node.Required i)) (start_there f root m (ref_at f.roots f.import_only m i) file (ref_is f m i at) (ap not free)))
    reach _ _ (led_to root x m h file l may) i at =
        let k : (k : ℕ) × (number_in f.roots x ≡ Some k) = number_of_file f x root file in
        on (node.Required k.0) (node.Required i) (reach Implemented x h k.0 k.1)
        (file_there f root x (ref_at f.roots f.import_only x k.0) (edge (node.Required k.0) (node.Required i)) file (ref_is f x k.0 k.1) (leads_there f root k.0 m (ref_at f.roots f.import_only m i) l (ref_is f m i at) (flags m may)))
    reach _ _ (by_lender root x m h file l may) i at =
        let k : (k : ℕ) × (number_in f.roots x ≡ Some k) = number_of_file f x root file in
        on (node.Lender k.0) (node.Required i) (reach Lender x h k.0 k.1)
        (file_there f root x (ref_at f.roots f.import_only x k.0) (edge (node.Lender k.0) (node.Required i)) file (ref_is f x k.0 k.1) (lent_there f root k.0 m (ref_at f.roots f.import_only m i) l (ref_is f m i at) (flags m may)))
    reach _ _ (lends role root x m h file b) i at =
        let k : (k : ℕ) × (number_in f.roots x ≡ Some k) = number_of_file f x root file in
        on (node_for role k.0) (node.Lender i) (reach role x h k.0 k.1) (lend_edge role root k.0 m (ref_at f.roots f.import_only m i) x k.1 file b (ref_is f m i at))

    -- a required module has a number
    numbered : (role : Role) (m : List ℕ) → Has f role m → role ≡ Implemented → ((root : Tree) → HasFile (take f.named f.roots) m root → HasFile f.roots m root) → (i : ℕ) × (number_in f.roots m ≡ Some i)
    numbered _ _ (of_named root m file free) e whole = number_of_file f m root (whole root file)
    numbered _ _ (led_to root x m h file l may) e whole = number_of_root f m may.there
    numbered _ _ (by_lender root x m h file l may) e whole = number_of_root f m may.there
    numbered _ _ (lends role root x m h file b) e whole = absurd (cc)

    whole_file : (m : List ℕ) (root : Tree) → HasFile (take f.named f.roots) m root → HasFile f.roots m root
    whole_file m root h = record {
      among = subst (λ (l : List (Option Tree)). Contains l (Some root)) (take-append-drop f.named f.roots) (Contains-append_left (take f.named f.roots) (drop f.named f.roots) (Some root) h.among);
      module_is = h.module_is;
    }

    pub marks_tell : (marks : List Bool) (test : List ℕ → Bool) → AreReached g (number_of (length f.roots) node.Start) marks → ((m : List ℕ) → test m ≡ has_mark marks (ref_of f.roots f.import_only m)) → IsTestOfRequired f test
    marks_tell marks test reached tests = record {
      sound = λ m h. sound m (number_in f.roots m) refl (sym (tests m) ∙ h);
      complete = λ m h.
          let i : (i : ℕ) × (number_in f.roots m ≡ Some i) = numbered Implemented m h refl (whole_file m) in
          tests m ∙ ap (has_mark marks) (ref_is f m i.0 i.1) ∙ reached.marked i.0 (reach Implemented m h i.0 i.1);
    }
      where
        sound : (m : List ℕ) (o : Option ℕ) → number_in f.roots m ≡ o → has_mark marks (option_map (ref_at f.roots f.import_only m) o) ≡ true → IsRequired f m
        sound m None at h = absurd (false≢true h)
        sound m (Some i) at h =
            let w : LeadsTo g (number_of (length f.roots) node.Start) i = reached.led_to i h in
            let r : HoldsAt i = hold_along (number_of (length f.roots) node.Start) i from_start w in
            r.holds (node.Required i) (below f m i at) refl m at
