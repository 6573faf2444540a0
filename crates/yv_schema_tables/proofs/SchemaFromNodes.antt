-- What is built of numbered nodes is a schema, and stands for their tree.
use Rattle.std.proofs.Common.{◌≡◌, ℕ, ◌+◌, ◌≤◌, ◌⊎◌, inl, inr, List, [], ◌∷◌, ◌++◌, length, map, refl, sym, ap, ◌∙◌, subst, arith, All, true, false, Option, Some, None}
use Rattle.std.specs.List.{AllByRecursion, slice_get}
use Rattle.std.proofs.lemmas.Bool.{cases_Bool, false≢true}
use Rattle.std.proofs.lemmas.List.Elements.{All-from_recursion}
use Rattle.std.proofs.lemmas.Option.{slice_get_within}
use Rattle.yv_text_statement.specs.declared.refusal.Refusal.{Refusal}
use Rattle.yv_text_statement.specs.Order.{Among, IsLeast, IsLesser}
use Rattle.yv_text_statement.proofs.Least.{least_lesser, least_same}
use Rattle.yv_node_content.specs.Kinds.{is_passed}
use Rattle.yv_nodes.specs.declared.node.NodeId.{NodeId}
use Rattle.yv_nodes.specs.Member.{data_module_file}
use Rattle.yv_nodes.specs.Tree.{count, Forest, Label, labels, node, no_trees, tree}
use Rattle.yv_nodes.specs.Places.{Place, places}
use Rattle.yv_nodes.specs.Rows.{below, children_of, is_root, Module, Note, rank, root, Row, row_at, Rows, whole}
use Rattle.yv_nodes.specs.Link.{AreLinked, Link, reference_in}
use Rattle.yv_nodes.specs.Numbers.{numbers_from, rows_below, rows_from, rows_of}
use Rattle.yv_node_keys.specs.LeafNames.{HaveLeafs}
use Rattle.yv_node_keys.specs.Bad.{BadLeafs}
use Rattle.yv_schema_tables.specs.declared.directory.Directory.{Directory}
use Rattle.yv_schema_tables.specs.declared.names.NameTable.{NameTable}
use Rattle.yv_schema_tables.specs.Bad.{BadRows}
use Rattle.yv_schema_tables.specs.DuplicateNodes.{HasDuplicate, HasRepeat, names_that_differ}
use Rattle.yv_schema_tables.specs.InnerNames.{HaveNumbers, get_by_name, names_of}
use Rattle.yv_schema_tables.specs.InnerSits.{HaveTrees, Sits, family_in, inside_of, members_of, pick_trees}
use Rattle.yv_schema_tables.specs.InnerTables.{AreDirectories, ModuleTable, IsDirectory, IsKept, Namesakes, module_file_named, labels_at}
use Rattle.yv_schema_tables.specs.NodeNumbers.{AreFormed, AreModules, AreNumbered, HasNoColon, made_of}
use Rattle.yv_schema_tables.specs.DataChildren.{opened_from, opened_trees}
use Rattle.yv_schema_tables.specs.Sound.{IsNote, inside, is_object, member_named}
use Rattle.yv_schema_tables.proofs.Colons.{rank_below}
use Rattle.yv_schema_tables.proofs.SiblingNamesakes.{Any, AreDistinct, IsOf, among_any, any_among, any_map, families_sit, family_at, family_plain, kept_each, kept_opened, namesakes_repeated, pair_repeated, repeated_namesakes}
use Rattle.yv_schema_tables.proofs.ChildLookup.{answering, unknown_named}
use Rattle.yv_schema_tables.proofs.NodeMemberNames.{IsAround, around_of, data_here, distinct_in, family_of, opened_of, place_formed}
use Rattle.yv_schema_tables.proofs.Members.{append_all, labels_opened}
use Rattle.yv_schema_tables.proofs.Numbers.{length_rows, whole_rows}
use Rattle.yv_schema_tables.proofs.RowSoundness.{IsParent, IsPlaced, inside_nothing, inside_object, inside_parent, below_in, parent_in, sound_rows}
use Rattle.yv_schema_tables.proofs.PickedTrees.{all_sit, kids_sit, others_sit, picked_sit}

rows_have : (rows : List Row) (parent : NodeId) (at : ℕ) (ts : Forest) → Sits rows at ts → AllByRecursion (λ (row : Row). HaveTrees rows row.children) (rows_below parent at ts)
rows_have rows parent at no_trees h = tt
rows_have rows parent at (tree (node l kids) ts) h =
    let own : NodeId = record { 0 = at } in (
      record { at = at + 1; trees = kids; are = refl; sit = kids_sit rows at l kids ts h },
      append_all (λ (row : Row). HaveTrees rows row.children) (rows_below own (at + 1) kids) (rows_below parent (at + 1 + count kids) ts) (rows_have rows own (at + 1) kids (kids_sit rows at l kids ts h))
          (rows_have rows parent (at + 1 + count kids) ts (others_sit rows at l kids ts h)),
    )

-- what was built: the rows of trees of these modules, within the limit
pub record IsBuilt (limit : ℕ) (modules : List Module) (ts : Forest) (nodes : List Row) (top : List NodeId) : Type 0 where
  pub apart : AreModules modules
  pub formed : AreFormed modules [] ts
  pub rows : nodes ≡ rows_from 0 ts
  pub top_is : top ≡ numbers_from 0 ts
  pub small : length nodes ≤ 4294967295
  pub limited : length nodes ≤ limit

-- rows have one tree
one_tree : (nodes : List Row) (top : List NodeId) (ts us : Forest) → nodes ≡ rows_from 0 ts → top ≡ numbers_from 0 ts → nodes ≡ rows_from 0 us → top ≡ numbers_from 0 us → ts ≡ us
one_tree nodes top ts us rows_ts top_ts rows_us top_us =
    sym (whole_rows 0 [] [] [] ts)
    ∙ ap (λ (rs : List Row). pick_trees rs (numbers_from 0 ts)) (sym rows_ts ∙ rows_us)
    ∙ ap (λ (cs : List NodeId). pick_trees (rows_from 0 us) cs) (sym top_ts ∙ top_us)
    ∙ whole_rows 0 [] [] [] us

-- so what is formed is the tree that is asked for
pub built_of : (limit : ℕ) (modules : List Module) (nodes : List Row) (top : List NodeId) (links : List (Option Link)) (ts : Forest) → AreModules modules → AreNumbered modules nodes top links → length nodes ≤ 4294967295 → length nodes ≤ limit
    → nodes ≡ rows_from 0 ts → top ≡ numbers_from 0 ts → IsBuilt limit modules ts nodes top
built_of limit modules nodes top links ts apart are small limited rows top_is = record {
  apart = apart;
  formed = subst (λ (us : Forest). AreFormed modules [] us) (one_tree nodes top are.trees ts are.rows are.top_is rows top_is) are.formed;
  rows = rows;
  top_is = top_is;
  small = small;
  limited = limited;
}

module _ (limit : ℕ) (modules : List Module) (all : Forest) (nodes : List Row) (top : List NodeId) (b : IsBuilt limit modules all nodes top) where
  sit : Sits nodes 0 all
  sit = subst (λ (rows : List Row). Sits rows 0 all) (sym b.rows) (all_sit all)

  many : length nodes ≡ count all
  many = ap length b.rows ∙ length_rows root 0 all

  pub built_top : HaveTrees nodes top
  built_top = record { at = 0; trees = all; are = b.top_is; sit = sit }

  pub built_rows : All (λ (row : Row). HaveTrees nodes row.children) nodes
  built_rows =
      subst (λ (rows : List Row). All (λ (row : Row). HaveTrees nodes row.children) rows) (sym b.rows)
      (All-from_recursion (λ (row : Row). HaveTrees nodes row.children) (rows_from 0 all) (rows_have nodes root 0 all sit))

  picked_top : pick_trees nodes top ≡ all
  picked_top = ap (pick_trees nodes) b.top_is ∙ picked_sit nodes 0 all sit

  abbrev AtTop : Refusal → Type 0
  AtTop f = Namesakes (names_that_differ (pick_trees nodes top)) f

  abbrev Below : Refusal → Type 0
  Below f = Among nodes (λ k (row : Row). Namesakes (family_in nodes row)) (length nodes) f

  families_are : map (family_in nodes) nodes ≡ map family_at (places all)
  families_are = ap (map (family_in nodes)) b.rows ∙ families_sit nodes root [] 0 all sit

  top_of : AllByRecursion (IsOf modules) (names_that_differ all)
  top_of = around_of modules None (names_that_differ all) (opened_of modules [] all b.formed)

  place_of : (k : ℕ) (p : Place) → slice_get (places all) k ≡ Some p → AllByRecursion (IsOf modules) (family_at p)
  place_of k p at = family_of modules p.label.defined.kind (p.label ∷ p.above) p.kids (place_formed modules [] all k p b.formed at)

  to_duplicate : (f : Refusal) → AtTop f ⊎ Below f → HasDuplicate all f
  to_duplicate f (inl h) = inl (namesakes_repeated modules (names_that_differ all) f b.apart top_of (subst (λ (ts : Forest). Namesakes (names_that_differ ts) f) picked_top h))
  to_duplicate f (inr h) =
      let any : Any (places all) (λ p. Namesakes (family_at p)) f =
      any_map (family_in nodes) family_at nodes (places all) Namesakes f families_are (among_any nodes (λ (row : Row). Namesakes (family_in nodes row)) (length nodes) f h) in
      inr (any_among (places all) (λ p. HasRepeat (family_at p)) (length (places all)) f refl (any.0, any.1, any.2, namesakes_repeated modules (family_at any.1) f b.apart (place_of any.0 any.1 any.2) any.3))

  from_duplicate : (f : Refusal) → HasDuplicate all f → AtTop f ⊎ Below f
  from_duplicate f (inl h) = inl (subst (λ (ts : Forest). Namesakes (names_that_differ ts) f) (sym picked_top) (repeated_namesakes modules (names_that_differ all) f b.apart top_of h))
  from_duplicate f (inr h) =
      let at : Any (places all) (λ p. HasRepeat (family_at p)) f = among_any (places all) (λ p. HasRepeat (family_at p)) (length (places all)) f h in
      let any : Any (places all) (λ p. Namesakes (family_at p)) f = (at.0, at.1, at.2, repeated_namesakes modules (family_at at.1) f b.apart (place_of at.0 at.1 at.2) at.3) in
      inr (any_among nodes (λ (row : Row). Namesakes (family_in nodes row)) (length nodes) f refl (any_map family_at (family_in nodes) (places all) nodes Namesakes f (sym families_are) any))

  -- the least node that repeats a name, at the top or below
  pub built_duplicate : (first second both : Option Refusal) → IsLesser first second both → IsLeast (Namesakes (names_that_differ (pick_trees nodes top))) first
      → IsLeast (Among nodes (λ k (row : Row). Namesakes (family_in nodes row)) (length nodes)) second → IsLeast (HasDuplicate all) both
  built_duplicate first second both lesser p q =
      least_same (λ f. AtTop f ⊎ Below f) (HasDuplicate all) both to_duplicate from_duplicate (least_lesser AtTop Below first second both lesser p q)

  -- the least refusal of nodes that repeat a name, and of lists
  pub built_bad : (first second duplicate leafs every : Option Refusal) → IsLesser first second duplicate → IsLesser duplicate leafs every → IsLeast (Namesakes (names_that_differ (pick_trees nodes top))) first
      → IsLeast (Among nodes (λ k (row : Row). Namesakes (family_in nodes row)) (length nodes)) second → IsLeast (BadLeafs all) leafs → IsLeast (BadRows all) every
  built_bad first second duplicate leafs every lesser other p q r =
      least_lesser (HasDuplicate all) (BadLeafs all) duplicate leafs every other (built_duplicate first second duplicate lesser p q) r

  same : (notes : List Note) (links : List (Option Link)) → rows_of limit modules notes links all ≡ made_of nodes top limit modules notes links
  same notes links = ap (λ (ns : List Row). made_of ns (numbers_from 0 all) limit modules notes links) (sym b.rows)
      ∙ ap (λ (cs : List NodeId). made_of nodes cs limit modules notes links) (sym b.top_is)

  pub whole_made : (notes : List Note) (links : List (Option Link)) → whole (made_of nodes top limit modules notes links) ≡ all
  whole_made notes links = ap whole (sym (same notes links)) ∙ whole_rows limit modules notes links all

  module _ (clear : (f : Refusal) → HasDuplicate all f → ⊥) (leafs : HaveLeafs nodes) (notes : List Note) (links : List (Option Link)) (linked : AreLinked (reference_in links) all) where
    none_top : AreDistinct (labels (opened_trees all))
    none_top = distinct_in modules b.apart None all (opened_of modules [] all b.formed) (λ f p. clear f (inl (pair_repeated (names_that_differ all) f p)))

    none_below : (k : ℕ) (q : Place) → slice_get (places all) k ≡ Some q → is_passed q.label.defined.kind ≡ false → AreDistinct (labels (opened_trees q.kids))
    none_below k q at met =
        let is : family_at q ≡ names_that_differ q.kids = family_plain q.label.defined.kind q.kids met in
        distinct_in modules b.apart (data_module_file (q.label ∷ q.above)) q.kids (opened_of modules (q.label ∷ q.above) q.kids (place_formed modules [] all k q b.formed at))
        (λ f p. clear f (inr (any_among (places all) (λ r. HasRepeat (family_at r)) (length (places all)) f refl (k, q, at, subst (λ (ls : List Label). HasRepeat ls f) (sym is) (pair_repeated (names_that_differ q.kids) f p)))))

    abbrev built : Rows
    built = rows_of limit modules notes links all

    -- nodes that are opened where they sit
    around_sit : (above : List Label) (at : ℕ) (ts : Forest) → AreFormed modules above ts → Sits built.nodes at ts → AllByRecursion (IsAround modules (data_module_file above)) (labels_at built.nodes (opened_from at ts))
    around_sit above at ts formed here =
        rw (labels_opened built.nodes at ts here, kept_opened ts) (kept_each (IsAround modules (data_module_file above)) (names_that_differ ts) (opened_of modules above ts formed))

    inside_top : inside built root ≡ opened_from 0 all
    inside_top = ap (opened_from 0) (whole_rows limit modules notes links all)

    around_top : AllByRecursion (IsAround modules None) (labels_at built.nodes (inside built root))
    around_top = subst (λ (cs : List NodeId). AllByRecursion (IsAround modules None) (labels_at built.nodes cs)) (sym inside_top) (around_sit [] 0 all b.formed (all_sit all))

    abbrev module_file_at : NodeId → Option ℕ
    module_file_at p = Some (row_at built p).label.module_file

    around_object : (p : NodeId) → rank p ≤ length built.nodes → is_root p ≡ false → is_passed (row_at built p).label.defined.kind ≡ false
        → AllByRecursion (IsAround modules (module_file_at p)) (labels_at built.nodes (opened_from (rank p) (below built p)))
    around_object p within inner met =
        let parent : IsParent built all p = parent_in limit modules notes links all p within in
        rw (below_in limit modules notes links all p parent) (by parent.kids parent.which parent.sit)
      where
        by : (kids : Forest) → ((is_root p ≡ true) × (kids ≡ all)) ⊎ IsPlaced built all p kids → Sits built.nodes (rank p) kids → AllByRecursion (IsAround modules (module_file_at p)) (labels_at built.nodes (opened_from (rank p) kids))
        by kids (inl h) here = absurd (false≢true (sym inner ∙ h.0))
        by kids (inr h) here =
            let own : Label = h.place.label in
            let plain : is_passed own.defined.kind ≡ false = ap (λ (l : Label). is_passed l.defined.kind) (sym h.label) ∙ met in
            let is : data_module_file (own ∷ h.place.above) ≡ module_file_at p = data_here own h.place.above plain ∙ ap (λ (l : Label). Some l.module_file) (sym h.label) in
            let formed : AreFormed modules (own ∷ h.place.above) kids = subst (λ (ts : Forest). AreFormed modules (own ∷ h.place.above) ts) h.is_below (place_formed modules [] all h.index h.place b.formed h.found) in
            subst (λ (o : Option ℕ). AllByRecursion (IsAround modules o) (labels_at built.nodes (opened_from (rank p) kids))) is (around_sit (own ∷ h.place.above) (rank p) kids formed here)

    -- what is in an object below the top has its module around
    around_below : (p : NodeId) → rank p ≤ length built.nodes → is_root p ≡ false → AllByRecursion (IsAround modules (module_file_at p)) (labels_at built.nodes (inside built p))
    around_below p within inner = elim (cases_Bool (is_passed (row_at built p).label.defined.kind)) [
      | inl passed ↦
          let none : is_object built p ≡ false = rw (inner, passed) refl in
          subst (λ (cs : List NodeId). AllByRecursion (IsAround modules (module_file_at p)) (labels_at built.nodes cs)) (sym (inside_nothing built p none)) tt
      | inr met ↦
          let object : is_object built p ≡ true = rw (inner, met) refl in
          subst (λ (cs : List NodeId). AllByRecursion (IsAround modules (module_file_at p)) (labels_at built.nodes cs)) (sym (inside_object built p object)) (around_object p within inner met)
    ]

    members_inside : (p : NodeId) → rank p ≤ length built.nodes → is_root p ≡ false → members_of built.nodes (row_at built p) ≡ inside built p
    members_inside p within inner = elim (cases_Bool (is_passed (row_at built p).label.defined.kind)) [
      | inl passed ↦
          let none : is_object built p ≡ false = rw (inner, passed) refl in
          let first : members_of built.nodes (row_at built p) ≡ [] = rw passed refl in
          first ∙ sym (inside_nothing built p none)
      | inr met ↦
          let object : is_object built p ≡ true = rw (inner, met) refl in
          let first : members_of built.nodes (row_at built p) ≡ inside_of built.nodes (row_at built p).children = rw met refl in
          let children : children_of built p ≡ (row_at built p).children = rw inner refl in
          first ∙ ap (inside_of built.nodes) (sym children) ∙ inside_parent limit modules notes links all p within object
    ]

    unknown_built : (p : NodeId) (owner name : List ℕ) → rank p ≤ length built.nodes → HasNoColon owner → module_file_named modules owner ≡ None → member_named built (inside built p) (owner ++ 58 ∷ name) ≡ None
    unknown_built p owner name within plain unknown = elim (cases_Bool (is_root p)) [
      | inl at_root ↦
          let here : inside built p ≡ inside built root = rw at_root refl in
          ap (λ (cs : List NodeId). member_named built cs (owner ++ 58 ∷ name)) here ∙ unknown_named built b.apart None root around_top owner name plain unknown
      | inr inner ↦ unknown_named built b.apart (module_file_at p) p (around_below p within inner) owner name plain unknown
    ]

    kept_built : All (IsNote built) notes → (module_files : ModuleTable) (names : NameTable) (at_top : Directory) (directories : List Directory) → ((name : List ℕ) → get_by_name module_files name ≡ module_file_named modules name)
        → HaveNumbers (names_of built.nodes) names → IsDirectory built.nodes None (inside_of built.nodes built.top) at_top → AreDirectories built.nodes directories → IsKept module_files names at_top directories built
    kept_built given module_files names at_top directories known numbered first are =
        let at_root : inside_of built.nodes built.top ≡ inside built root = inside_parent limit modules notes links all root (omega arith) refl in
        record {
          sound = sound_rows limit modules notes links all none_top none_below (omega (arith, b.small, many)) (omega (arith, b.limited, many)) (subst HaveLeafs b.rows leafs) given linked;
          counted = length_rows root 0 all ∙ ap count (sym (whole_rows limit modules notes links all));
          each = are.each;
          module_files_are = known;
          names_are = numbered;
          top = answering built b.apart None root around_top at_top (subst (λ (cs : List NodeId). IsDirectory built.nodes None cs at_top) at_root first);
          below = λ p directory inner at.
              let within : rank p ≤ length built.nodes = omega (arith, rank_below p inner, slice_get_within directories p.0 directory at, are.each) in
              answering built b.apart (module_file_at p) p (around_below p within inner) directory
              (subst (λ (cs : List NodeId). IsDirectory built.nodes (module_file_at p) cs directory) (members_inside p within inner) (are.gives p.0 directory at));
          unknown = unknown_built;
        }

    pub kept_made : All (IsNote (made_of nodes top limit modules notes links)) notes → (module_files : ModuleTable) (names : NameTable) (at_top : Directory) (directories : List Directory) → ((name : List ℕ) → get_by_name module_files name ≡ module_file_named modules name)
        → HaveNumbers (names_of nodes) names → IsDirectory nodes None (inside_of nodes top) at_top → AreDirectories nodes directories → IsKept module_files names at_top directories (made_of nodes top limit modules notes links)
    kept_made given module_files names at_top directories known numbered first are =
        subst (λ (s : Rows). IsKept module_files names at_top directories s) (same notes links)
        (kept_built (subst (λ (s : Rows). All (IsNote s) notes) (sym (same notes links)) given) module_files names at_top directories known
        (subst (λ (s : Rows). HaveNumbers (names_of s.nodes) names) (sym (same notes links)) numbered)
        (subst (λ (s : Rows). IsDirectory s.nodes None (inside_of s.nodes s.top) at_top) (sym (same notes links)) first) (subst (λ (rows : List Row). AreDirectories rows directories) b.rows are))
