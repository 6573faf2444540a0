-- The files of modules show what they give, and the blocks of their augments what these give.
use Rattle.std.proofs.Common.{◌≡◌, ℕ, zero, suc, ◌+◌, ◌<◌, ◌≤◌, Bool, true, false, if◌then◌else◌, List, [], ◌∷◌, length, map, get_or, refl, sym, ◌∙◌, ap, subst, arith, Option, Some, None}
use Rattle.std.specs.List.{Contains, slice_get}
use Rattle.std.proofs.lemmas.List.{length-map}
use Rattle.std.proofs.lemmas.Option.{same_Some, slice_get_within}
use Rattle.yv_link_scopes.specs.Files.{Briefs, Files, brief_of, module_file_at}
use Rattle.yv_link_scopes.specs.RowList.{rows_of}
use Rattle.yv_link_scopes.specs.Rows.{Row}
use Rattle.yv_link_scopes.proofs.Bodies.{module_file_at_within}
use Rattle.yv_link_scopes.proofs.Within.{rows_of_files, rows_of_roots}
use Rattle.yv_expand_statements.specs.StatementBlocks.{given_at, block_of, top_of, augments_of, is_augment}
use Rattle.yv_expand_statements.specs.Origin.{number_of}
use Rattle.yv_expand.specs.Tree.{Item, Tree, all_of, count, join}
use Rattle.yv_expand.specs.Expansion.{IsWhole}
use Rattle.yv_expand.specs.Expands.{Expands}
use Rattle.yv_expand_rounds.specs.declared.label.Label.{Label}
use Rattle.yv_expand_rounds.specs.Groups.{group_of_augment, members_of}
use Rattle.yv_expand_rounds.specs.Turns.{State}
use Rattle.yv_expand_uses.specs.AugmentOrder.{place_of}
use Rattle.yv_expand_augments.specs.Placement.{augment_at}
use Rattle.yv_expand_uses.specs.Spots.{Whole, layout_of, own_module_file, spot_at, top_group_of, top_group}
use Rattle.yv_expand_uses.specs.declared.spot.Spot.{Spot}
use Rattle.yv_expand_definition.specs.Expansion.{Tops}
use Rattle.yv_expand_definition.specs.Gives.{Gives, Product}
use Rattle.yv_expand_definition.specs.Nodes.{Forest, nodes_given}
use Rattle.yv_expand_definition.specs.Rounds.{IsModuleFile}
use Rattle.yv_expand_definition.proofs.GivenNodeUniqueness.{RefersToOne}
use Rattle.yv_expand_laws.specs.FirstItems.{AllShow, first_state}
use Rattle.yv_expand_laws.specs.Blocks.{Augments, augment, no_augments}
use Rattle.yv_expand_laws.specs.Comes.{Comes}
use Rattle.yv_expand_laws.specs.Files.{AreGiven, ModulesShow, ShowFiles, begins_at, expansion_of, giver_of, labels_in, start_of}
use Rattle.yv_expand_laws.specs.StatementItems.{ShowNodes, around, one_of, under_of}
use Rattle.yv_expand_laws.specs.Marks.{mark_of}
use Rattle.yv_expand_laws.specs.Shows.{Items, Shows}
use Rattle.yv_expand_laws.specs.ItemProperties.{HaveStatements}
use Rattle.yv_expand_laws.proofs.InitialNodes.{beginning_shows}
use Rattle.yv_expand_laws.proofs.FileBlocks.{Begins, begins_are}
use Rattle.yv_expand_laws.proofs.FoundItems.{there_first, there_later}
use Rattle.yv_expand_laws.proofs.Givers.{Spans, begins_first, giver_here, giver_low, giver_place, givers_stand, many_labels, own_givers}
use Rattle.yv_expand_laws.proofs.InsertionOrder.{given_shown, stands_by}
use Rattle.yv_expand_laws.proofs.JoinedBlocks.{count_joined}
use Rattle.yv_expand_laws.proofs.LaterItems.{are, low}
use Rattle.yv_expand_laws.proofs.MakingUses.{parts_make}
use Rattle.yv_expand_laws.proofs.Orders.{augment_in, augments_rise, at_there, block_of_file, place_is, place_none, top_in}
use Rattle.yv_expand_laws.proofs.ExpansionStart.{count_listed}
use Rattle.yv_expand_laws.proofs.Statements.{all_listed_there}
use Rattle.yv_expand_laws.proofs.LabelsAndPaths.{there_is}
use Rattle.yv_expand_laws.proofs.Tops.{AllCome, BlocksMake, FilesMake, TopPart}
use Rattle.yv_expand_laws.proofs.Tops.FilesMake.{no_files_make, one_file}
use Rattle.yv_expand_laws.proofs.Tops.BlocksMake.{no_blocks, one_block}

-- the blocks of augments give these nodes
abbrev BlocksCome : List Label → Items → (made : ℕ → Forest → Type 0) → {lo hi c e k own : ℕ} → Augments lo hi c e k own → Type 0
BlocksCome labels its made no_augments = Unit {0}
BlocksCome labels its made {k = k} (augment mid d names block others) = ((f : Forest) → made k f → Comes labels its _ _ _ _ block f) × BlocksCome labels its made others

-- the group of each augment shows what its block gives
shows_at : (labels : List Label) (its : Items) (st : State) (made : ℕ → Forest → Type 0) {lo hi c e k own : ℕ} (augs : Augments lo hi c e k own) (ts : List Tree) → Spans augs ts
    → AllShow labels its st augs → BlocksCome labels its made augs → (p : ℕ) (f : Forest) → p < length ts → made (k + p) f
    → Shows its st.groups (group_of_augment labels (k + p)) (begins_at lo ts p) (begins_at lo ts (suc p)) f
shows_at labels its st made no_augments ts spans show come p f l m = absurd (let e = ap length spans in omega (arith, e, l))
shows_at labels its st made {lo = lo} {k = k} (augment mid d names block others) ts (t, us, ts_are, mid_so, spans) (shows, show) (comes, come) zero f l m =
    let same : k ≡ k + 0 = omega arith in
    let s = shows f (comes f (subst (λ (n : ℕ). made n f) (sym same) m)) in
    subst (λ (n : ℕ). Shows its st.groups (group_of_augment labels n) (begins_at lo ts zero) (begins_at lo ts (suc zero)) f) same
    (subst (λ (n : ℕ). Shows its st.groups (group_of_augment labels k) n (begins_at lo ts (suc zero)) f) (sym (ap (λ z. begins_at lo z zero) ts_are))
    (subst (λ (n : ℕ). Shows its st.groups (group_of_augment labels k) lo n f) (sym (ap (λ z. begins_at lo z (suc zero)) ts_are ∙ (begins_first (lo + count t) us ∙ mid_so))) s))
shows_at labels its st made {lo = lo} {k = k} (augment mid d names block others) ts (t, us, ts_are, mid_so, spans) (shows, show) (comes, come) (suc p) f l m =
    let same : k + 1 + p ≡ k + suc p = omega arith in
    let e = ap length ts_are in
    let s = shows_at labels its st made others us spans show come p f (omega (arith, e, l)) (subst (λ (n : ℕ). made n f) (sym same) m) in
    let from : (q : ℕ) → begins_at mid us q ≡ begins_at lo ts (suc q) = λ q. sym (ap (λ z. begins_at lo z (suc q)) ts_are ∙ ap (λ (n : ℕ). begins_at n us q) mid_so) in
    subst (λ (n : ℕ). Shows its st.groups (group_of_augment labels n) (begins_at lo ts (suc p)) (begins_at lo ts (suc (suc p))) f) same
    (subst (λ (n : ℕ). Shows its st.groups (group_of_augment labels (k + 1 + p)) n (begins_at lo ts (suc (suc p))) f) (from p)
    (subst (λ (n : ℕ). Shows its st.groups (group_of_augment labels (k + 1 + p)) (begins_at mid us p) n f) (from (suc p)) s))

pub begins_most : (n : ℕ) (ts : List Tree) (k : ℕ) → begins_at n ts k ≤ n + count (all_of ts)
begins_most n [] k = omega arith
begins_most n (t ∷ ts) zero = omega arith
begins_most n (t ∷ ts) (suc k) = (let h = begins_most (n + count t) ts k in let e = count_joined t (all_of ts) in omega (arith, h, e))

-- an item that no augment of a module gives
abbrev pub ungiven : Items → Items
ungiven its = record its { node_of = λ i. record (its.node_of i) { giver = None } }

under_same : (rows : List Row) (its : Items) (r : Option Row) (parent : Option ℕ) (o : Option Spot) → under_of rows its r parent o ≡ under_of rows (ungiven its) r parent o
under_same rows its r None o = refl
under_same rows its r (Some p) None = refl
under_same rows its r (Some p) (Some s) = refl

module _ (files : Files) (marks : List Bool) (order : List ℕ) (own : ℕ) (items : List Item) (its : Items) (given : AreGiven files marks order) (expanded : IsWhole files marks order own items)
    (shown : ShowFiles files marks items its) where
  abbrev briefs : Briefs
  briefs = map brief_of files

  abbrev rows : List Row
  rows = rows_of files

  abbrev augments : List ℕ
  augments = augments_of briefs rows marks

  abbrev w : Whole
  w = expansion_of files marks items

  abbrev labels : List Label
  labels = labels_in files marks items

  abbrev bare : Items
  bare = ungiven its

  pub facts : ShowNodes files w items (λ i. None) bare
  facts = record {
    told = record {
      given = shown.told.given;
      node = shown.told.node;
      kind = shown.told.kind;
      module_file = shown.told.module_file;
      name = shown.told.name;
    };
    origin = shown.origin;
    under = λ i x at. shown.under i x at ∙ under_same rows its (slice_get rows (number_of x.origin)) x.parent (spot_at (layout_of w items).spots x.parent);
    refines = shown.refines;
    giver = λ i. refl;
  }

  pub have : HaveStatements rows items
  have = subst (HaveStatements rows) (sym expanded.listed) (all_listed_there briefs rows expanded.trees expanded.added
      (λ n t at. (let l = slice_get_within expanded.trees n t at in let e = expanded.are.each in let file = there_is order n (omega (arith, l, e)) in
      (given_at briefs rows marks file.0, expanded.are.expands n file.0 t file.1 at)))
      (λ n t at. (let l = slice_get_within expanded.added n t at in let e = expanded.are_added.each in let a = there_is augments n (omega (arith, l, e)) in
      (block_of rows a.0, expanded.are_added.expands n a.0 t a.1 at))))

  -- what the block of the augment at a place gives
  abbrev pub MadeAt : ℕ → Product → Type 0
  MadeAt k m = (a : ℕ) × (module_file : ℕ) × (slice_get augments k ≡ Some a) × IsModuleFile files a module_file × Gives files module_file (a ∷ []) (block_of rows a) m

  -- which are these nodes
  abbrev NodesAt : ℕ → Forest → Type 0
  NodesAt k f = (m : Product) × MadeAt k m × (f ≡ m.nodes)

  -- statements at the top of a file stand at the top
  top_stands : (file k : ℕ) (r : Row) → Contains (top_of briefs rows file) k → slice_get rows k ≡ Some r
      → (top_group w (Some r) ≡ 0) × (own_module_file briefs (Some r) ≡ module_file_at briefs file) × (around rows (Some r) ≡ [])
  top_stands file k r there at =
      let t = top_in files file k there in
      let same : t.row ≡ r = same_Some t.row r (sym t.at ∙ at) in
      let scope : r.scope ≡ module_file_at briefs file = sym (ap (λ (z : Row). z.scope) same) ∙ t.scope in
      let of : r.file ≡ file = sym (ap (λ (z : Row). z.file) same) ∙ t.of in
      let in_files = rows_of_files files k r at in
      let size : length briefs ≡ length files = length-map files brief_of in
      let module_file = module_file_at_within briefs file (omega (arith, in_files, of, size)) in
      let root = there_is files (module_file_at briefs file) (omega (arith, module_file, size)) in
      let row : slice_get rows r.scope ≡ Some (record { file = module_file_at briefs file; scope = module_file_at briefs file; head = root.0.head }) =
      ap (slice_get rows) scope ∙ rows_of_roots files (module_file_at briefs file) root.0 root.1 in (
        ap (top_group_of w) (place_none augments r.scope (λ h. (let a = augment_in files marks r.scope h in let past = a.past in omega (arith, past, scope, module_file, size)))),
        ap (module_file_at briefs) of,
        ap one_of (ap (augment_at r.scope) row ∙ ap (λ (b : Bool). if b then Some r.scope else None) (given.roots (module_file_at briefs file) root.0 root.1)),
      )

  module _ (one_meant : RefersToOne files) where
    files_make : (os : List ℕ) (ts : List Tree) → length ts ≡ length os
        → ((n file : ℕ) (t : Tree) → slice_get os n ≡ Some file → slice_get ts n ≡ Some t → Expands briefs rows (given_at briefs rows marks file) t)
        → ((file : ℕ) → Contains os file → get_or marks file false ≡ true) → FilesMake files augments (length items) items bare facts refl os ts
    files_make [] [] long expands mark = no_files_make
    files_make [] (t ∷ ts) long expands mark = absurd (omega (arith, long))
    files_make (file ∷ os) [] long expands mark = absurd (omega (arith, long))
    files_make (file ∷ os) (t ∷ ts) long expands mark =
        let whole_top : given_at briefs rows marks file ≡ top_of briefs rows file = ap (λ (b : Bool). if b then top_of briefs rows file else []) (mark file (there_first file os)) in
        let part : TopPart files augments (length items) items bare facts refl (top_of briefs rows file) t 0 (module_file_at briefs file) [] = record {
          parts =
              parts_make files augments (length items) items bare facts refl given.sound have one_meant (subst (λ z. Expands briefs rows z t) whole_top (expands 0 file t refl refl));
          stands = λ k r there at. top_stands file k r there at;
        } in
        one_file part (files_make os ts (omega (arith, long)) (λ n f u at to. expands (suc n) f u at to) (λ f h. mark f (there_later file f os h)))

    -- and those in the block of an augment stand in its group
    block_stands : (k a : ℕ) (q : Row) → slice_get augments k ≡ Some a → slice_get rows a ≡ Some q → is_augment q ≡ true → length files ≤ a → (j : ℕ) (r : Row) → Contains (block_of rows a) j
        → slice_get rows j ≡ Some r → (top_group w (Some r) ≡ group_of_augment labels k) × (own_module_file briefs (Some r) ≡ module_file_at briefs q.file) × (around rows (Some r) ≡ a ∷ [])
    block_stands k a q at row is past j r there to =
        let b = block_of_file files marks a j q r row past there to in
        let many = many_labels w items refl in (
          ap (λ (n : ℕ). top_group_of w (place_of augments n)) b.0 ∙ (ap (top_group_of w) (place_is augments (augments_rise files marks) k a at)
              ∙ (let e : length items + 1 + k ≡ length labels + 1 + k = omega (arith, many) in e)),
          ap (module_file_at briefs) b.1,
          ap one_of (ap (λ (n : ℕ). augment_at n (slice_get rows n)) b.0 ∙ (ap (augment_at a) row ∙ ap (λ (b : Bool). if b then Some a else None) is)),
        )

    made_gives : (k a : ℕ) (q : Row) → slice_get augments k ≡ Some a → slice_get rows a ≡ Some q → (m : Product) → MadeAt k m
        → Gives files (module_file_at briefs q.file) (a ∷ []) (block_of rows a) m
    made_gives k a q at row m (b, module_file, to, (r, row', module_file_is), G) =
        let same : b ≡ a = same_Some b a (sym to ∙ at) in
        let same_row : r ≡ q = same_Some r q (sym row' ∙ (ap (slice_get rows) same ∙ row)) in
        let same_module_file : module_file ≡ module_file_at briefs q.file = module_file_is ∙ ap (λ (z : Row). module_file_at briefs z.file) same_row in
        subst (λ (h : ℕ). Gives files h (a ∷ []) (block_of rows a) m) same_module_file (subst (λ (n : ℕ). Gives files module_file (n ∷ []) (block_of rows n) m) same G)

    blocks_make : (k : ℕ) (numbers : List ℕ) (ts : List Tree) → ((j : ℕ) → slice_get numbers j ≡ slice_get augments (k + j)) → length ts ≡ length numbers
        → ((n a : ℕ) (t : Tree) → slice_get numbers n ≡ Some a → slice_get ts n ≡ Some t → Expands briefs rows (block_of rows a) t)
        → BlocksMake files augments (length items) items bare facts refl MadeAt k ts
    blocks_make k [] [] are_at long expands = no_blocks
    blocks_make k [] (t ∷ ts) are_at long expands = absurd (omega (arith, long))
    blocks_make k (a ∷ numbers) [] are_at long expands = absurd (omega (arith, long))
    blocks_make k (a ∷ numbers) (t ∷ ts) are_at long expands =
        let at : slice_get augments k ≡ Some a = ap (slice_get augments) (let e : k ≡ k + 0 = omega arith in e) ∙ sym (are_at 0) in
        let q = augment_in files marks a (at_there augments k a at) in
        let part : TopPart files augments (length items) items bare facts refl (block_of rows a) t (group_of_augment labels k) (module_file_at briefs q.row.file) (a ∷ []) = record {
          parts = parts_make files augments (length items) items bare facts refl given.sound have one_meant (expands 0 a t refl refl);
          stands = λ j r there to. block_stands k a q.row at q.at q.is q.past j r there to;
        } in
        one_block part (made_gives k a q.row at q.at)
        (blocks_make (k + 1) numbers ts (λ j. are_at (suc j) ∙ ap (slice_get augments) (let e : k + suc j ≡ k + 1 + j = omega arith in e)) (omega (arith, long)) (λ n b u to x. expands (suc n) b u to x))

    abbrev pub its_own : ℕ
    its_own = count (all_of expanded.trees)

    pub begins : Begins files augments (length items) items bare facts refl MadeAt order expanded.added its_own
    begins =
        begins_are files augments (length items) items bare facts refl MadeAt order expanded.trees expanded.added
        (files_make order expanded.trees expanded.are.each expanded.are.expands given.marked)
        (blocks_make 0 augments expanded.added (λ j. ap (slice_get augments) (let e : j ≡ 0 + j = omega arith in e)) expanded.are_added.each expanded.are_added.expands) expanded.are_added.each
        expanded.listed

    -- how many items there are
    pub all_items : its_own + count (all_of expanded.added) ≡ length items
    all_items =
        let a = count_joined (all_of expanded.trees) (all_of expanded.added) in
        let b = count_listed None 0 (join (all_of expanded.trees) (all_of expanded.added)) in
        let c = ap length expanded.listed in omega (arith, a, b, c)

    pub within : length items ≤ length labels
    within = (let e = many_labels w items refl in omega (arith, e))

    abbrev pub at_first : State
    at_first = first_state labels begins.front begins.augs

    node_is : (i : ℕ) (o : Option ℕ) → giver_of w items i ≡ o → its.node_of i ≡ record (bare.node_of i) { giver = o }
    node_is i o is = ap (λ z. record (its.node_of i) { giver = z }) (shown.giver i ∙ is)

    shows_first : ((f : Forest) → Comes labels bare _ _ _ _ begins.front f → Shows bare at_first.groups 0 0 its_own f) × AllShow labels bare at_first begins.augs
    shows_first =
        beginning_shows labels bare (mark_of w) (are files augments (length items) items bare facts refl) (low files augments (length items) items bare facts refl) its_own (length items) begins.last_own begins.last
        (length augments) begins.front begins.augs within begins.marked begins.all_marked

    pub top_shows : (m : Product) → Tops files order m → Shows its at_first.groups 0 0 its_own m.nodes
    top_shows m T =
        let s = shows_first.0 m.nodes (begins.top m T).0 in
        record {
          items = s.items;
          owns = s.owns;
          bounds = s.bounds;
          orders = s.orders;
          stand = stands_by at_first.groups bare its refl (λ i. refl) (λ i o. node_is i None
              (own_givers w items refl its_own (length items) begins.last_own begins.last begins.front begins.augs within begins.new begins.more begins.spots_are begins.long begins.lie begins.all_lie i
              (s.bounds i o).1)) s.stand;
        }

    pub stand_givers : (x i : ℕ) → Contains (members_of at_first.groups x) i → giver_of w items i ≡ giver_here w items refl x
    stand_givers =
        givers_stand w items refl its_own (length items) begins.last_own begins.last begins.front begins.augs within begins.new begins.more begins.spots_are begins.long begins.lie begins.all_lie

    blocks_come : {lo hi c e k last : ℕ} (augs : Augments lo hi c e k last) → AllCome files augments (length items) items bare MadeAt augs → BlocksCome labels bare NodesAt augs
    blocks_come no_augments come = tt
    blocks_come (augment mid d names block others) (first, rest) = (
      λ f (m, given, is). subst (λ z. Comes labels bare _ _ _ _ block z) (sym is) (first m given).0,
      blocks_come others rest,
    )

    pub block_shows : (k a module_file : ℕ) (m : Product) → slice_get augments k ≡ Some a → IsModuleFile files a module_file → Gives files module_file (a ∷ []) (block_of rows a) m
        → Shows its at_first.groups (group_of_augment labels k) (begins_at its_own expanded.added k) (begins_at its_own expanded.added (suc k)) (nodes_given a m.nodes)
    block_shows k a module_file m at module_file_is G =
        let l = slice_get_within augments k a at in
        let e = expanded.are_added.each in
        let same : 0 + k ≡ k = omega arith in
        let s0 = shows_at labels bare at_first NodesAt begins.augs expanded.added begins.spans shows_first.1 (blocks_come begins.augs begins.blocks) k m.nodes (omega (arith, l, e))
        (subst (λ (n : ℕ). NodesAt n m.nodes) (sym same) (m, (a, module_file, at, module_file_is, G), refl)) in
        let s : Shows bare at_first.groups (group_of_augment labels k) (begins_at its_own expanded.added k) (begins_at its_own expanded.added (suc k)) m.nodes =
        subst (λ (n : ℕ). Shows bare at_first.groups (group_of_augment labels n) (begins_at its_own expanded.added k) (begins_at its_own expanded.added (suc k)) m.nodes) same s0 in
        record {
          items = s.items;
          owns = s.owns;
          bounds = s.bounds;
          orders = s.orders;
          stand = given_shown at_first.groups a bare its refl (λ i. refl)
              (λ i h. node_is i (Some a) (stand_givers (group_of_augment labels k) i (s.orders.only i h).0 ∙ giver_place w items refl k a at))
              (λ x i o h. node_is i None (stand_givers (x + 1) i h ∙ giver_low w items refl (x + 1)
              (let u = (s.bounds x o).1 in let z = begins_most its_own expanded.added (suc k) in let n = all_items in let y = within in omega (arith, u, z, n, y)))) s.stand;
        }

    pub start_is : start_of files marks items ≡ at_first
    start_is = begins.placed_is

    modules_top : (m : Product) → Tops files order m → Shows its (start_of files marks items).groups 0 0 own m.nodes
    modules_top m T =
        subst (λ (st : State). Shows its st.groups 0 0 own m.nodes) (sym start_is) (subst (λ (n : ℕ). Shows its at_first.groups 0 0 n m.nodes) (sym expanded.own_are) (top_shows m T))

    modules_block : (k a module_file : ℕ) (m : Product) → slice_get augments k ≡ Some a → IsModuleFile files a module_file → Gives files module_file (a ∷ []) (block_of rows a) m
        → Shows its (start_of files marks items).groups (group_of_augment labels k) (begins_at own expanded.added k) (begins_at own expanded.added (suc k)) (nodes_given a m.nodes)
    modules_block k a module_file m at module_file_is G =
        subst (λ (st : State). Shows its st.groups (group_of_augment labels k) (begins_at own expanded.added k) (begins_at own expanded.added (suc k)) (nodes_given a m.nodes)) (sym start_is)
        (subst (λ (n : ℕ). Shows its at_first.groups (group_of_augment labels k) (begins_at n expanded.added k) (begins_at n expanded.added (suc k)) (nodes_given a m.nodes)) (sym expanded.own_are)
        (block_shows k a module_file m at module_file_is G))

pub modules_show : (files : Files) → RefersToOne files → ModulesShow files
modules_show files one_meant marks order own items its given expanded shown = (
  λ m T. modules_top files marks order own items its given expanded shown one_meant m T,
  λ k a module_file m at module_file_is G. modules_block files marks order own items its given expanded shown one_meant k a module_file m at module_file_is G,
)
