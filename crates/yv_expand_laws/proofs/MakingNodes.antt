-- Items that are laid behind others lie in a block, which gives what their statements give: nodes,
-- and operations with their parts.
use Rattle.std.proofs.Common.{inl, ◌≡◌, ℕ, ◌+◌, ◌<◌, ◌≤◌, Bool, true, false, if◌then◌else◌, List, [], ◌∷◌, ◌++◌, length, map, drop, length-append, append_assoc, refl, sym, ◌∙◌, ap, subst, arith, codes, Option, Some, None}
use Rattle.std.specs.List.{Contains, slice_get}
use Rattle.std.specs.Option.{option_map, unwrap_or}
use Rattle.std.proofs.lemmas.Bool.{false≢true}
use Rattle.std.proofs.lemmas.List.{append-nil}
use Rattle.std.proofs.lemmas.Option.{same_Some, slice_get-map}
use Rattle.yv_link_scopes.specs.Files.{Files, brief_of}
use Rattle.yv_link_scopes.specs.RowList.{rows_of}
use Rattle.yv_link_scopes.specs.Rows.{Row}
use Rattle.yv_link_definitions.specs.Refers as refers
use Rattle.yv_link_definitions.specs.Refers.{RefersTo}
use Rattle.yv_expand_statements.specs.Names.{node_name}
use Rattle.yv_expand_statements.specs.StatementBlocks.{block_of, input_of, is_input, is_node_or_uses, is_operation, is_output, output_of, part as part_of, part_block}
use Rattle.yv_expand_statements.specs.Origin.{number_of}
use Rattle.yv_expand.specs.Tree.{Item, Tree, count, item, join, item_list, none}
use Rattle.yv_expand_statements.specs.declared.origin.Origin.{Origin}
use Rattle.yv_expand_statements.specs.declared.origin.Origin.TheVariants.{Statement, Input, Output}
use Rattle.yv_expand_statements.specs.declared.statement_kind.StatementKind.{StatementKind}
use Rattle.yv_expand_statements.specs.declared.statement_kind.StatementKind.TheVariants as kind
use Rattle.yv_expand_rounds.specs.declared.label.Label.{Label}
use Rattle.yv_expand_statements.specs.Kinds as kinds_are
use Rattle.yv_expand_rounds.specs.Turns.{State}
use Rattle.yv_expand_uses.specs.Ends.{end_at}
use Rattle.yv_expand_augments.specs.Augmentation.{placed_from}
use Rattle.yv_expand_statements.specs.Kinds.{is_uses}
use Rattle.yv_expand_uses.specs.Kinds.{kind_at, kind_of}
use Rattle.yv_expand_uses.specs.RefineTargets.{node_meant, refines_in}
use Rattle.yv_expand_augments.specs.RefineMeanings.{refined_from}
use Rattle.yv_expand_uses.specs.Spots.{LayoutView, Whole, group_below, module_file_below, labels_of, layout_of, spot_at, spot_of, whole}
use Rattle.yv_expand_uses.specs.declared.spot.Spot.{Spot}
use Rattle.yv_expand_uses.proofs.SubtreeEnds.{drop_drop}
use Rattle.yv_expand_refines.specs.Targets.{RefineMeaning}
use Rattle.yv_expand_definition.specs.Gives.{Gives, Product, nothing as made_none}
use Rattle.yv_expand_definition.specs.Gives.Gives.{no_statements as gives_nothing, other as gives_other, one_node as gives_node, operation as gives_operation, uses as gives_uses}
use Rattle.yv_expand_definition.specs.Nodes.{Forest, Node, node}
use Rattle.yv_expand_definition.specs.Nodes as nodes
use Rattle.yv_expand_definition.proofs.GivenNodeUniqueness.{clash}
use Rattle.yv_expand_laws.specs.Blocks.{Augments, Block, augment, no_augments, enter_block, run_all}
use Rattle.yv_expand_laws.specs.Blocks as block
use Rattle.yv_expand_laws.specs.Comes.Comes.{no_items as none_come, one_node}
use Rattle.yv_expand_laws.specs.StatementItems.{ShowNodes, around, under_of}
use Rattle.yv_expand_laws.specs.Shows.{Items}
use Rattle.yv_expand_laws.specs.Under.{Keeps}
use Rattle.yv_expand_laws.specs.ItemProperties.{is_some_node, name_at, name_of}
use Rattle.yv_expand_laws.proofs.ExpansionBlocks.{no_uses}
use Rattle.yv_expand_laws.proofs.FoundItems.{there_first, there_later}
use Rattle.yv_expand_laws.proofs.JoinedBlocks.{count_joined, listed_joined}
use Rattle.yv_expand_laws.proofs.BlockFrame.{goes_up}
use Rattle.yv_expand_laws.proofs.KeywordKinds.{input_is, input_no_uses, operation_item, output_is, output_no_uses, statement_kind}
use Rattle.yv_expand_laws.proofs.LaidBlocks.{Lies, empty_lies, group_of_node, item_lies, laid_as, last_at, lies_then, part_no_uses, spot_stays, still_at}
use Rattle.yv_expand_laws.proofs.BlockRefusals.{Come, come_as, come_none, node_tells}
use Rattle.yv_expand_laws.proofs.RefineStages.{all_above, changes_away, noted}
use Rattle.yv_expand_laws.proofs.LaterItems.{IsHere, Makes, MayRun, first_stops, item_here, spot_here, then_makes}

module _ (files : Files) (augments : List ℕ) (many : ℕ) (items : List Item) (its : Items) where
  abbrev pub w : Whole
  w = whole (map brief_of files) (rows_of files) augments many

  abbrev pub spots : List Spot
  spots = (layout_of w items).spots

  abbrev pub labels : List Label
  labels = labels_of spots

  abbrev pub copies : ℕ
  copies = (layout_of w items).copies

  -- where items stand when those from a number on have entered, and what is told of them then
  abbrev pub state : ℕ → List Spot → State
  state n xs = placed_from w labels copies n xs

  abbrev pub refined : ℕ → List Spot → List RefineMeaning
  refined n xs = refined_from w labels copies (end_at items) n xs

  abbrev pub stage : ℕ → List Spot → Items
  stage n xs = noted files spots its (refined n xs)

  module _ (facts : ShowNodes files w items (λ i. None) its) (each : length items ≡ many) where
    -- the module, kind, name and place of a node that an item gives
    abbrev pub made_of : Origin → (module_file : ℕ) → (under : List ℕ) → Node
    made_of o module_file under = record { origin = o; under = under; module_file = module_file; kind = kind_of w.rows o; name = name_of w.rows o; refines = []; giver = None }

    node_is : (g : Node) (o : Origin) (u : List ℕ) (h : ℕ) (k : StatementKind) (n : List ℕ) → g.origin ≡ o → g.under ≡ u → g.module_file ≡ h → g.kind ≡ k → g.name ≡ n → g.giver ≡ None
        → (let made : Node = record { origin = o; under = u; module_file = h; kind = k; name = n; refines = []; giver = None } in record g { refines = [] } ≡ made)
    node_is g o u h k n origin under module_file kind name giver =
        ap (λ x. record g { refines = []; origin = x }) origin
        ∙ (ap (λ x. record g { refines = []; origin = o; under = x }) under
        ∙ (ap (λ x. record g { refines = []; origin = o; under = u; module_file = x }) module_file
        ∙ (ap (λ x. record g { refines = []; origin = o; under = u; module_file = h; kind = x }) kind
        ∙ (ap (λ x. record g { refines = []; origin = o; under = u; module_file = h; kind = k; name = x }) name
        ∙ ap (λ x. record g { refines = []; origin = o; under = u; module_file = h; kind = k; name = n; giver = x }) giver))))

    -- the spot above is where it is in all
    pub spot_above : {l : LayoutView} {these behind : List Item} {n c : ℕ} {new rest : List Spot} → IsHere files augments many items its l these behind n c new rest → (parent : Option ℕ)
        → ((p : ℕ) → parent ≡ Some p → p < n) → spot_at spots parent ≡ spot_at l.spots parent
    spot_above here None less = refl
    spot_above {l = l} {n = n} {new = new} {rest = rest} here (Some p) less =
        let a = length-append l.spots new in let long = here.long in let h = less p refl in
        ap (λ z. slice_get z p) here.spots_are ∙ (still_at (l.spots ++ new) rest p (omega (arith, a, h, long)) ∙ still_at l.spots new p (omega (arith, h, long)))

    -- where the item of a statement stands, to which module it belongs, and what is round it
    abbrev pub StandsBelow : Option Row → LayoutView → (parent : Option ℕ) → (g module_file : ℕ) → (under : List ℕ) → Type 0
    StandsBelow r l parent g module_file under =
        (group_below w r parent (spot_at l.spots parent) ≡ g) × (module_file_below w.files r (spot_at l.spots parent) ≡ module_file)
        × (under_of w.rows its r parent (spot_at l.spots parent) ≡ under)

    -- what stands below an item that is no uses
    abbrev pub BelowMakes : Tree → (ℕ → List ℕ → Product → Type 0) → Type 0
    BelowMakes t G =
        (l : LayoutView) (p n hi c : ℕ) (s : Spot) → length l.spots ≡ n → l.copies ≡ c → n + count t ≡ hi → p < n → slice_get l.spots p ≡ Some s → is_uses s.label.kind ≡ false
        → (e : ℕ) × (F : Lies w labels l (item_list (Some p) n t) (p + 1) n hi c e) × Makes files augments many items its F (G s.module_file (its.node_of p).under)

    pub below_item : (l : LayoutView) (p : ℕ) (s : Spot) (r : Option Row) → slice_get l.spots p ≡ Some s → is_uses s.label.kind ≡ false
        → StandsBelow r l (Some p) (p + 1) s.module_file (its.node_of p).under
    below_item l p s r at no_uses = (
      group_of_node w labels r p (slice_get l.spots p) s at no_uses,
      ap (module_file_below w.files r) at,
      ap (under_of w.rows its r (Some p)) at
          ∙ ap (λ (b : Bool). if b then around w.rows r ++ s.statement ∷ (its.node_of p).under else (its.node_of p).under) no_uses,
    )

    abbrev pub OwnGives : Origin → (ℕ → List ℕ → Product → Type 0) → ℕ → List ℕ → Product → Type 0
    OwnGives o G module_file under m = (b : Product) × G module_file under b × (m.nodes ≡ node (made_of o module_file under) b.nodes nodes.none) × (m.wrong ≡ b.wrong)

    node_kind : (k : StatementKind) → is_uses k ≡ false → kinds_are.is_node k ≡ true
    node_kind kind.Uses isnt = absurd (false≢true (sym isnt))
    node_kind kind.Container isnt = refl
    node_kind kind.Leaf isnt = refl
    node_kind kind.LeafList isnt = refl
    node_kind kind.List isnt = refl
    node_kind kind.Choice isnt = refl
    node_kind kind.Case isnt = refl
    node_kind kind.Anydata isnt = refl
    node_kind kind.Anyxml isnt = refl
    node_kind kind.Rpc isnt = refl
    node_kind kind.Action isnt = refl
    node_kind kind.Input isnt = refl
    node_kind kind.Output isnt = refl
    node_kind kind.Notification isnt = refl

    -- an item that is no uses
    pub own_makes : (o : Origin) (t : Tree) (G : ℕ → List ℕ → Product → Type 0) → BelowMakes t G → is_uses (kind_of w.rows o) ≡ false
        → (l : LayoutView) (parent : Option ℕ) (g n hi c module_file : ℕ) (under : List ℕ) → length l.spots ≡ n → l.copies ≡ c → n + count (item o t none) ≡ hi
        → ((p : ℕ) → parent ≡ Some p → p < n) → StandsBelow (slice_get w.rows (number_of o)) l parent g module_file under
        → (e : ℕ) × (F : Lies w labels l (item_list parent n (item o t none)) g n hi c e) × Makes files augments many items its F (OwnGives o G module_file under)
    own_makes o t G inner no_uses l parent g n hi c module_file under long all_copies ends less (group, module_file_is, under_is) =
        let b = inner (laid_as w labels (l.spots ++ s ∷ []) c) n (n + 1) hi c s (let f = length-append l.spots (s ∷ []) in omega (arith, f, long)) refl
        (omega (arith, ends)) (omega arith) (last_at l.spots s n long) no_uses in
        let pair = subst (λ z. (F : Lies w labels l (x ∷ z) g n hi c b.0) × Makes files augments many items its F (OwnGives o G module_file under)) (sym (append-nil (item_list (Some n) (n + 1) t)))
        (item_lies w labels l x (item_list (Some n) (n + 1) t) g n hi c b.0 long all_copies no_uses group b.1, makes b.0 b.1 b.2) in (b.0, pair.0, pair.1)
      where
        x : Item
        x = record { origin = o; parent = parent }

        s : Spot
        s = spot_of w l.spots l.copies x

        makes : (e : ℕ) (q : Lies w labels (laid_as w labels (l.spots ++ s ∷ []) c) (item_list (Some n) (n + 1) t) (n + 1) (n + 1) hi c e) → Makes files augments many items its q (G s.module_file (its.node_of n).under)
            → Makes files augments many items its (item_lies w labels l x (item_list (Some n) (n + 1) t) g n hi c e long all_copies no_uses group q) (OwnGives o G module_file under)
        makes e q inside m behind rest (b, gives, nodes_are, wrong_is) here may =
            let up = goes_up q.block in let nh = up.0 in let ce = up.1 in
            let more = length-append l.spots (s ∷ []) in
            let xs : List Spot = q.new ++ rest in
            let room = may.enters.room in let in_items = may.enters.items in let most = may.enters.copies in let group_in = may.enters.group in
            let at_spot : slice_get spots n ≡ Some s = ap (slice_get spots) (let h : n ≡ n + 0 = omega arith in h) ∙ spot_here files augments many items its facts each here 0 s refl in
            let at_item : slice_get items n ≡ Some x = ap (slice_get items) (let h : n ≡ n + 0 = omega arith in h) ∙ item_here files augments many items its facts each here 0 x refl in
            let under_now : (its.node_of n).under ≡ under =
            facts.under n x at_item ∙ (ap (under_of w.rows its (slice_get w.rows (number_of o)) parent) (spot_above here parent less) ∙ under_is) in
            let here_q : IsHere files augments many items its (laid_as w labels (l.spots ++ s ∷ []) c) (item_list (Some n) (n + 1) t) behind (n + 1) c q.new rest = record {
              long = omega (arith, more, long);
              late = here.late;
              items_are = sym (drop_drop n 1 items) ∙ ap (drop 1) here.items_are;
              spots_are = here.spots_are ∙ ap (λ z. z ++ rest) (sym (append_assoc l.spots (s ∷ []) q.new));
              stops = λ j h. here.stops j (omega (arith, h));
            } in
            let may_q : MayRun files augments many items its (n + 1) (n + 1) hi c e (state hi rest) = record {
              enters = record {
                room = room;
                items = in_items;
                copies = most;
                group = omega (arith, nh, in_items, room);
                outside = (inl (omega arith), inl (omega (arith, nh, in_items)));
                from = may.enters.from;
                fresh = may.enters.fresh;
                waiting = may.enters.waiting;
              };
              empty = λ y a b. may.empty y (omega (arith, a)) b;
              marks = may.marks;
            } in
            let B = inside b behind rest (subst (λ u. G s.module_file u b) (sym under_now) (subst (λ (h : ℕ). G h under b) (sym module_file_is) gives)) here_q may_q in
            let same : refined n (s ∷ xs) ≡ refined (n + 1) xs =
            ap (λ (t : Bool). refined (n + 1) xs ++ (if t then map (λ k. record { item = n; refine = k; target = node_meant w labels s (end_at items n) k (state (n + 1) xs) }) (refines_in w.rows s.statement) else [])) no_uses
            ∙ append-nil (refined (n + 1) xs) in
            let is_node : its.is_node n ≡ true =
            facts.told.node n ∙ (ap is_some_node (slice_get-map (λ (z : Spot). z.label) spots n ∙ ap (option_map (λ (z : Spot). z.label)) at_spot) ∙ node_kind s.label.kind no_uses) in
            let shows : (stage (n + 1) xs).node_of n ≡ made_of o module_file under =
            ap (λ r. record (its.node_of n) { refines = r })
            (changes_away files spots (λ i. n + 1 + 1 ≤ i) n (refined (n + 1) xs) (all_above w labels copies (end_at items) (n + 1) xs) (λ h. omega (arith, h)))
            ∙ node_is (its.node_of n) o under module_file (kind_of w.rows o) (name_of w.rows o) (facts.origin n x at_item) under_now (facts.told.module_file n s at_spot ∙ module_file_is)
            (facts.told.kind n s at_spot) (facts.told.name n x at_item) (facts.giver n) in
            subst (λ z. Come files augments many items (noted files spots its z) (block.item {lo = n} {hi = hi} {c = c} {e = e} hi e q.block block.nothing) m.nodes m.wrong) (sym same)
            (come_as files augments many items (stage (n + 1) xs) (block.item {lo = n} {hi = hi} {c = c} {e = e} hi e q.block block.nothing) (node ((stage (n + 1) xs).node_of n) b.nodes nodes.none) m.nodes b.wrong m.wrong
            (ap (λ z. node z b.nodes nodes.none) shows ∙ sym nodes_are) (sym wrong_is)
            (one_node is_node B.0 none_come, node_tells files augments many items n s (λ x. Keeps B.0 x) b.wrong at_spot no_uses B.1))

    -- an operation's input and output
    pub two_make : (o q : Origin) (t u : Tree) (P Q : ℕ → List ℕ → Product → Type 0) → BelowMakes t P → BelowMakes u Q → is_uses (kind_of w.rows o) ≡ false
        → is_uses (kind_of w.rows q) ≡ false
        → BelowMakes (item o t (item q u none)) (λ module_file under m. (a : Product) × (b : Product) × OwnGives o P module_file under a × OwnGives q Q module_file under b × (m.nodes ≡ nodes.join a.nodes b.nodes) × (m.wrong ≡ a.wrong ++ b.wrong))
    two_make o q t u P Q T U no_o no_q l p n hi c s long all_copies ends less at no_uses =
        let mid : ℕ = n + count (item o t none) in
        let module_file : ℕ = s.module_file in
        let under : List ℕ = (its.node_of p).under in
        let a = own_makes o t P T no_o l (Some p) (p + 1) n mid c module_file under long all_copies refl (λ x is. subst (λ (m : ℕ). m < n) (same_Some p x is) less)
        (below_item l p s (slice_get w.rows (number_of o)) at no_uses) in
        let A = a.1 in
        let more = length-append l.spots A.new in let A_long = A.long in
        let at_more : slice_get (l.spots ++ A.new) p ≡ Some s = still_at l.spots A.new p (omega (arith, less, long)) ∙ at in
        let b = own_makes q u Q U no_q (laid_as w labels (l.spots ++ A.new) a.0) (Some p) (p + 1) mid hi a.0 module_file under (omega (arith, more, A_long, long)) refl
        (omega (arith, ends)) (λ x is. (let same : p ≡ x = same_Some p x is in omega (arith, same, less))) (below_item (laid_as w labels (l.spots ++ A.new) a.0) p s (slice_get w.rows (number_of q)) at_more no_uses) in
        let G : Product → Type 0 = λ m. (x : Product) × (y : Product) × OwnGives o P module_file under x × OwnGives q Q module_file under y × (m.nodes ≡ nodes.join x.nodes y.nodes) × (m.wrong ≡ x.wrong ++ y.wrong) in
        let pair = subst (λ these. (F : Lies w labels l these (p + 1) n hi c b.0) × Makes files augments many items its F G) (sym (listed_joined (Some p) n (item o t none) (item q u none))) (
          lies_then w labels l (item_list (Some p) n (item o t none)) (item_list (Some p) mid (item q u none)) (p + 1) n mid hi c a.0 b.0 A b.1,
          then_makes files augments many items its facts each l (item_list (Some p) n (item o t none)) (item_list (Some p) mid (item q u none)) (p + 1) n mid hi c a.0 b.0 A b.1 (OwnGives o P module_file under) (OwnGives q Q module_file under) G
              (λ f x. x) (λ behind stops. first_stops (Some p) n (λ y is. subst (λ (m : ℕ). m < n) (same_Some p y is) less) (item q u none) mid behind stops) a.2 b.2,
        ) in (b.0, pair.0, pair.1)

    -- what numbered statements give
    abbrev pub Given : List ℕ → (module_file : ℕ) → (under : List ℕ) → Product → Type 0
    Given ks module_file under m = Gives files module_file under ks m

    -- each statement gives a part of the items, and this gives the nodes that the statement does
    pub record PartMakes (k : ℕ) (t : Tree) : Type 0 where
      pub makes : (l : LayoutView) (parent : Option ℕ) (g n hi c module_file : ℕ) (under : List ℕ) → length l.spots ≡ n → l.copies ≡ c → n + count t ≡ hi
          → ((p : ℕ) → parent ≡ Some p → p < n) → ((r : Row) → slice_get w.rows k ≡ Some r → StandsBelow (Some r) l parent g module_file under)
          → (e : ℕ) × (F : Lies w labels l (item_list parent n t) g n hi c e) × Makes files augments many items its F (Given (k ∷ []) module_file under)
      pub nothing : (r : Row) → slice_get w.rows k ≡ Some r → is_node_or_uses r ≡ false → t ≡ none
      pub some : (r : Row) → slice_get w.rows k ≡ Some r → is_node_or_uses r ≡ true → 1 ≤ count t

    pub data PartsMake : List ℕ → Tree → Type 0 where
      no_parts : PartsMake [] none
      one_part : {k : ℕ} {ks : List ℕ} {t u : Tree} → PartMakes k t → PartsMake ks u → PartsMake (k ∷ ks) (join t u)

    nothing_given : {module_file : ℕ} {under : List ℕ} {m : Product} → Given [] module_file under m → (m.nodes ≡ nodes.none) × (m.wrong ≡ [])
    nothing_given gives_nothing = (refl, refl)

    joined_end : (a b : Forest) → nodes.join a b ≡ nodes.join (nodes.join a nodes.none) b
    joined_end nodes.none b = refl
    joined_end (node x inner rest) b = ap (λ z. node x inner z) (joined_end rest b)

    pub joined_nothing : (a : Forest) → nodes.join a nodes.none ≡ a
    joined_nothing nodes.none = refl
    joined_nothing (node x inner rest) = ap (λ z. node x inner z) (joined_nothing rest)

    -- what statements give is what the first gives, and behind it what the others do
    abbrev Split : (k : ℕ) (ks : List ℕ) (module_file : ℕ) (under : List ℕ) → Product → Type 0
    Split k ks module_file under m =
        (a : Product) × (b : Product) × Given (k ∷ []) module_file under a × Given ks module_file under b × (m.nodes ≡ nodes.join a.nodes b.nodes) × (m.wrong ≡ a.wrong ++ b.wrong)

    gives_split : {k : ℕ} {ks : List ℕ} {module_file : ℕ} {under : List ℕ} {m : Product} → Given (k ∷ ks) module_file under m → Split k ks module_file under m
    gives_split (gives_other {m = m} at isnt e) = (made_none, m, gives_other at isnt gives_nothing, e, refl, refl)
    gives_split (gives_node {below = below} {behind = behind} at is_one o u known B e) =
        (_, behind, gives_node at is_one o u known B gives_nothing, e, refl, ap (λ z. z ++ behind.wrong) (sym (append-nil below.wrong)))
    gives_split (gives_operation {input = input} {output = output} {behind = behind} at is_one o u known I O e) =
        (_, behind, gives_operation at is_one o u known I O gives_nothing, e, refl, ap (λ z. z ++ behind.wrong) (sym (append-nil (input.wrong ++ output.wrong))))
    gives_split (gives_uses {given = given} {behind = behind} at is_one u d C R A e) =
        (_, behind, gives_uses at is_one u d C R A gives_nothing, e, joined_end given.nodes behind.nodes, ap (λ z. z ++ behind.wrong) (sym (append-nil given.wrong)))

    empty_makes : (l : LayoutView) (g n c : ℕ) (same : l.copies ≡ c) (module_file : ℕ) (under : List ℕ) → Makes files augments many items its (empty_lies w labels l g n c same) (Given [] module_file under)
    empty_makes l g n c same module_file under m behind rest gives here may =
        let none_so = nothing_given gives in
        come_as files augments many items (stage n rest) (block.nothing {lo = n} {c = c}) nodes.none m.nodes [] m.wrong (sym none_so.0) (sym none_so.1)
        (come_none files augments many items (stage n rest))

    pub all_make : {ks : List ℕ} {t : Tree} → PartsMake ks t → (l : LayoutView) (parent : Option ℕ) (g n hi c module_file : ℕ) (under : List ℕ) → length l.spots ≡ n → l.copies ≡ c
        → n + count t ≡ hi → ((p : ℕ) → parent ≡ Some p → p < n)
        → ((k : ℕ) (r : Row) → Contains ks k → slice_get w.rows k ≡ Some r → StandsBelow (Some r) l parent g module_file under)
        → (e : ℕ) × (F : Lies w labels l (item_list parent n t) g n hi c e) × Makes files augments many items its F (Given ks module_file under)
    all_make no_parts l parent g n hi c module_file under long all_copies ends below stands =
        let h : n ≡ hi = omega (arith, ends) in
        let pair = subst (λ (h : ℕ). (F : Lies w labels l [] g n h c c) × Makes files augments many items its F (Given [] module_file under)) h (empty_lies w labels l g n c all_copies, empty_makes l g n c all_copies module_file under) in
        (c, pair.0, pair.1)
    all_make (one_part {k = k} {ks = ks} {t = t} {u = u} P more) l parent g n hi c module_file under long all_copies ends below stands =
        let a = P.makes l parent g n (n + count t) c module_file under long all_copies refl below (λ r at. stands k r (there_first k ks) at) in
        let A = a.1 in
        let f = length-append l.spots A.new in let h = A.long in let j = count_joined t u in
        let b = all_make more (laid_as w labels (l.spots ++ A.new) a.0) parent g (n + count t) hi a.0 module_file under (omega (arith, f, h, long)) refl (omega (arith, j, ends))
        (λ p is. (let x = below p is in omega (arith, x)))
        (λ j r there at. subst (λ o. (group_below w (Some r) parent o ≡ g) × (module_file_below w.files (Some r) o ≡ module_file) × (under_of w.rows its (Some r) parent o ≡ under))
        (sym (spot_stays w labels l.spots A.new parent n long below)) (stands j r (there_later k j ks there) at)) in
        let pair = subst (λ these. (F : Lies w labels l these g n hi c b.0) × Makes files augments many items its F (Given (k ∷ ks) module_file under)) (sym (listed_joined parent n t u)) (
          lies_then w labels l (item_list parent n t) (item_list parent (n + count t) u) g n (n + count t) hi c a.0 b.0 A b.1,
          then_makes files augments many items its facts each l (item_list parent n t) (item_list parent (n + count t) u) g n (n + count t) hi c a.0 b.0 A b.1 (Given (k ∷ []) module_file under) (Given ks module_file under) (Given (k ∷ ks) module_file under)
              (λ m gives. gives_split gives) (λ behind stops. first_stops parent n below u (n + count t) behind stops) a.2 b.2,
        ) in (b.0, pair.0, pair.1)

    below_make : {ks : List ℕ} {t : Tree} → PartsMake ks t → BelowMakes t (Given ks)
    below_make P l p n hi c s long all_copies ends less at no_uses =
        all_make P l (Some p) (p + 1) n hi c s.module_file (its.node_of p).under long all_copies ends (λ q is. subst (λ (m : ℕ). m < n) (same_Some p q is) less)
        (λ k r there row. below_item l p s (Some r) at no_uses)

    -- what an item gives, for other reasons
    pub makes_for : {l : LayoutView} {these : List Item} {g n hi c e : ℕ} (F : Lies w labels l these g n hi c e) (G H : Product → Type 0) → ((m : Product) → H m → G m) → Makes files augments many items its F G → Makes files augments many items its F H
    makes_for F G H all makes m behind rest gives here may = makes m behind rest (all m gives) here may

    pub node_makes : (k : ℕ) (r : Row) (under_it : Tree) → slice_get w.rows k ≡ Some r → is_node_or_uses r ≡ true → is_operation r ≡ false → refers.is_uses r ≡ false
        → PartsMake (block_of w.rows k) under_it → PartMakes k (item (Statement k) under_it none)
    node_makes k r under_it at is_one no_operation no_uses P = record {
      makes = λ l parent g n hi c module_file under long all_copies ends less stands.
          (let a = own_makes (Statement k) under_it (Given (block_of w.rows k)) (below_make P) (statement_kind w.rows k r at is_one ∙ no_uses) l parent g n hi c module_file under
          long all_copies ends less (subst (λ o. StandsBelow o l parent g module_file under) (sym at) (stands r at)) in
          (a.0, a.1, makes_for a.1 (OwnGives (Statement k) (Given (block_of w.rows k)) module_file under) (Given (k ∷ []) module_file under) (gives_one module_file under) a.2));
      nothing = λ q row none_is. absurd (false≢true (sym none_is ∙ (ap is_node_or_uses (same_Some q r (sym row ∙ at)) ∙ is_one)));
      some = λ q row is. omega arith;
    }
      where
        gives_one : (module_file : ℕ) (under : List ℕ) (m : Product) → Given (k ∷ []) module_file under m → OwnGives (Statement k) (Given (block_of w.rows k)) module_file under m
        gives_one module_file under m gives = by gives
          where
            by : {m : Product} → Gives files module_file under (k ∷ []) m → OwnGives (Statement k) (Given (block_of w.rows k)) module_file under m
            by (gives_other at' isnt e) = absurd (clash is_node_or_uses w.rows k _ _ at' at isnt is_one)
            by (gives_node {r = q} {kd = kd} {below = below} at' is_item' o u known B gives_nothing) = (
              below,
              B,
              ap (λ (z : StatementKind). node (record { origin = Statement k; under = under; module_file = module_file; kind = z; name = node_name q.head; refines = []; giver = None }) below.nodes nodes.none)
                  (sym (ap kind_at at' ∙ ap (λ x. unwrap_or x kind.Uses) known))
                  ∙ ap (λ z. node (record { origin = Statement k; under = under; module_file = module_file; kind = kind_at (slice_get w.rows k); name = z; refines = []; giver = None }) below.nodes nodes.none)
                  (sym (ap name_at at')),
              append-nil below.wrong,
            )
            by (gives_operation at' is_item' o u known I O e) = absurd (clash is_operation w.rows k _ _ at at' no_operation o)
            by (gives_uses at' is_item' u d C R A e) = absurd (clash refers.is_uses w.rows k _ _ at at' no_uses u)

    pub operation_makes : (k : ℕ) (r : Row) (input output : Tree) → slice_get w.rows k ≡ Some r → is_operation r ≡ true → PartsMake (part_block w.rows (input_of w.rows k)) input
        → PartsMake (part_block w.rows (output_of w.rows k)) output
        → PartMakes k (item (Statement k) (item (part_of (Input k) (input_of w.rows k)) input (item (part_of (Output k) (output_of w.rows k)) output none)) none)
    operation_makes k r input output at is_one I O = record {
      makes = λ l parent g n hi c module_file under long all_copies ends less stands.
          (let a = own_makes (Statement k) (item in_origin input (item out_origin output none)) Both
          (two_make in_origin out_origin input output (Given (part_block w.rows (input_of w.rows k))) (Given (part_block w.rows (output_of w.rows k))) (below_make I) (below_make O)
          (part_no_uses w labels (Input k) is_input (block_of w.rows k) refl input_no_uses) (part_no_uses w labels (Output k) is_output (block_of w.rows k) refl output_no_uses))
          (statement_kind w.rows k r at (operation_item r is_one).0 ∙ (operation_item r is_one).1) l parent g n hi c module_file under
          long all_copies ends less (subst (λ o. StandsBelow o l parent g module_file under) (sym at) (stands r at)) in
          (a.0, a.1, makes_for a.1 (OwnGives (Statement k) Both module_file under) (Given (k ∷ []) module_file under) (gives_one module_file under) a.2));
      nothing = λ q row none_is. absurd (false≢true (sym none_is ∙ (ap is_node_or_uses (same_Some q r (sym row ∙ at)) ∙ (operation_item r is_one).0)));
      some = λ q row is. omega arith;
    }
      where
        in_origin : Origin
        in_origin = part_of (Input k) (input_of w.rows k)

        out_origin : Origin
        out_origin = part_of (Output k) (output_of w.rows k)

        Both : ℕ → List ℕ → Product → Type 0
        Both module_file under m =
            (a : Product) × (b : Product) × OwnGives (part_of (Input k) (input_of w.rows k)) (Given (part_block w.rows (input_of w.rows k))) module_file under a
            × OwnGives (part_of (Output k) (output_of w.rows k)) (Given (part_block w.rows (output_of w.rows k))) module_file under b
            × (m.nodes ≡ nodes.join a.nodes b.nodes) × (m.wrong ≡ a.wrong ++ b.wrong)

        in_is : (module_file : ℕ) (under : List ℕ) (b : Forest) → node (record { origin = in_origin; under = under; module_file = module_file; kind = kind.Input; name = codes "input"; refines = []; giver = None }) b nodes.none
            ≡ node (made_of in_origin module_file under) b nodes.none
        in_is module_file under b =
            ap (λ (z : StatementKind). node (record { origin = in_origin; under = under; module_file = module_file; kind = z; name = codes "input"; refines = []; giver = None }) b nodes.none) (sym (input_is w.rows k).0)
            ∙ ap (λ z. node (record { origin = in_origin; under = under; module_file = module_file; kind = kind_of w.rows in_origin; name = z; refines = []; giver = None }) b nodes.none) (sym (input_is w.rows k).1)

        out_is : (module_file : ℕ) (under : List ℕ) (b : Forest) → node (record { origin = out_origin; under = under; module_file = module_file; kind = kind.Output; name = codes "output"; refines = []; giver = None }) b nodes.none
            ≡ node (made_of out_origin module_file under) b nodes.none
        out_is module_file under b =
            ap (λ (z : StatementKind). node (record { origin = out_origin; under = under; module_file = module_file; kind = z; name = codes "output"; refines = []; giver = None }) b nodes.none) (sym (output_is w.rows k).0)
            ∙ ap (λ z. node (record { origin = out_origin; under = under; module_file = module_file; kind = kind_of w.rows out_origin; name = z; refines = []; giver = None }) b nodes.none) (sym (output_is w.rows k).1)

        gives_one : (module_file : ℕ) (under : List ℕ) (m : Product) → Given (k ∷ []) module_file under m → OwnGives (Statement k) Both module_file under m
        gives_one module_file under m gives = by gives
          where
            by : {m : Product} → Gives files module_file under (k ∷ []) m → OwnGives (Statement k) Both module_file under m
            by (gives_other at' isnt e) = absurd (clash is_node_or_uses w.rows k _ _ at' at isnt (operation_item r is_one).0)
            by (gives_node at' is_item' o u known B e) = absurd (clash is_operation w.rows k _ _ at' at o is_one)
            by (gives_operation {r = q} {kd = kd} {input = x} {output = y} at' is_item' o u known I' O' gives_nothing) =
                let f : Forest = node (record { origin = in_origin; under = under; module_file = module_file; kind = kind.Input; name = codes "input"; refines = []; giver = None }) x.nodes nodes.none in
                let g : Forest = node (record { origin = out_origin; under = under; module_file = module_file; kind = kind.Output; name = codes "output"; refines = []; giver = None }) y.nodes nodes.none in
                let a : Product = record { nodes = f; wrong = x.wrong } in
                let b : Product = record { nodes = g; wrong = y.wrong } in
                let two : Product = record { nodes = nodes.join f g; wrong = x.wrong ++ y.wrong } in (
                  two,
                  (a, b, (x, I', in_is module_file under x.nodes, refl), (y, O', out_is module_file under y.nodes, refl), refl, refl),
                  ap (λ (z : StatementKind). node (record { origin = Statement k; under = under; module_file = module_file; kind = z; name = node_name q.head; refines = []; giver = None }) (nodes.join f g) nodes.none)
                      (sym (ap kind_at at' ∙ ap (λ x. unwrap_or x kind.Uses) known))
                      ∙ ap (λ z. node (record { origin = Statement k; under = under; module_file = module_file; kind = kind_at (slice_get w.rows k); name = z; refines = []; giver = None }) (nodes.join f g) nodes.none)
                      (sym (ap name_at at')),
                  append-nil (x.wrong ++ y.wrong),
                )
            by (gives_uses at' is_item' u d C R A e) = absurd (clash refers.is_uses w.rows k _ _ at at' (operation_item r is_one).1 u)
