-- In a schema of files that conform, only containers and lists have data nodes below them.
use Rattle.std.proofs.Common.{◌≡◌, ℕ, ◌+◌, ◌<◌, ◌||◌, ◌&&◌, ◌==◌, not, Bool, true, false, if◌then◌else◌, List, [], ◌∷◌, ◌++◌, get_or, inl, inr, length, map, Option, Some, None, refl, sym, ap, ◌∙◌, arith}
use Rattle.std.specs.List.{list_all, list_any, slice_get}
use Rattle.std.specs.Option.{option_map, unwrap_or}
use Rattle.std.specs.Str.{bytes_eq}
use Rattle.std.proofs.lemmas.Bool.{false≢true, false_from_ne_true}
use Rattle.std.proofs.lemmas.List.{map-append}
use Rattle.std.proofs.lemmas.Option.{get_or_from_slice_get, same_Some, slice_get_cases, slice_get_within, slice_get-map}
use Rattle.std.proofs.lemmas.Slice.Eq.{bytes_eq-Decides}
use Rattle.yv_text_statement.specs.Tree as statement
use Rattle.yv_text_statement.specs.Selection.{ModuleChoice}
use Rattle.yv_text_if_feature.specs.Bytes.{colon}
use Rattle.yv_text_grammar.specs.Refusals.{keyword_at}
use Rattle.yv_text_statement.specs.Keywords.{keyword_in, keyword_of, names}
use Rattle.yv_text_statement.specs.declared.keyword.Keyword.{Keyword}
use Rattle.yv_text_statement.specs.declared.keyword.Keyword.TheVariants as word
use Rattle.yv_expand.specs.Conformance.{Conform}
use Rattle.yv_link_scopes.specs.Files.{Files}
use Rattle.yv_link_scopes.specs.RowList.{rows_of, statements_of}
use Rattle.yv_link_scopes.specs.Rows as entry
use Rattle.yv_expand_statements.specs.declared.origin.Origin.{Origin}
use Rattle.yv_expand_statements.specs.declared.origin.Origin.TheVariants as origin
use Rattle.yv_expand.specs.Tree as items
use Rattle.yv_expand.specs.Tree.{Item, Node, Nodes}
use Rattle.yv_expand_statements.specs.declared.statement_kind.StatementKind.TheVariants as given
use Rattle.yv_expand_uses.specs.Kinds.{kind_at, kind_of as item_kind}
use Rattle.yv_expand_statements.specs.Kinds.{kind_of_keyword}
use Rattle.yv_expand_statements.specs.Truth.{Truth}
use Rattle.yv_node_properties.specs.Statements.{no_statement, statement_at}
use Rattle.yv_expand_tree.specs.Final.{Final, IsFinal, changes_of}
use Rattle.yv_expand_tree.specs.FinalTree.{no_item, origin_at}
use Rattle.yv_expand_tree.specs.Remains.{AreLeft}
use Rattle.yv_expand_tree.specs.Lowest.{is_lowest}
use Rattle.yv_node_content.specs.Definition.{Definition}
use Rattle.yv_node_content.specs.Kinds.{is_data}
use Rattle.yv_node_content.specs.declared.kind.NodeKind.{NodeKind}
use Rattle.yv_node_content.specs.declared.kind.NodeKind.TheVariants as kind
use Rattle.yv_nodes.specs.declared.node.NodeId.{NodeId}
use Rattle.yv_nodes.specs.Numbers.{rows_below, rows_from}
use Rattle.yv_nodes.specs.Rows.{Row, is_root}
use Rattle.yv_nodes.specs.Tree.{Label, count}
use Rattle.yv_node_leafrefs.specs.Above.{Closest, document, further, here, parent_of as above_of}
use Rattle.yv_node_leafrefs.specs.Links.{OnlyInnerHold, is_inner}
use Rattle.yv_node_statements.specs.Definitions.{kind_of, refined_definition}
use Rattle.yv_node_statements.specs.Kinds.{TypeMeanings}
use Rattle.yv_schema.specs.InnerRows.{number_at, parent_of}
use Rattle.yv_schema.specs.InnerBasis.{IsNumberedBasis, NumberedBasis, label_at, with_labels, nodes_in, stated_of}
use Rattle.yv_schema.proofs.ParentNodes.{count_rows, made_at, row_parent}

-- a leaf, leaf-list, anydata or anyxml
abbrev is_low : NodeKind → Bool
is_low kind.Leaf = true
is_low kind.LeafList = true
is_low kind.Anydata = true
is_low kind.Anyxml = true
is_low _ = false

inner_or_low : (k : NodeKind) → is_data k ≡ true → is_low k ≡ false → is_inner k ≡ true
inner_or_low kind.Container is high = refl
inner_or_low kind.List is high = refl
inner_or_low kind.Leaf is high = absurd (false≢true (sym high))
inner_or_low kind.LeafList is high = absurd (false≢true (sym high))
inner_or_low kind.Anydata is high = absurd (false≢true (sym high))
inner_or_low kind.Anyxml is high = absurd (false≢true (sym high))
inner_or_low _ is high = absurd (false≢true is)

module _ (rows : List Row) where
  -- where a place is the closest above a node, a node stands just below it
  closest_child : {a b : Option ℕ} → Closest rows a b → (p k : ℕ) (q : Row) → b ≡ Some p → slice_get rows k ≡ Some q → above_of q ≡ a
      → (j : ℕ) × (x : Row) × (slice_get rows j ≡ Some x) × (above_of x ≡ Some p)
  closest_child document p k q is at up = absurd (let bad : None ≡ Some p = is in cc)
  closest_child (here {p = m} r there stops) p k q is at up = (k, q, at, up ∙ is)
  closest_child (further {p = m} r there passed rest) p k q is at up = closest_child rest p m r is there refl

  pub only_inner : ((k p : ℕ) (q r : Row) → slice_get rows k ≡ Some q → above_of q ≡ Some p → slice_get rows p ≡ Some r → is_low r.label.defined.kind ≡ false)
      → OnlyInnerHold rows
  only_inner high p c module_file name r at is child =
      let (j, x, there, up) = closest_child child.above p c child.row refl child.at refl in
      inner_or_low r.label.defined.kind is (high j p x r there up at)

-- the kind that a keyword gives a node is that of its item
abbrev is_told : List ℕ × Keyword → Bool
is_told n = not (is_low (kind_of n.1)) || is_lowest (unwrap_or (kind_of_keyword n.0) given.Uses)

and_first : (a b : Bool) → (a && b) ≡ true → a ≡ true
and_first true b h = refl
and_first false b h = absurd (false≢true h)

and_second : (a b : Bool) → (a && b) ≡ true → b ≡ true
and_second true b h = h
and_second false b h = absurd (false≢true h)

told_in : (ns : List (List ℕ × Keyword)) (text : List ℕ) → list_all is_told ns ≡ true → is_low (kind_of (keyword_in ns text)) ≡ true
    → is_lowest (unwrap_or (kind_of_keyword text) given.Uses) ≡ true
told_in [] text all low = absurd (false≢true low)
told_in (n ∷ ns) text all low = by (bytes_eq n.0 text) refl (told_in ns text (and_second (is_told n) (list_all is_told ns) all)) low
  where
    this : (a b : Bool) → (not a || b) ≡ true → a ≡ true → b ≡ true
    this true b h e = h
    this false b h e = absurd (false≢true e)

    by : (b : Bool) → bytes_eq n.0 text ≡ b → (is_low (kind_of (keyword_in ns text)) ≡ true → is_lowest (unwrap_or (kind_of_keyword text) given.Uses) ≡ true)
        → is_low (kind_of (if b then n.1 else keyword_in ns text)) ≡ true → is_lowest (unwrap_or (kind_of_keyword text) given.Uses) ≡ true
    by true e others h =
        ap (λ (w : List ℕ). is_lowest (unwrap_or (kind_of_keyword w) given.Uses)) (sym ((bytes_eq-Decides n.0 text).0 e))
        ∙ this (is_low (kind_of n.1)) (is_lowest (unwrap_or (kind_of_keyword n.0) given.Uses)) (and_first (is_told n) (list_all is_told ns) all) h
    by false e others h = others h

told_names : list_all is_told names ≡ true
unfolding kind_of_keyword
told_names = refl

told_word : (text : List ℕ) → is_low (kind_of (keyword_of text)) ≡ true → is_lowest (unwrap_or (kind_of_keyword text) given.Uses) ≡ true
unfolding keyword_of
told_word text low = by (list_any (λ b. b == colon) text) low
  where
    by : (b : Bool) → is_low (kind_of (if b then word.Extended else keyword_in names text)) ≡ true → is_lowest (unwrap_or (kind_of_keyword text) given.Uses) ≡ true
    by true h = absurd (false≢true h)
    by false h = told_in names text told_names h

abbrev pub Headed : Files → Type 0
Headed files = map (λ t. t.head) (statements_of files) ≡ map (λ r. r.head) (rows_of files)

statement_kind : (files : Files) → Headed files → (k : ℕ) → is_lowest (kind_at (slice_get (rows_of files) k)) ≡ false
    → is_low (kind_of (keyword_at (statement_at files k))) ≡ false
statement_kind files headed k high = by (slice_get (rows_of files) k) refl high
  where
    by : (o : Option entry.Row) → slice_get (rows_of files) k ≡ o → is_lowest (kind_at o) ≡ false → is_low (kind_of (keyword_at (statement_at files k))) ≡ false
    by None at h = absurd (false≢true (sym h))
    by (Some r) at h =
        let found = made_at (λ (t : statement.Tree). t.head) (statements_of files) k r.head
        (ap (λ hs. slice_get hs k) headed ∙ slice_get-map (λ (r : entry.Row). r.head) (rows_of files) k ∙ ap (option_map (λ (r : entry.Row). r.head)) at) in
        let is : statement_at files k ≡ found.0 = get_or_from_slice_get (statements_of files) k found.0 no_statement found.1 in
        let head : (statement_at files k).head ≡ r.head = ap (λ (t : statement.Tree). t.head) is ∙ found.2 in
        false_from_ne_true (is_low (kind_of (keyword_at (statement_at files k)))) (λ low.
        false≢true (sym h ∙ told_word r.head.keyword (ap (λ (x : statement.Head). is_low (kind_of (keyword_of x.keyword))) (sym head) ∙ low)))

-- so the kind of a node, as refines change it, is that of its item
refined_kind : (typing : TypeMeanings) (files : Files) → Headed files → (from : Origin) (refines : List ℕ) → is_lowest (item_kind (rows_of files) from) ≡ false
    → is_low (refined_definition typing files from refines).kind ≡ false
refined_kind typing files headed (origin.Statement k) refines high = statement_kind files headed k high
refined_kind typing files headed (origin.Input k) refines high = refl
refined_kind typing files headed (origin.Output k) refines high = refl

abbrev pub NothingBelow : Type 0
NothingBelow = (choice : ModuleChoice) (files : Files) (truth : Truth) (f : Final) (nodes : Nodes) (place p : ℕ) (x : Node) → Conform files
    → IsFinal choice files f → AreLeft truth files f nodes → slice_get (items.item_list None 0 nodes) place ≡ Some x → x.parent ≡ Some p
    → (above : Node) × (item : Item) × (slice_get (items.item_list None 0 nodes) p ≡ Some above) × (slice_get f.items above.origin ≡ Some item)
    × (is_lowest (item_kind (rows_of files) item.origin) ≡ false)

module _ (b : NumberedBasis) where
  abbrev defined_of : ℕ → Definition
  defined_of n = refined_definition b.typing b.files (origin_at b.final.items n) (get_or (changes_of b.files b.final) n [])

  -- what is said of the rows of a schema tree is what is said of its nodes
  rows_defined : (parent : NodeId) (up : Option ℕ) (number first : ℕ) (above : List Label) (t : items.Nodes)
      → map (λ (r : Row). r.label.defined) (rows_below parent number (with_labels b above t)) ≡ map (λ (x : Node). defined_of x.origin) (items.item_list up first t)
  rows_defined parent up number first above items.none = refl
  rows_defined parent up number first above (items.item n below behind) =
      let line : List Label = label_at b above n ∷ above in
      let said : Row → Definition = λ r. r.label.defined in
      let meant : Node → Definition = λ x. defined_of x.origin in
      let inner : List Row = rows_below (number_at number) (number + 1) (with_labels b line below) in
      let outer : List Row = rows_below parent (number + 1 + count (with_labels b line below)) (with_labels b above behind) in
      let inside : List Node = items.item_list (Some first) (first + 1) below in
      let beside : List Node = items.item_list up (first + 1 + items.count below) behind in
      ap (λ (ds : List Definition). defined_of n ∷ ds)
      (map-append said inner outer
      ∙ ap (λ (ds : List Definition). ds ++ map said outer) (rows_defined (number_at number) (Some first) (number + 1) (first + 1) line below)
      ∙ ap (λ (ds : List Definition). map meant inside ++ ds) (rows_defined parent up (number + 1 + count (with_labels b line below)) (first + 1 + items.count below) above behind)
      ∙ sym (map-append meant inside beside))

  row_defined : (p : ℕ) (r : Row) (x : Node) → slice_get (rows_from 0 (stated_of b)) p ≡ Some r → slice_get (nodes_in b) p ≡ Some x → r.label.defined ≡ defined_of x.origin
  row_defined p r x at there =
      let rows : List Row = rows_from 0 (stated_of b) in
      same_Some r.label.defined (defined_of x.origin)
      (sym (ap (option_map (λ (r : Row). r.label.defined)) at) ∙ sym (slice_get-map (λ (r : Row). r.label.defined) rows p)
      ∙ ap (λ (ds : List Definition). slice_get ds p) (rows_defined (parent_of None) None 0 0 [] b.nodes)
      ∙ slice_get-map (λ (x : Node). defined_of x.origin) (nodes_in b) p ∙ ap (option_map (λ (x : Node). defined_of x.origin)) there)

  -- the node of each row
  node_at : (k : ℕ) (q : Row) → slice_get (rows_from 0 (stated_of b)) k ≡ Some q → (x : Node) × (slice_get (nodes_in b) k ≡ Some x) × (q.parent ≡ parent_of x.parent)
  node_at k q at =
      let rows : List Row = rows_from 0 (stated_of b) in
      let within : k < length rows = slice_get_within rows k q at in
      let many : length rows ≡ length (nodes_in b) = count_rows b rows refl in
      elim ((slice_get_cases (nodes_in b) k).1) [
        | inl (x, lt, there, e) ↦
            (x, there, sym (ap (λ (r : Row). r.parent) (get_or_from_slice_get rows k q q at)) ∙ row_parent b rows k x q refl there)
        | inr (past, none) ↦ absurd (omega (arith, within, many, past))
      ]

  parent_place : (up : Option ℕ) (q : Row) (p : ℕ) → q.parent ≡ parent_of up → above_of q ≡ Some p → up ≡ Some p
  parent_place None q p is above =
      absurd (let bad : None ≡ Some p = sym (ap (λ (n : NodeId). if is_root n then None else Some n.0) is) ∙ above in cc)
  parent_place (Some m) q p is above = by (is_root (number_at m)) (sym (ap (λ (n : NodeId). if is_root n then None else Some n.0) is) ∙ above)
    where
      by : (b : Bool) → (if b then None else Some m) ≡ Some p → Some m ≡ Some p
      by true h = absurd (let bad : None ≡ Some p = h in cc)
      by false h = h

  pub basis_inner : (choice : ModuleChoice) → IsNumberedBasis choice b → Conform b.files → Headed b.files → NothingBelow → OnlyInnerHold (rows_from 0 (stated_of b))
  basis_inner choice is fine headed below =
      only_inner (rows_from 0 (stated_of b)) (λ k p q r at up there.
      let (x, node, parent) = node_at k q at in
      let (above, item, found, made, high) = below choice b.files b.truth b.final b.nodes k p x fine is.final is.nodes node (parent_place x.parent q p parent up) in
      let said : r.label.defined ≡ defined_of above.origin = row_defined p r above there found in
      let from : origin_at b.final.items above.origin ≡ item.origin =
      ap (λ (i : Item). i.origin) (get_or_from_slice_get b.final.items above.origin item no_item made) in
      ap (λ (d : Definition). is_low d.kind) said
      ∙ refined_kind b.typing b.files headed (origin_at b.final.items above.origin) (get_or (changes_of b.files b.final) above.origin [])
      (ap (λ (o : Origin). is_lowest (item_kind (rows_of b.files) o)) from ∙ high))
