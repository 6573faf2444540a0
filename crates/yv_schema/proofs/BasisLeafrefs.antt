-- The leafrefs of a basis, and those that are read of its nodes.
use Rattle.std.proofs.Common.{◌≡◌, ◌≢◌, ◌⊎◌, inl, inr, ℕ, ◌+◌, ◌<◌, ◌≤◌, List, [], ◌∷◌, ◌++◌, length, map, refl, sym, ap, ◌∙◌, arith, Option, Some, None}
use Rattle.std.specs.List.{slice_get}
use Rattle.std.specs.Option.{option_and_then, option_map}
use Rattle.std.proofs.lemmas.Bool.{cases_lt}
use Rattle.std.proofs.lemmas.List.{get_or_past, length-map, map-append}
use Rattle.std.proofs.lemmas.Option.{slice_get-map}
use Rattle.yv_text_statement.specs.Order.{IsLeast}
use Rattle.yv_text_statement.specs.declared.refusal.Refusal.{Refusal}
use Rattle.yv_text_statement.specs.Tree.{Tree, name_of as name_of_head}
use Rattle.yv_text_statement.specs.Keywords.{keyword_of}
use Rattle.yv_link_scopes.specs.Files.{Files}
use Rattle.yv_link_scopes.specs.RowList.{rows_of, statements_of}
use Rattle.yv_link_scopes.specs.Rows.{Row as Statement}
use Rattle.yv_node_properties.specs.Statements.{no_statement, statement_at}
use Rattle.yv_expand.specs.Tree as items
use Rattle.yv_expand.specs.Tree.{Item, Node}
use Rattle.yv_expand_statements.specs.declared.origin.Origin.{Origin}
use Rattle.yv_expand_statements.specs.declared.origin.Origin.TheVariants as origin
use Rattle.yv_node_statements.specs.Definitions.{definition_of, kind_of, node_name}
use Rattle.yv_node_statements.specs.Kinds.{TypeMeanings}
use Rattle.yv_expand_tree.specs.Final.{Final}
use Rattle.yv_expand_tree.specs.FinalTree.{origin_at}
use Rattle.yv_nodes.specs.declared.node.NodeId.{NodeId}
use Rattle.yv_nodes.specs.Numbers.{rows_below, rows_from}
use Rattle.yv_nodes.specs.Rows.{Row, root}
use Rattle.yv_nodes.specs.Tree.{count, Label}
use Rattle.yv_nodes.specs.Link.{Link}
use Rattle.yv_node_leafrefs.specs.Bad.{BadLeafrefs}
use Rattle.yv_node_leafrefs.specs.DefiningStatements.{AreNamed}
use Rattle.yv_node_leafrefs.specs.Schema.{AreAlike, Referral, Schema, leafref_of_row}
use Rattle.yv_node_leafrefs.specs.Links.{AreLinks}
use Rattle.yv_schema.specs.Referrals.{referral_at}
use Rattle.yv_schema.specs.InnerResolution.{origins_of, schema_of_rows, statement_number}
use Rattle.yv_schema.specs.InnerBasis.{NumberedBasis, label_at, with_labels, leafrefs_of, nodes_in, stated_of}
use Rattle.yv_schema.specs.InnerContext.{Tells}
use Rattle.yv_schema.specs.declared.context.Context.{Context}
use Rattle.yv_schema.proofs.ParentNodes.{count_rows, made_at}
use Rattle.yv_schema.proofs.SchemaTreeRows.{count_labelled}

-- what follows from a part of what may be there
then_mapped : {X Y Z : Type 0} (f : X → Y) (g : Y → Option Z) (o : Option X) → option_and_then g (option_map f o) ≡ option_and_then (λ x. g (f x)) o
then_mapped f g None = refl
then_mapped f g (Some x) = refl

-- the statements have as many rows
pub count_statements : (files : Files) → map (λ (t : Tree). t.head) (statements_of files) ≡ map (λ (r : Statement). r.head) (rows_of files) → length (rows_of files) ≡ length (statements_of files)
count_statements files heads =
    sym (length-map (rows_of files) (λ (r : Statement). r.head)) ∙ sym (ap length heads) ∙ length-map (statements_of files) (λ (t : Tree). t.head)

-- what stands past all statements is one thing
past_all : (files : Files) (m n : ℕ) → length (statements_of files) ≤ m → length (statements_of files) ≤ n → statement_at files m ≡ statement_at files n
past_all files m n past too = get_or_past (statements_of files) m no_statement past ∙ sym (get_or_past (statements_of files) n no_statement too)

-- nodes of one number have one name
same_name : (typing : TypeMeanings) (files : Files) (count : ℕ) (p q : Origin) → count ≡ length (statements_of files) → statement_number count p ≡ statement_number count q
    → (definition_of typing files p).name ≡ (definition_of typing files q).name
same_name typing files count (origin.Statement m) (origin.Statement n) many same = by (cases_lt m count) (cases_lt n count)
  where
    by : (m < count) ⊎ (count ≤ m) → (n < count) ⊎ (count ≤ n) → (definition_of typing files (origin.Statement m)).name ≡ (definition_of typing files (origin.Statement n)).name
    by (inl here) (inl too) = let is : m ≡ n = omega (arith, same, here, too) in ap (λ k. (definition_of typing files (origin.Statement k)).name) is
    by (inl here) (inr past) = absurd (omega (arith, same, here, past))
    by (inr past) (inl here) = absurd (omega (arith, same, here, past))
    by (inr past) (inr too) =
        ap (λ (t : Tree). node_name (kind_of (keyword_of t.head.keyword)) (name_of_head t.head)) (past_all files m n (omega (arith, past, many)) (omega (arith, too, many)))
same_name typing files count (origin.Statement m) (origin.Input n) many same = absurd (omega (arith, same))
same_name typing files count (origin.Statement m) (origin.Output n) many same = absurd (omega (arith, same))
same_name typing files count (origin.Input m) (origin.Statement n) many same = absurd (omega (arith, same))
same_name typing files count (origin.Input m) (origin.Input n) many same = refl
same_name typing files count (origin.Input m) (origin.Output n) many same = absurd (omega (arith, same))
same_name typing files count (origin.Output m) (origin.Statement n) many same = absurd (omega (arith, same))
same_name typing files count (origin.Output m) (origin.Input n) many same = absurd (omega (arith, same))
same_name typing files count (origin.Output m) (origin.Output n) many same = refl

module _ (b : NumberedBasis) where
  abbrev origin_of : Node → Origin
  origin_of x = origin_at b.final.items x.origin

  abbrev name_of : Node → List ℕ
  name_of x = (definition_of b.typing b.files (origin_of x)).name

  -- the names of the rows of a tree are those that the statements of its nodes say
  row_names : (parent : NodeId) (place : Option ℕ) (first : ℕ) (above : List Label) (t : items.Nodes)
      → map (λ (r : Row). r.label.defined.name) (rows_below parent first (with_labels b above t)) ≡ map name_of (items.item_list place first t)
  row_names parent place first above items.none = refl
  row_names parent place first above (items.item number below behind) =
      let line : List Label = label_at b above number ∷ above in
      let own : NodeId = record { 0 = first } in
      let inner : List Row = rows_below own (first + 1) (with_labels b line below) in
      let second : ℕ = first + 1 + items.count below in
      let at : first + 1 + count (with_labels b line below) ≡ second = omega (arith, count_labelled b line below) in
      ap (λ (ns : List (List ℕ)). (label_at b above number).defined.name ∷ ns)
      (map-append (λ (r : Row). r.label.defined.name) inner (rows_below parent (first + 1 + count (with_labels b line below)) (with_labels b above behind))
      ∙ ap (λ (n : ℕ). map (λ (r : Row). r.label.defined.name) inner ++ map (λ (r : Row). r.label.defined.name) (rows_below parent n (with_labels b above behind))) at
      ∙ ap (λ (ns : List (List ℕ)). ns ++ map (λ (r : Row). r.label.defined.name) (rows_below parent second (with_labels b above behind))) (row_names own (Some first) (first + 1) line below)
      ∙ ap (λ (ns : List (List ℕ)). map name_of (items.item_list (Some first) (first + 1) below) ++ ns) (row_names parent place second above behind)
      ∙ sym (map-append name_of (items.item_list (Some first) (first + 1) below) (items.item_list place second behind)))

  -- a row has the name of its node
  row_name : (rows : List Row) (n : ℕ) (r : Row) (x : Node) → rows ≡ rows_from 0 (stated_of b) → slice_get rows n ≡ Some r → slice_get (nodes_in b) n ≡ Some x → r.label.defined.name ≡ name_of x
  row_name rows n r x are at there =
      let of_row : slice_get (map (λ (r : Row). r.label.defined.name) rows) n ≡ Some r.label.defined.name =
      slice_get-map (λ (r : Row). r.label.defined.name) rows n ∙ ap (option_map (λ (r : Row). r.label.defined.name)) at in
      let of_node : slice_get (map (λ (r : Row). r.label.defined.name) rows) n ≡ Some (name_of x) =
      ap (λ (rs : List Row). slice_get (map (λ (r : Row). r.label.defined.name) rs) n) are ∙ ap (λ (ns : List (List ℕ)). slice_get ns n) (row_names root None 0 [] b.nodes)
      ∙ slice_get-map name_of (nodes_in b) n ∙ ap (option_map name_of) there in
      let same : Some r.label.defined.name ≡ Some (name_of x) = sym of_row ∙ of_node in
      cc

  -- nodes that one statement defines have one name
  pub are_named : (count : ℕ) (rows : List Row) (statements : List ℕ) → count ≡ length (statements_of b.files) → rows ≡ rows_from 0 (stated_of b)
      → statements ≡ map (statement_number count) (origins_of b) → AreNamed rows statements
  are_named count rows statements many are numbers = record {
    each =
        ap length numbers ∙ length-map (origins_of b) (statement_number count) ∙ length-map (nodes_in b) origin_of ∙ sym (count_rows b rows are);
    same = λ n m k r q at_n at_m row_n row_m.
        let (p, p_at, p_is) = made_at (statement_number count) (origins_of b) n k (ap (λ (ns : List ℕ). slice_get ns n) (sym numbers) ∙ at_n) in
        let (o, o_at, o_is) = made_at (statement_number count) (origins_of b) m k (ap (λ (ns : List ℕ). slice_get ns m) (sym numbers) ∙ at_m) in
        let (x, x_at, x_is) = made_at origin_of (nodes_in b) n p p_at in
        let (y, y_at, y_is) = made_at origin_of (nodes_in b) m o o_at in
        row_name rows n r x are row_n x_at
        ∙ same_name b.typing b.files count (origin_of x) (origin_of y) many (ap (statement_number count) x_is ∙ p_is ∙ sym (ap (statement_number count) y_is ∙ o_is))
        ∙ sym (row_name rows m q y are row_m y_at);
  }

  -- what is read of the nodes' origins is what the nodes say
  pub are_alike : (rows : List Row) (of : List (Option ℕ)) (leafrefs : List Referral) → rows ≡ rows_from 0 (stated_of b)
      → ((n : ℕ) → leafref_of_row of leafrefs n ≡ option_and_then (referral_at b.typing b.files) (slice_get (origins_of b) n)) → AreAlike (schema_of_rows rows of leafrefs) (leafrefs_of b)
  are_alike rows of leafrefs are told = record {
    rows = are;
    says = λ n. told n ∙ ap (option_and_then (referral_at b.typing b.files)) (slice_get-map origin_of (nodes_in b) n) ∙ then_mapped origin_of (referral_at b.typing b.files) (slice_get (nodes_in b) n);
  }

-- the origins of the nodes that are left, as a context tells them
pub origins_told : (b : NumberedBasis) (c : Context) → Tells b c → map (λ (x : Node). origin_at c.tree.now.items x.origin) c.tree.now.left ≡ origins_of b
origins_told b c tells =
    ap (λ (is : List Item). map (λ (x : Node). origin_at is x.origin) c.tree.now.left) (tells.kept.items ∙ ap (λ (f : Final). f.items) tells.final)
    ∙ ap (map (λ (x : Node). origin_at b.final.items x.origin)) (tells.kept.left ∙ ap (items.item_list None 0) tells.nodes)

-- links are those of the leafrefs where nothing is wrong with these, and else there are none
pub links_are : (b : NumberedBasis) (s : Schema) (o : Option Refusal) (links : List (Option Link)) → IsLeast (BadLeafrefs (leafrefs_of b)) o → (AreLinks s links → AreLinks (leafrefs_of b) links)
    → (o ≡ None → AreLinks s links) → (o ≢ None → links ≡ []) → (IsLeast (BadLeafrefs (leafrefs_of b)) None × AreLinks (leafrefs_of b) links) ⊎ (links ≡ [])
links_are b s None links least same some none = inl (least, same (some refl))
links_are b s (Some r) links least same some none = inr (none (λ e. let bad : Some r ≡ None = e in cc))
