-- What a schema is built of is in order.
use Rattle.std.proofs.Common.{◌≡◌, ℕ, List, [], refl, sym, ap, ◌∙◌, subst, map, false, true, Option, Some, None, All}
use Rattle.std.specs.List.{slice_get}
use Rattle.yv_text_statement.specs.Tree.{Tree}
use Rattle.yv_text_statement.specs.Selection.{ModuleChoice}
use Rattle.yv_link_scopes.specs.Files.{Files}
use Rattle.yv_link_scopes.specs.RowList.{rows_of, statements_of}
use Rattle.yv_expand.specs.Tree.{Item, Node, Nodes, item_list}
use Rattle.yv_expand_statements.specs.Kinds.{is_uses}
use Rattle.yv_expand_uses.specs.Kinds.{kind_of}
use Rattle.yv_expand_uses.specs.declared.spot.Spot.{Spot}
use Rattle.yv_expand_statements.specs.Truth.{Truth}
use Rattle.yv_expand_tree.specs.Final.{Final, IsFinal, spots_of}
use Rattle.yv_expand_statements.specs.FileOrder.{HaveModuleFiles, is_given}
use Rattle.yv_expand_tree.specs.Remains.{AreLeft}
use Rattle.yv_nodes.specs.declared.node.NodeId.{NodeId}
use Rattle.yv_nodes.specs.Link.{AreLinked, Link, reference_in}
use Rattle.yv_nodes.specs.Numbers.{numbers_from, rows_from}
use Rattle.yv_nodes.specs.Rows.{Module, Note, Row, blank_row}
use Rattle.yv_nodes.specs.Tree.{Forest}
use Rattle.yv_node_leafrefs.specs.Resolution.{IsTyped}
use Rattle.yv_schema_tables.specs.NodeNumbers.{AreFormed, AreModules, AreNumbered, made_of}
use Rattle.yv_schema_tables.specs.Sound.{IsNote}
use Rattle.yv_schema.specs.InnerBuild.{AreNames}
use Rattle.yv_schema.specs.InnerContext.{TellsOf}
use Rattle.yv_schema.specs.InnerBasis.{NumberedBasis, leafrefs_of, stated_of}
use Rattle.yv_schema.specs.Module.{modules_of}
use Rattle.yv_schema.specs.InnerNotes.{notes_of}
use Rattle.yv_schema.specs.declared.context.Context.{Context}
use Rattle.yv_schema.proofs.ModuleNodes.{are_formed, are_modules}
use Rattle.yv_schema.proofs.AugmentNotes.{are_notes}
use Rattle.yv_schema.proofs.ParentNodes.{count_rows, row_parent}
use Rattle.yv_schema.proofs.ResolvedLeafrefs.{FormsStay, NotesStay, RowsStay, TopsStay, forms_resolved, notes_resolved, tops_resolved}
use Rattle.yv_schema.proofs.ContextBasis.{NoneTwice, StandBelow, final_is, follows, left_is}

-- an item belongs to a module that is implemented
abbrev pub AreOfModules : Type 0
AreOfModules = (choice : ModuleChoice) (files : Files) (f : Final) (item : ℕ) (s : Spot) → HaveModuleFiles choice files → IsFinal choice files f → slice_get (spots_of files f) item ≡ Some s
    → (module_file : Tree) × (slice_get files s.module_file ≡ Some module_file) × (is_given choice module_file ≡ true)

-- what is left are items that are no uses
abbrev pub AreNodes : Type 0
AreNodes = (choice : ModuleChoice) (files : Files) (truth : Truth) (f : Final) (nodes : Nodes) (place : ℕ) (x : Node) → IsFinal choice files f → AreLeft truth files f nodes
    → slice_get (item_list None 0 nodes) place ≡ Some x → (s : Spot) × (item : Item) × (slice_get (spots_of files f) x.origin ≡ Some s) × (slice_get f.items x.origin ≡ Some item)
    × (is_uses (kind_of (rows_of files) item.origin) ≡ false)

-- a statement has the head of its row
abbrev pub HaveRows : Type 0
HaveRows = (files : Files) → map (λ t. t.head) (statements_of files) ≡ map (λ r. r.head) (rows_of files)

pub modules_in_order : (choice : ModuleChoice) (files : Files) (modules : List Module) → AreNames choice files → modules ≡ modules_of choice files → AreModules modules
modules_in_order choice files modules names are = subst AreModules (sym are) (are_modules choice files names.plain names.differ)

module _ (choice : ModuleChoice) (files : Files) (c : Context) (names : AreNames choice files) (told : TellsOf choice files c) where
  abbrev b : NumberedBasis
  b = told.basis

  own_names : AreNames choice b.files
  own_names = subst (AreNames choice) (sym told.of_files) names

  own_final : IsFinal choice b.files b.final
  own_final = subst (λ (x : ModuleChoice). IsFinal x b.files b.final) told.chosen (final_is b c told.tells)

  pub formed : AreOfModules → AreNodes → HaveRows → AreFormed (modules_of choice b.files) [] (stated_of b)
  formed of_modules nodes rows =
      are_formed choice b (record { fine = own_names.fine; heads = rows b.files }) (λ i s at. of_modules choice b.files b.final i s own_names.module_files own_final at)
      (λ k x at. nodes choice b.files b.truth b.final b.nodes k x own_final (left_is b c told.tells) at)

  pub numbered_in_order : AreOfModules → AreNodes → HaveRows → TopsStay → FormsStay → (modules : List Module) (nodes : List Row) (top : List NodeId) (links : List (Option Link)) (whole : Forest)
      → IsTyped (leafrefs_of b) (stated_of b) whole → AreLinked (reference_in links) whole → modules ≡ modules_of choice files → nodes ≡ rows_from 0 whole → top ≡ numbers_from 0 (stated_of b) → AreNumbered modules nodes top links
  numbered_in_order of_modules left rows tops forms modules nodes top links whole is linked are rows_are top_is = record {
    trees = whole;
    formed = forms_resolved forms (leafrefs_of b) modules (stated_of b) whole is
        (subst (λ (ms : List Module). AreFormed ms [] (stated_of b)) (ap (modules_of choice) told.of_files ∙ sym are) (formed of_modules left rows));
    rows = rows_are;
    top_is = top_is ∙ sym (tops_resolved tops (leafrefs_of b) (stated_of b) whole is);
    linked = linked;
  }

  pub notes_in_order : StandBelow → NoneTwice → RowsStay → NotesStay → (nodes : List Row) (top : List NodeId) (limit : ℕ) (modules : List Module) (notes : List Note) (links : List (Option Link)) (whole : Forest)
      → IsTyped (leafrefs_of b) (stated_of b) whole → nodes ≡ rows_from 0 whole → notes ≡ notes_of b → All (IsNote (made_of nodes top limit modules notes links)) notes
  notes_in_order below twice rows stay nodes top limit modules notes links whole is rows_are are =
      let stated : List Row = rows_from 0 (stated_of b) in
      let given : All (IsNote (made_of stated top limit modules notes links)) notes =
      are_notes b (follows b c told.tells below twice) (made_of stated top limit modules notes links) (count_rows b stated refl) (λ k x at. row_parent b stated k x blank_row refl at) notes are in
      subst (λ (rs : List Row). All (IsNote (made_of rs top limit modules notes links)) notes) (sym rows_are)
      (notes_resolved rows stay (leafrefs_of b) (stated_of b) whole top limit modules notes links is given)
