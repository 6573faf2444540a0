-- Only private clauses cite this: what is known of files between the phases of their compilation.
use Rattle.std.specs.Prelude.{◌≡◌, ℕ, ◌≤◌, None, Some, Err, Result, IfOk, OnOk, length}
use Rattle.yv_text_statement.specs.Order.{Among, IsLeast}
use Rattle.yv_text_statement.specs.Selection.{ModuleChoice}
use Rattle.yv_link_scopes.specs.Files.{Files}
use Rattle.yv_link_scopes.specs.RowList.{rows_of}
use Rattle.yv_link.specs.LinkedFiles.{AreLinked, truth_in}
use Rattle.yv_link.specs.Links.{BadLinks}
use Rattle.yv_link.specs.declared.linked_files.Linked.{Linked}
use Rattle.yv_link_definitions.specs.Meanings.{AreNames}
use Rattle.yv_link_definitions.specs.Refusals.{BadNames}
use Rattle.yv_link_definitions.specs.declared.meaning_table.Names.{Names}
use Rattle.yv_expand_statements.specs.FileOrder.{marks_of}
use Rattle.yv_expand_statements.specs.Truth.{Truth}
use Rattle.yv_expand_definition.specs.Remains.{AreNodes}
use Rattle.yv_expand_laws.specs.Files.{ShowFiles}
use Rattle.yv_expand_laws.specs.Schema.{shown_nodes}
use Rattle.yv_expand_laws.specs.Shows.{Items}
use Rattle.yv_expand_tree.specs.FinalTree.{AreKept, FinalTreeView}
use Rattle.yv_nodes.specs.Rows.{Rows, whole}
use Rattle.yv_nodes.specs.Tree.{count}
use Rattle.yv_schema_tables.specs.Sound.{IsSound}
use Rattle.yv_text_statement.specs.declared.refusal.Refusal.{Refusal}
use Rattle.yv_text_statement.specs.declared.refusal.Stop.{Stop}
use Rattle.yv_text_statement.specs.declared.refusal.Stop.TheVariants.{Fault, PatternBuild}
use Rattle.yv_type_restrictions.specs.Types.{HasTypePattern}
use Rattle.yv_schema.specs.InnerStages.{RefusesInStages, RefusesInStagesBeforeTypes}
use Rattle.yv_schema.specs.LinkedLeafrefs.{AreLinked as AreLinkedLeafrefs}
use Rattle.yv_schema.specs.Module.{modules_of}
use Rattle.yv_schema.specs.Notes.{AreNotes}
use Rattle.yv_schema.specs.Refusals.{BadFile}
use Rattle.yv_schema.specs.Schema.{AreReferences, IsSchema}
use Rattle.yv_schema.specs.Units.{TakeUnits}

-- files are linked, their statements can be numbered, and nothing is refused so far
pub record AreClear (choice : ModuleChoice) (files : Files) (linked : Linked) : Type 0 where
  pub few : length files ≤ 4294967296
  pub statements : length (rows_of files) ≤ 4294967293
  pub own : IsLeast (Among files BadFile (length files)) None
  pub links : IsLeast (BadLinks files) None
  pub are : AreLinked files choice linked

-- there are such files
pub record SomeClear (choice : ModuleChoice) (linked : Linked) : Type 0 where
  pub files : Files
  pub clear : AreClear choice files linked

-- these are the names of their definitions besides, of which nothing is refused
pub record AreNamed (choice : ModuleChoice) (files : Files) (linked : Linked)
    (names : Names) : Type 0 where
  pub clear : AreClear choice files linked
  pub are_names : AreNames files names
  pub fine : IsLeast (BadNames files) None

-- there are such files
pub record SomeNamed (choice : ModuleChoice) (linked : Linked) (names : Names) : Type 0 where
  pub files : Files
  pub named : AreNamed choice files linked names

-- the nodes that a final tree has left are those of the schema of files: its items show them
pub record ShowsTree (choice : ModuleChoice) (files : Files) (truth : Truth)
    (tree : FinalTreeView) : Type 0 where
  pub kept : AreKept choice files truth tree
  pub its : Items
  pub told : ShowFiles files (marks_of choice files) kept.final.items its
  pub are_nodes : AreNodes choice files (shown_nodes its kept.nodes)

-- this is their final tree besides, and nothing is refused before their types
pub record AreExpanded (choice : ModuleChoice) (files : Files) (limit : ℕ) (linked : Linked)
    (names : Names) (tree : FinalTreeView) : Type 0 where
  pub clear : AreClear choice files linked
  pub are_names : AreNames files names
  pub shows : ShowsTree choice files (truth_in linked) tree
  pub before : IsLeast (RefusesInStagesBeforeTypes choice files limit) None

-- there are such files
pub record SomeExpanded (choice : ModuleChoice) (limit : ℕ) (linked : Linked) (names : Names)
    (tree : FinalTreeView) : Type 0 where
  pub files : Files
  pub expanded : AreExpanded choice files limit linked names tree

-- a schema is that of files, with this limit
pub record IsCompiled (choice : ModuleChoice) (files : Files) (limit : ℕ) (s : Rows) : Type 0 where
  pub schema : IsSchema choice files (whole s)
  pub limited : s.limit ≡ limit
  pub modules : s.modules ≡ modules_of choice files
  pub augments : AreNotes choice files s.augments
  pub references : AreReferences choice files s.links
  pub links : AreLinkedLeafrefs choice files (whole s) s.links
  pub units : (units : ℕ) → TakeUnits choice files units → count (whole s) ≤ units
  pub sound : IsSound s

-- the compilation of files comes to this: their schema, where nothing is refused, or the least
-- refusal, or that a pattern isn't built, where nothing is refused before the types
pub record Compiles (choice : ModuleChoice) (files : Files) (limit : ℕ)
    (result : Result Rows Stop) : Type 0 where
  pub schema : IfOk result (IsCompiled choice files limit)
  pub clear : OnOk result (IsLeast (RefusesInStages choice files limit) None)
  pub refusal : (r : Refusal) → result ≡ Err (Fault r)
      → IsLeast (RefusesInStages choice files limit) (Some r)
  pub builds : result ≡ Err PatternBuild → HasTypePattern files
  pub before : result ≡ Err PatternBuild
      → IsLeast (RefusesInStagesBeforeTypes choice files limit) None
