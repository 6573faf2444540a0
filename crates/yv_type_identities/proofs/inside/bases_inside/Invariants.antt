use Rattle.std.proofs.Common.{map}
use Rattle.yv_text_statement.specs.Selection.{ModuleChoice}
use Rattle.yv_link_scopes.specs.Files.{Files, brief_of}
use Rattle.yv_link_scopes.specs.RowList.{rows_of}
use Rattle.yv_link.specs.LinkedFiles.{AreLinked}
use Rattle.yv_type_identities.proofs.Blocks.{Listed}
use Rattle.yv_type_identities.proofs.inside.bases_inside.Given as goal

abbrev pub invariant-loop-entry : goal.invariant-loop-entry
invariant-loop-entry l = (files : Files) (choice : ModuleChoice) → AreLinked files choice l.linked → Listed (map brief_of files) (rows_of files) l.entry-index l.inside.items
