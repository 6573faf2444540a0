use Rattle.yv_text_statement.specs.Selection.{ModuleChoice}
use Rattle.yv_link_scopes.specs.Files.{Files}
use Rattle.yv_link_scopes.specs.RowList.{rows_of}
use Rattle.yv_link.specs.LinkedFiles.{AreLinked, truth_in}
use Rattle.yv_type_identities.proofs.EnabledStatements.{Failing}
use Rattle.yv_type_identities.proofs.if_features.off.Given as goal

abbrev pub invariant-loop-entry : goal.invariant-loop-entry
invariant-loop-entry l = (files : Files) (choice : ModuleChoice) → AreLinked files choice l.linked → Failing (truth_in l.linked) (rows_of files) l.entry-index l.numbers
