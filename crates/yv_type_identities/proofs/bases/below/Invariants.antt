use Rattle.std.proofs.Common.{map}
use Rattle.yv_text_statement.specs.Selection.{ModuleChoice}
use Rattle.yv_link_scopes.specs.Files.{Files, brief_of}
use Rattle.yv_link_scopes.specs.RowList.{rows_of}
use Rattle.yv_link.specs.LinkedFiles.{AreLinked}
use Rattle.yv_type_identities.specs.InnerSets.{is_left}
use Rattle.yv_type_identities.proofs.Below.{Leaving}
use Rattle.yv_type_identities.proofs.bases.below.Given as goal

abbrev pub invariant-loop-base : goal.invariant-loop-base
invariant-loop-base l = (files : Files) (choice : ModuleChoice) → AreLinked files choice l.linked → Leaving (map brief_of files) (rows_of files) l.key l.base-index (is_left l.left)
