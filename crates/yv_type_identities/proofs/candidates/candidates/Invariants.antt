use Rattle.std.proofs.Common.{map}
use Rattle.yv_text_statement.specs.Selection.{ModuleChoice}
use Rattle.yv_link_scopes.specs.Files.{Files, brief_of}
use Rattle.yv_link_scopes.specs.RowList.{rows_of}
use Rattle.yv_link.specs.LinkedFiles.{AreLinked}
use Rattle.yv_type_identities.specs.InnerCandidates.{passes}
use Rattle.yv_type_identities.proofs.StatementCandidates.{Gathered}
use Rattle.yv_type_identities.proofs.candidates.candidates.Given as goal

abbrev pub invariant-loop-at : goal.invariant-loop-at
invariant-loop-at l =
    (files : Files) (choice : ModuleChoice) → AreLinked files choice l.linked
    → Gathered (map brief_of files) (rows_of files) (passes choice (map brief_of files) l.draft.off) l.at l.candidates.items
