use Rattle.std.proofs.Common.{◌≡◌, length, map}
use Rattle.yv_text_statement.specs.Selection.{ModuleChoice}
use Rattle.yv_link_scopes.specs.Files.{Files, brief_of}
use Rattle.yv_link.specs.LinkedFiles.{AreLinked}
use Rattle.yv_type_identities.specs.InnerCandidates.{AreModuleNames}
use Rattle.yv_type_identities.proofs.candidates.module_names.Given as goal

abbrev pub invariant-loop-file : goal.invariant-loop-file
invariant-loop-file l = record {
  count : length l.module_files.items ≡ l.file;
  are : (files : Files) (choice : ModuleChoice) → AreLinked files choice l.linked → AreModuleNames (map brief_of files) l.module_files.items;
}
