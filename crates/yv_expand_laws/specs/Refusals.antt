-- The refusals of the final tree by number are those of the definition on trees (RFC 7950, sections
-- 7.12 to 7.17).
use Rattle.std.specs.Prelude.{◌↔◌}
use Rattle.yv_text_statement.specs.declared.refusal.Refusal.{Refusal}
use Rattle.yv_text_statement.specs.Selection.{ModuleChoice}
use Rattle.yv_link_scopes.specs.Files.{Files}
use Rattle.yv_expand_tree.specs.Final.{Final, IsFinal}
use Rattle.yv_expand_tree.specs.Refusals.{BadFinal, BadStanding}
use Rattle.yv_expand_definition.specs.Refusals.{BadExpanded}
use Rattle.yv_expand_laws.specs.Files.{HaveRoots}
use Rattle.yv_expand_laws.specs.Impositions.{UsesAreOptional}
use Rattle.yv_expand_laws.specs.StatementItems.{AreSound}

-- what is refused of a final tree of files is what is refused of their expansion
abbrev pub RefusalsAreOne : Files → Type 0
RefusalsAreOne files =
    (choice : ModuleChoice) (f : Final) (r : Refusal) → AreSound files → HaveRoots files
    → UsesAreOptional files → IsFinal choice files f
    → BadStanding files f r ↔ BadExpanded choice files r

-- so where files have a final tree, they are refused for one where their expansion is refused
abbrev pub FinalRefusalsAreOne : Files → Type 0
FinalRefusalsAreOne files =
    (choice : ModuleChoice) (f : Final) (r : Refusal) → AreSound files → HaveRoots files
    → UsesAreOptional files → IsFinal choice files f
    → BadFinal choice files r ↔ BadExpanded choice files r
