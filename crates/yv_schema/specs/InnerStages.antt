-- Only private clauses cite this: what the compilation of files refuses, stage by stage.
use Rattle.std.specs.Prelude.{◌⊎◌, ℕ, length}
use Rattle.yv_text_statement.specs.declared.refusal.Refusal.{Refusal}
use Rattle.yv_text_statement.specs.Order.{Among}
use Rattle.yv_text_statement.specs.Selection.{ModuleChoice}
use Rattle.yv_link_scopes.specs.Files.{Files}
use Rattle.yv_link.specs.Links.{BadLinks}
use Rattle.yv_link_definitions.specs.Refusals.{BadNames}
use Rattle.yv_schema.specs.Refusals.{BadFile, BadTyping}
use Rattle.yv_schema.specs.Refuses.{BadSchema, RefusesExpansion}

-- what is refused before types are read: every file as such, its links to others, its features and
-- its identities, the names of its definitions, and then the expansion
abbrev pub RefusesInStagesBeforeTypes : ModuleChoice → Files → (limit : ℕ) → Refusal → Type 0
RefusesInStagesBeforeTypes choice files limit f =
    Among files BadFile (length files) f
    ⊎ (BadLinks files f ⊎ (BadNames files f ⊎ RefusesExpansion choice files limit f))

-- all that is refused: the types of every file too, and of the implemented modules the nodes
abbrev pub RefusesInStages : ModuleChoice → Files → (limit : ℕ) → Refusal → Type 0
RefusesInStages choice files limit f = RefusesInStagesBeforeTypes choice files limit f
    ⊎ (BadTyping choice files f ⊎ BadSchema choice files f)
