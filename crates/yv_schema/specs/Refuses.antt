-- What the compilation of files refuses, by the tree to which they expand (RFC 7950, sections 3,
-- 7.5 to 7.17, and 9.9).
use Rattle.std.specs.Prelude.{◌⊎◌, ℕ}
use Rattle.yv_text_statement.specs.declared.refusal.Refusal.{Refusal}
use Rattle.yv_text_statement.specs.Selection.{ModuleChoice}
use Rattle.yv_link_scopes.specs.Files.{Files}
use Rattle.yv_expand_statements.specs.Limit.{TooMany}
use Rattle.yv_expand_statements.specs.FileOrder.{marks_of}
use Rattle.yv_expand_definition.specs.Refusals.{BadExpanded}
use Rattle.yv_nodes.specs.Tree.{Forest}
use Rattle.yv_schema.specs.Refusals.{BadNodes, BadTyping, RefusesBeforeExpansion}
use Rattle.yv_schema.specs.Schema.{IsSchema, leafrefs_of}

-- f is in the schema tree of the files
pub record BadSchema (choice : ModuleChoice) (files : Files) (f : Refusal) : Type 0 where
  pub tree : Forest
  pub schema : IsSchema choice files tree
  pub stands : BadNodes (leafrefs_of schema.basis) tree f

-- the expansion passes the limit, or something is wrong with what the files expand to
abbrev pub RefusesExpansion : ModuleChoice → Files → (limit : ℕ) → Refusal → Type 0
RefusesExpansion choice files limit f =
    TooMany files (marks_of choice files) limit f ⊎ BadExpanded choice files f

-- what is refused before types are read
abbrev pub RefusesBeforeTypes : ModuleChoice → Files → (limit : ℕ) → Refusal → Type 0
RefusesBeforeTypes choice files limit f =
    RefusesBeforeExpansion files f ⊎ RefusesExpansion choice files limit f

-- the refusals of files: those before the expansion, those of the tree to which they expand, those
-- of the types of every file, and those of the schema tree
abbrev pub Refuses : ModuleChoice → Files → (limit : ℕ) → Refusal → Type 0
Refuses choice files limit f =
    RefusesBeforeExpansion files f
    ⊎ (RefusesExpansion choice files limit f
    ⊎ (BadTyping choice files f ⊎ BadSchema choice files f))
