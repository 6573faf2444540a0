-- What is wrong with the expansion of the files of implemented modules (RFC 7950, sections 7.12,
-- 7.13 and 7.17).
use Rattle.std.specs.Prelude.{◌⊎◌, ℕ, None}
use Rattle.yv_text_statement.specs.declared.refusal.Refusal.{Refusal}
use Rattle.yv_text_statement.specs.Selection.{ModuleChoice}
use Rattle.yv_link_scopes.specs.Files.{Files}
use Rattle.yv_link_scopes.specs.RowList.{rows_of}
use Rattle.yv_expand_statements.specs.Limit.{TooMany}
use Rattle.yv_expand_augments.specs.Refusals.{BadTarget, TooDeep}
use Rattle.yv_expand_augments.specs.MandatoryNodes.{ImposesMandatory, nothing_around}
use Rattle.yv_expand_augments.specs.Placement.{PutsMisplaced}
use Rattle.yv_expand_augments.specs.MissingTargets.{MissesTarget}
use Rattle.yv_expand_changes.specs.Refusals.{BadRefines}
use Rattle.yv_expand_changes.specs.Properties.{told_of}
use Rattle.yv_expand_tree.specs.Final.{Final, IsFinal, refined_of, said_of, spots_of, final_items, whole_of}
use Rattle.yv_expand_statements.specs.FileOrder.{marks_of}

-- an augment adds to no node, or adds what may not be there
abbrev pub BadAugments : Files → Final → Refusal → Type 0
BadAugments files t f =
    (BadTarget (whole_of files t) t.items t.state f
    ⊎ MissesTarget (whole_of files t) t.items (final_items t) f)
    ⊎ (PutsMisplaced (rows_of files) (spots_of files t) (final_items t) f
    ⊎ ImposesMandatory (rows_of files) (spots_of files t) t.augments
    (told_of (said_of files t)) None nothing_around t.tree f)

-- a node is too deep, a refine means no node or isn't fit for it, or an augment is wrong. All is
-- asked of the final tree
abbrev pub BadStanding : Files → Final → Refusal → Type 0
BadStanding files t f =
    TooDeep (rows_of files) (spots_of files t) (final_items t) f
    ⊎ (BadRefines files (spots_of files t) (refined_of files t) (final_items t) f
    ⊎ BadAugments files t f)

-- a refusal of the final tree of these files
pub record BadFinal (choice : ModuleChoice) (files : Files) (f : Refusal) : Type 0 where
  pub final : Final
  pub is_final : IsFinal choice files final
  pub stands : BadStanding files final f

-- the expansion passes the limit, or something is wrong with the final tree
abbrev pub BadExpansion : ModuleChoice → Files → (limit : ℕ) → Refusal → Type 0
BadExpansion choice files limit f =
    TooMany files (marks_of choice files) limit f ⊎ BadFinal choice files f
