-- An augment of a uses is refused for its target by number exactly where the definition on trees
-- refuses it (RFC 7950, sections 7.13 and 7.17).
use Rattle.yv_text_statement.specs.declared.refusal.Code.TheVariants as code
use Rattle.yv_link_scopes.specs.Files.{Files}
use Rattle.yv_expand_augments.specs.MissingTargets.{MissesTarget}
use Rattle.yv_expand_tree.specs.Final.{final_items, whole_of}
use Rattle.yv_expand_laws.specs.AlikeRefusals.{RefuseAlike, RefusesUsesAugment}

-- the same augments of `uses` are refused for their targets
abbrev pub UsesTargetsAreOne : Files → Type 0
UsesTargetsAreOne files =
    RefuseAlike files (λ f. MissesTarget (whole_of files f) f.items (final_items f))
    (RefusesUsesAugment files code.AugmentTarget)
