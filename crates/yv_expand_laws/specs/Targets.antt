-- An augment of a module is refused for its target by number exactly where the definition on trees
-- refuses it (RFC 7950, section 7.17).
use Rattle.yv_text_statement.specs.declared.refusal.Code.TheVariants as code
use Rattle.yv_link_scopes.specs.Files.{Files}
use Rattle.yv_expand_augments.specs.Refusals.{BadTarget}
use Rattle.yv_expand_tree.specs.Final.{whole_of}
use Rattle.yv_expand_laws.specs.AlikeRefusals.{RefuseAlike, RefusesModuleAugment}

-- the same augments of modules are refused for their targets
abbrev pub TargetsAreOne : Files → Type 0
TargetsAreOne files =
    RefuseAlike files (λ f. BadTarget (whole_of files f) f.items f.state)
    (RefusesModuleAugment files code.AugmentTarget)
