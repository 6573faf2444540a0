-- A refine is refused by number exactly where the definition on trees refuses it (RFC 7950, section
-- 7.13.2).
use Rattle.std.specs.Prelude.{◌≡◌, ◌⊎◌}
use Rattle.yv_text_statement.specs.declared.refusal.Code.TheVariants as code
use Rattle.yv_text_statement.specs.declared.refusal.Refusal.{Refusal}
use Rattle.yv_link_scopes.specs.Files.{Files}
use Rattle.yv_expand_changes.specs.Refusals.{BadRefines}
use Rattle.yv_expand_tree.specs.Final.{refined_of, spots_of, final_items}
use Rattle.yv_expand_definition.specs.Gives.{Product, Wrong}
use Rattle.yv_expand_laws.specs.AlikeRefusals.{RefuseAlike, RefusesWrong}

-- a refusal of a refine: it means no node, or isn't fit for the one that it means
abbrev pub IsOfRefine : Wrong → Type 0
IsOfRefine e = (e.code ≡ code.RefineTarget) ⊎ (e.code ≡ code.BadRefine)

-- what the files expand to refuses a refine
abbrev pub RefusesRefine : Files → Product → Refusal → Type 0
RefusesRefine files m f = (e : Wrong) × IsOfRefine e × RefusesWrong files e m f

-- the same refines are refused
abbrev pub RefinesAreOne : Files → Type 0
RefinesAreOne files =
    RefuseAlike files
    (λ f. BadRefines files (spots_of files f) (refined_of files f) (final_items f))
    (λ marks. RefusesRefine files)
