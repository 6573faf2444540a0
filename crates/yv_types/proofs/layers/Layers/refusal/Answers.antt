use Rattle.std.proofs.Common.{◌⊎◌}
use Rattle.yv_text_statement.proofs.Least.{least_lesser}
use Rattle.yv_type_chains.specs.Refusals.{BadKinds}
use Rattle.yv_type_restrictions.specs.Refusals.{BadFaceted}
use Rattle.yv_type_enums.specs.Refusals.{BadLists}
use Rattle.yv_types.proofs.layers.Layers.refusal.Goals as goal

pub returns : goal.returns
returns c = λ files truth are.
    least_lesser (BadKinds files) (λ f. BadFaceted files f ⊎ BadLists files truth f) _ _ _ c.lesser.ensures (c.refusal-3.ensures files are.based)
    (least_lesser (BadFaceted files) (BadLists files truth) _ _ _ c.lesser-restrictions.ensures (c.refusal.ensures files are.faceted) (c.refusal-2.ensures files truth are.listed))
