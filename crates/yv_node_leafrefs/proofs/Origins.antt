-- The node whose types another has.
use Rattle.std.proofs.Common.{◌≡◌, ℕ, refl, subst}
use Rattle.yv_node_leafrefs.specs.Schema.{Schema}
use Rattle.yv_node_leafrefs.specs.Targets.{HasTypesOf, own, along}
use Rattle.yv_node_leafrefs.proofs.Lawful.{one_target}

-- a node has the types of one node
pub one_origin : (t : Schema) (n e f : ℕ) → HasTypesOf t n e → HasTypesOf t n f → e ≡ f
one_origin t n e f (own none) (own other) = refl
one_origin t n e f (own none) (along {target = y} refers rest) = absurd (none y refers)
one_origin t n e f (along {target = x} refers rest) (own none) = absurd (none x refers)
one_origin t n e f (along {target = x} refers rest) (along {target = y} other more) = one_origin t x e f rest (subst (λ k. HasTypesOf t k f) (one_target t n y x other refers) more)
