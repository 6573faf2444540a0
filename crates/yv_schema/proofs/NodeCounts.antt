-- How many nodes a schema tree has.
use Rattle.std.proofs.Common.{◌≡◌, List, ◌∷◌, refl, arith}
use Rattle.yv_expand.specs.Tree as left
use Rattle.yv_expand.specs.Tree.{Nodes}
use Rattle.yv_nodes.specs.Tree.{Label, count}
use Rattle.yv_schema.specs.InnerBasis.{NumberedBasis, label_at, with_labels}

pub count_labelled : (b : NumberedBasis) (above : List Label) (t : Nodes) → count (with_labels b above t) ≡ left.count t
count_labelled b above left.none = refl
count_labelled b above (left.item i below behind) =
    let inner = count_labelled b (label_at b above i ∷ above) below in
    let outer = count_labelled b above behind in
    omega (arith, inner, outer)
