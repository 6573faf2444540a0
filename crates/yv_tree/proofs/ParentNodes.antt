-- Which nodes have others below them.
use Rattle.std.proofs.Common.{◌≡◌, ◌==◌, List, [], ◌∷◌, length, refl, ap, false, arith}
use Rattle.std.proofs.lemmas.Bool.Decides.{nat_tests}
use Rattle.std.specs.Prelude.{not}
use Rattle.yv_nodes.specs.declared.node.NodeId.{NodeId}
use Rattle.yv_nodes.specs.Rows.{Rows, forest}
use Rattle.yv_tree.specs.InnerPart.{trimmed_trees}
use Rattle.yv_tree.specs.Lines.{are_some}
use Rattle.yv_tree_drawing.specs.Steps.{Step}

-- there are trees where there are numbers
pub some_trimmed : (s : Rows) (way : List Step) (cs : List NodeId) → not (length cs == 0) ≡ are_some (trimmed_trees way (forest s cs))
some_trimmed s way [] = refl
some_trimmed s way (c ∷ cs) =
    let longer : (length (c ∷ cs) == 0) ≡ false = grind (arith, nat_tests) in
    ap not longer
