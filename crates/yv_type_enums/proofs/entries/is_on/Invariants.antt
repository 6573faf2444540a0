use Rattle.std.proofs.Common.{◌≡◌, drop}
use Rattle.yv_text_statement.specs.Tree.{trees}
use Rattle.yv_link.specs.LinkedFiles.{truth_in}
use Rattle.yv_link_features.specs.Blocks.{all_hold}
use Rattle.yv_type_enums.proofs.entries.is_on.Given as goal

abbrev pub invariant-loop-child : goal.invariant-loop-child
invariant-loop-child l =
    all_hold (truth_in l.linked l.file) (drop l.child-index (trees l.line.children)) ≡ all_hold (truth_in l.linked l.file) (trees l.line.children)
