use Rattle.std.proofs.Common.{◌≡◌, drop}
use Rattle.yv_text_statement.specs.Tree.{trees}
use Rattle.yv_link.specs.LinkedFiles.{truth_in}
use Rattle.yv_link_features.specs.Blocks.{all_hold}
use Rattle.yv_expand_changes.proofs.if_features.is_on.Given as goal

-- all hold where those behind do
abbrev pub invariant-loop-child : goal.invariant-loop-child
invariant-loop-child l =
    all_hold (truth_in l.linked l.file) (drop l.child-index (trees l.statement.children)) ≡ all_hold (truth_in l.linked l.file) (trees l.statement.children)
