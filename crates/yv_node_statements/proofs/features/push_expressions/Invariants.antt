use Rattle.std.proofs.Common.{◌≡◌, drop, string_bytes}
use Rattle.yv_node_statements.specs.Features.{expressions, with_expressions}
use Rattle.yv_node_statements.proofs.features.push_expressions.Given as goal

-- with the expressions of the statements behind, the text has all
abbrev pub invariant-loop-child : goal.invariant-loop-child
invariant-loop-child l =
    with_expressions (string_bytes l.text) (expressions (drop l.child-index l.child-items)) ≡ with_expressions (string_bytes l.fn.text) (expressions l.child-items)
