use Rattle.std.proofs.Common.{◌≡◌, drop, string_bytes}
use Rattle.yv_node_statements.specs.Features.{all_expressions, with_expressions}
use Rattle.yv_node_statements.specs.Context.{files_in}
use Rattle.yv_node_statements.proofs.definitions.Definitions.features.Given as goal

-- with the expressions of the refines behind, the text has all
abbrev pub invariant-loop-refine : goal.invariant-loop-refine
invariant-loop-refine l =
    let all = all_expressions (files_in l.self) in
    with_expressions (string_bytes l.text) (all (drop l.refine-index l.refines)) ≡ with_expressions l.own.features (all l.refines)
