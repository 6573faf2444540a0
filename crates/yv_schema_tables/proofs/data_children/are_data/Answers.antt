use Rattle.std.proofs.Common.{sym, ◌∙◌, ap, arith, below_more}
use Rattle.yv_node_content.specs.Kinds.{is_data}
use Rattle.yv_nodes.specs.declared.node.NodeId.{NodeId}
use Rattle.yv_nodes.specs.Rows.{Row}
use Rattle.yv_schema_tables.proofs.Members.{numbers_within}
use Rattle.yv_schema_tables.proofs.PlainDataNodes.{inside_plain, told_plainly}
use Rattle.yv_schema_tables.proofs.data_children.are_data.Goals as goal

pub get-requires : goal.get-requires
get-requires c =
    let d : NodeId = record { 0 = 0 } in
    omega (arith, numbers_within c.args.nodes.now.rows c.args.numbers.now c.requires c.loop-number.number-index d c.loop-number-test.true)

pub loop-number-preserved : goal.loop-number-preserved
loop-number-preserved c =
    below_more _ _ c.loop-number.invariant
    (ap (λ (r : Row). is_data r.label.defined.kind) (sym c.get.ensures) ∙ ap is_data (sym c.kind-kind.ensures) ∙ sym c.is_data.ensures ∙ c.if-not-is_data.false)

pub returns-clause-inside : goal.returns-clause-inside
returns-clause-inside c = λ is.
    inside_plain c.args.nodes.now.rows c.args.numbers.now c.requires (λ k lt. c.loop-number.invariant k (omega (arith, lt, c.loop-number-test.false)))

pub returns-clause-tells : goal.returns-clause-tells
returns-clause-tells c = λ is.
    told_plainly c.args.nodes.now.rows c.args.numbers.now c.requires (λ k lt. c.loop-number.invariant k (omega (arith, lt, c.loop-number-test.false)))
