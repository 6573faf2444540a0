use Rattle.std.proofs.Common.{◌≤◌, length, get_or, arith}
use Rattle.std.proofs.lemmas.Option.{slice_get-get_or}
use Rattle.yv_text_statement.proofs.Least.{least_more}
use Rattle.yv_nodes.specs.Rows.{Row, blank_row}
use Rattle.yv_node_leafrefs.specs.Bad.{BadLeafref}
use Rattle.yv_node_leafrefs.specs.InnerOutline.{rows_in, schema_in}
use Rattle.yv_node_leafrefs.proofs.Faulty.{least_all}
use Rattle.yv_node_leafrefs.proofs.refusals.first_refusal.Goals as goal

pub node_refusal-fault-requires-clause-target : goal.node_refusal-fault-requires-clause-target
node_refusal-fault-requires-clause-target c x = c.requires.targets c.loop-number.number x

pub node_refusal-fault-requires-clause-cycle : goal.node_refusal-fault-requires-clause-cycle
node_refusal-fault-requires-clause-cycle c = c.requires.marks c.loop-number.number

pub loop-number-preserved : goal.loop-number-preserved
loop-number-preserved c =
    let o = c.args.outline.now in
    let n = c.loop-number.number in
    let row : Row = get_or (rows_in o) n blank_row in
    let at = slice_get-get_or (rows_in o) n blank_row (omega (arith, c.loop-number-test.true)) in
    least_more (rows_in o) (BadLeafref (schema_in o)) n row _ _ _ at c.lesser-least.ensures c.loop-number.invariant (c.node_refusal-fault.ensures row at)

pub returns : goal.returns
returns c =
    let o = c.args.outline.now in
    let past : length (rows_in o) ≤ c.loop-number.number = omega (arith, c.loop-number-test.false) in
    least_all (rows_in o) (BadLeafref (schema_in o)) c.loop-number.number c.loop-number.least past c.loop-number.invariant
