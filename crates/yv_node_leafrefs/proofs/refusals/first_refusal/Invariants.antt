use Rattle.yv_text_statement.specs.Order.{IsLeast, Among}
use Rattle.yv_node_leafrefs.specs.Bad.{BadLeafref}
use Rattle.yv_node_leafrefs.specs.InnerOutline.{rows_in, schema_in}
use Rattle.yv_node_leafrefs.proofs.refusals.first_refusal.Given as goal

abbrev pub invariant-loop-number : goal.invariant-loop-number
invariant-loop-number l = IsLeast (Among (rows_in l.outline) (BadLeafref (schema_in l.outline)) l.number) l.least
