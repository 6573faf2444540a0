use Rattle.std.proofs.Common.{◌<◌, ℕ, get_or}
use Rattle.yv_schema_tables.proofs.Members.{label_in}
use Rattle.yv_schema_tables.proofs.PlainDataNodes.{IsData}
use Rattle.yv_schema_tables.proofs.data_children.are_data.Given as goal

abbrev pub invariant-loop-number : goal.invariant-loop-number
invariant-loop-number l = (k : ℕ) → k < l.number-index → IsData (label_in l.nodes.rows (get_or l.numbers k (record { 0 = 0 })))
