use Rattle.yv_node_leafrefs.specs.InnerIndex.{Key, IsFirstOf, table_of}
use Rattle.yv_node_leafrefs.proofs.index.Index.of.Given as goal

abbrev pub invariant-loop-number : goal.invariant-loop-number
invariant-loop-number l = (k : Key) → IsFirstOf l.keys l.number k (table_of l.index k)
