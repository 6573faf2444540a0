use Rattle.std.proofs.Common.{◌||◌, ◌==◌, ◌+◌, ℕ, Bool, List, Option, drop, slice_index_or, sym, ap, ◌∙◌}
use Rattle.std.specs.BTreeSet.{contains}
use Rattle.std.specs.Ordering.{nat_cmp}
use Rattle.yv_nodes.specs.declared.node.NodeId.{NodeId}
use Rattle.yv_data_quiet.specs.NamedLeafs.{are_named}
use Rattle.yv_data_quiet.proofs.ListLeafs.{one_more, or_turn}
use Rattle.yv_data_quiet.proofs.Leafs.{leafs_drop, named_leafs}
use Rattle.yv_data_quiet.proofs.named_leafs.add_leafs.Goals as goal

pub loop-leaf-preserved : goal.loop-leaf-preserved
loop-leaf-preserved c = λ n.
    let cs : List NodeId = c.args.leafs.now in
    let i : ℕ = c.loop-leaf.leaf-index in
    let d : NodeId = record { 0 = 0 } in
    let a : ℕ = (slice_index_or cs i d).0 in
    let rest : Bool = are_named (named_leafs (drop (i + 1) cs)) n in
    ap (λ (b : Bool). rest || b) (one_more c.loop-leaf.named c.insert.new.self a c.in_ok-insert.ensures.updates.0 n)
    ∙ sym (or_turn (a == n) rest (contains nat_cmp c.loop-leaf.named n))
    ∙ ap (λ (ls : List (Option NodeId)). are_named ls n || contains nat_cmp c.loop-leaf.named n) (sym (leafs_drop cs i d c.loop-leaf-test.true))
    ∙ c.loop-leaf.invariant n
