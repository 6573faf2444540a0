use Rattle.std.proofs.Common.{◌≡◌, ◌<◌, ◌≤◌, ℕ, List, length, slice_index, refl, ◌∙◌, ap, arith, length-set}
use Rattle.std.proofs.Math.ListN.{set}
use Rattle.yv_node_leafrefs.specs.InnerGraph.{IsBehind}
use Rattle.yv_node_leafrefs.proofs.LeafrefGraph.{origins_more}
use Rattle.yv_node_leafrefs.proofs.graph.origins.Goals as goal

pub loop-node-preserved : goal.loop-node-preserved
loop-node-preserved c =
    let old = c.loop-node.origins.items in
    let order : List ℕ = c.deref-node-items.result.now in
    let i = c.loop-node.node-index in
    let node : ℕ = slice_index order i in
    let known = c.loop-node.invariant in
    let behind : IsBehind c.args.targets.now order = rw c.deref-node-items.ensures.value c.in_ok-order.ensures.behind in
    let within : node < length old = rw (known.0, c.deref-node-items.ensures.value) (c.in_ok-order.ensures.within i 0 (let l : i < length order = c.loop-node-test.true in rw c.deref-node-items.ensures.value at l)) in (
      length-set old node c.origin-origin.result ∙ known.0,
      λ t are. origins_more t c.args.targets.now order i node old _ are behind c.loop-node-test.true refl within (known.1 t are)
          (ap (set old node) (rw c.deref.ensures.value at c.origin-origin.ensures)),
    )

pub returns-clause-types : goal.returns-clause-types
returns-clause-types c t each are n l =
    let order : List ℕ = c.deref-node-items.result.now in
    let visited = c.in_ok-order.ensures.all n (omega (arith, l, each)) in
    let past : length order ≤ c.loop-node.node-index = omega arith in
    let same : length order ≡ length c.in_ok-order.order.items = ap length c.deref-node-items.ensures.value in
    c.loop-node.invariant.1 t are n (rw c.deref-node-items.ensures.value (visited.0, (let v = visited.1 in omega (arith, v, past, same)), visited.2, visited.3))
