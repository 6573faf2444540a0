use Rattle.std.proofs.Common.{◌≡◌, ◌-◌, ◌∷◌, [], length, length-append, arith, ap}
use Rattle.yv_nodes.specs.declared.node.NodeId.{NodeId}
use Rattle.yv_data_quiet.proofs.QuietSteps.{known_more}
use Rattle.yv_data_quiet.proofs.quiet.known_nodes.Goals as goal

pub loop-index-preserved : goal.loop-index-preserved
loop-index-preserved c =
    let n : NodeId = record { 0 = c.len.result - 1 - c.loop-index.index } in
    let number : n.0 ≡ length c.args.schema.now.nodes - 1 - c.loop-index.index = omega (arith, c.len.ensures.rows) in
    record {
      many = omega (arith, c.loop-index.invariant.many, ap length c.in_ok-push.ensures.items, length-append c.loop-index.known.items (c.tree_steps-steps.result ∷ []));
      known = known_more c.args.schema.now c.loop-index.known.items c.push.new.self.items c.tree_steps-steps.result c.loop-index.index n c.loop-index.invariant.known c.loop-index.invariant.many
          c.in_ok-push.ensures.items number c.tree_steps-steps.ensures;
    }
