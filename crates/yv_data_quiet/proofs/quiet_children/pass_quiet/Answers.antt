use Rattle.std.proofs.Common.{arith}
use Rattle.yv_walk.specs.Context.{parent_of}
use Rattle.yv_data_quiet.proofs.Children.{rank_is}
use Rattle.yv_data_quiet.proofs.quiet_children.pass_quiet.Goals as goal

pub pass_quiet_children-requires-clause-node : goal.pass_quiet_children-requires-clause-node
pass_quiet_children-requires-clause-node c = omega (arith, rank_is c.args.schema.now c.args.parent c.children-children.ensures.sound c.requires.node)

pub pass_quiet_children-requires-clause-stand : goal.pass_quiet_children-requires-clause-stand
pass_quiet_children-requires-clause-stand c = λ i d lt.
    c.inner_stands.ensures c.args.schema.now (parent_of c.args.context.now) c.args.parent i d c.children-children.ensures.sound c.requires.stands c.requires.passes lt
