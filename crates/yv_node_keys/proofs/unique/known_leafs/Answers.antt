use Rattle.std.proofs.Common.{map}
use Rattle.yv_node_content.specs.Definition.{paths_in}
use Rattle.yv_node_keys.proofs.unique.known_leafs.Goals as goal

pub returns-clause-numbers : goal.returns-clause-numbers
returns-clause-numbers c = c.in_ok-leafs.ensures.numbers (map paths_in c.args.statements.now) (c.requires c.if-known-statements.false)

pub returns-clause-good : goal.returns-clause-good
returns-clause-good c = c.in_ok-leafs.ensures.good (map paths_in c.args.statements.now) (c.requires c.if-known-statements.false)
