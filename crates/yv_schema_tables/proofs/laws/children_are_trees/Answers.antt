use Rattle.yv_schema_tables.proofs.Trees.{are_trees}
use Rattle.yv_schema_tables.proofs.laws.children_are_trees.Goals as goal

pub returns : goal.returns
returns c = are_trees
