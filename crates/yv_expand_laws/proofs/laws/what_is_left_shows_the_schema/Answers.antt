use Rattle.yv_expand_laws.proofs.LeftSchema.{left_is_schema}
use Rattle.yv_expand_laws.proofs.laws.what_is_left_shows_the_schema.Goals as goal

pub returns : goal.returns
returns c = λ files. left_is_schema files c.files_expand_to_a_tree.ensures (c.items_of_files_show_nodes.ensures files) (c.what_is_left_is_the_schema.ensures files)
