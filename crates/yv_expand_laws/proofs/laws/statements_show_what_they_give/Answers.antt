use Rattle.yv_expand_definition.proofs.Meaning.{refers_to_one}
use Rattle.yv_expand_laws.proofs.StatementNodes.{statements_show}
use Rattle.yv_expand_laws.proofs.laws.statements_show_what_they_give.Goals as goal

pub returns : goal.returns
returns c = λ files augments. statements_show files augments (refers_to_one c.a_name_means_one_thing.ensures files)
