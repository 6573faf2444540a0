use Rattle.yv_expand_definition.proofs.Meaning.{refers_to_one}
use Rattle.yv_expand_laws.proofs.Modules.{modules_show}
use Rattle.yv_expand_laws.proofs.laws.modules_show_what_they_give.Goals as goal

pub returns : goal.returns
returns c = λ files. modules_show files (refers_to_one c.a_name_means_one_thing.ensures files)
