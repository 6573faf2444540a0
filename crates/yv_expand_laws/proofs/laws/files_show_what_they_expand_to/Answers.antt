use Rattle.yv_expand_definition.proofs.Meaning.{refers_to_one}
use Rattle.yv_expand_laws.proofs.Whole.{files_show}
use Rattle.yv_expand_laws.proofs.laws.files_show_what_they_expand_to.Goals as goal

pub returns : goal.returns
returns c = λ files. files_show files (refers_to_one c.a_name_means_one_thing.ensures files)
