use Rattle.yv_expand_definition.proofs.Meaning.{refers_to_one}
use Rattle.yv_expand_laws.proofs.ModuleBlocksJoined.{module_blocks_are_one}
use Rattle.yv_expand_laws.proofs.laws.blocks_of_modules_are_one.Goals as goal

pub returns : goal.returns
returns c = λ files. module_blocks_are_one files (refers_to_one c.a_name_means_one_thing.ensures files)
