use Rattle.yv_expand_paths.proofs.StepNumbers.{number_there, number_within, input_there, output_there}
use Rattle.yv_expand_paths.proofs.laws.names_are_numbered.Goals as goal

pub returns : goal.returns
returns c = record { numbers = number_there; input = input_there; output = output_there; within = number_within }
