use Rattle.std.specs.Prelude.{refl}
use Rattle.yv_expand_definition.proofs.Unique.{any_exchange, one_end, one_exchange}
use Rattle.yv_expand_definition.proofs.laws.a_path_has_one_end.Goals as goal

pub returns-clause-node : goal.returns-clause-node
returns-clause-node c = λ in_choice path nodes there other d e l m. one_end l m

pub returns-clause-exchange : goal.returns-clause-exchange
returns-clause-exchange c = λ in_choice path nodes there other e l m. one_exchange l m refl

pub returns-clause-any : goal.returns-clause-any
returns-clause-any c = λ in_choice path nodes below put there other_below target is other l. any_exchange l other other_below
