use Rattle.yv_link_scopes.proofs.Bodies.{module_file_at_within}
use Rattle.yv_link_scopes.proofs.Meanings.{module_within, named_within}
use Rattle.yv_link_scopes.proofs.laws.modules_are_files.Goals as goal

pub returns-clause-names : goal.returns-clause-names
returns-clause-names c = named_within

pub returns-clause-prefixes : goal.returns-clause-prefixes
returns-clause-prefixes c = module_within

pub returns-clause-module_files : goal.returns-clause-module_files
returns-clause-module_files c = module_file_at_within
