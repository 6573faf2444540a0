-- What is known of the definitions of files.
use Rattle.yv_link_scopes.specs.Files.{Files}
use Rattle.yv_link_scopes.specs.Views.{lent_in}
use Rattle.yv_node_statements.specs.Kinds.{TypeMeanings}
use Rattle.yv_node_statements.specs.KnownTypes.{typing_of}
use Rattle.yv_node_statements.specs.declared.definitions.Definitions.{Definitions}

-- the files whose statements they are
abbrev pub files_in : Definitions → Files
files_in definitions = lent_in definitions.rows.now

-- what their `type` statements mean
abbrev pub typing_in : Definitions → TypeMeanings
typing_in definitions = typing_of definitions.types.now
