-- What is known of refined definitions.
use Rattle.std.specs.Prelude.{ℕ, List}
use Rattle.yv_link_scopes.specs.Files.{Files}
use Rattle.yv_node_statements.specs.Kinds.{TypeMeanings}
use Rattle.yv_node_statements.specs.Context.{files_in, typing_in}
use Rattle.yv_node_statements.specs.declared.refined_definitions.RefinedDefinitions.{RefinedDefinitions}

-- the files whose statements say it
abbrev pub files_of : RefinedDefinitions → Files
files_of refined = files_in refined.definitions.now

-- what their `type` statements mean
abbrev pub typing_of : RefinedDefinitions → TypeMeanings
typing_of refined = typing_in refined.definitions.now

-- the sequences of refines
abbrev pub sequences_of : RefinedDefinitions → List (List ℕ)
sequences_of refined = refined.changes.now.sequences
