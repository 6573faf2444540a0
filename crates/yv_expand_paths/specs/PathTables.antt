-- What is known of names and paths that were read; how, only the readers ask.
use Rattle.std.specs.Prelude.{◌≡◌, ℕ, List, [], map, codes, Option, Some, None, slice_get}
use Rattle.std.specs.declared.vec.Vec.{Vec}
use Rattle.std.specs.declared.alloc.Global.{Global}
use Rattle.yv_link_scopes.specs.Files.{Briefs}
use Rattle.yv_link_scopes.specs.Rows.{Row}
use Rattle.yv_expand_paths.specs.InnerNameNumbers.{own_names, number_of}
use Rattle.yv_expand_paths.specs.InnerSteps.{path_at}
use Rattle.yv_expand_paths.specs.InnerNames.{table_of}
use Rattle.yv_expand_paths.specs.declared.names.NodeNames.{NodeNames}
use Rattle.yv_expand_paths.specs.declared.paths.Paths.{Paths}
use Rattle.yv_expand_paths.specs.declared.step.SchemaStep.{SchemaStep}

-- these are the names of statements' nodes with their numbers
pub record AreNames (rows : List Row) (names : NodeNames) : Type 0 where
  pub told : (name : List ℕ) → table_of names.table name ≡ number_of rows name
  pub own : map (λ n. Some n) names.numbers.items ≡ map (number_of rows) (own_names rows)
  pub input : number_of rows (codes "input") ≡ Some names.input
  pub output : number_of rows (codes "output") ≡ Some names.output

-- the steps of a path that may be there
abbrev pub steps_of : Option (Vec (Option SchemaStep) Global) → List (Option SchemaStep)
steps_of None = []
steps_of (Some v) = v.items

-- these are the paths of statements
pub record ArePaths (files : Briefs) (rows : List Row) (paths : Paths) : Type 0 where
  pub steps : (statement : ℕ)
      → steps_of (slice_get paths.paths.items statement)
      ≡ path_at files rows (slice_get rows statement)
