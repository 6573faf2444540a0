-- The schema paths of augments and refines, step by step as numbers (RFC 7950, section 6.5).
use Rattle.std.specs.Prelude.{ℕ, List, map, Option, Some, None, slice_get}
use Rattle.yv_expand_paths.specs.InnerSteps.{path_at, step_number}
use Rattle.yv_expand_paths.specs.declared.step.SchemaStep.{SchemaStep}
use Rattle.yv_expand_uses.specs.Spots.{Whole, own_module_file}

-- no node has this name
abbrev pub no_name : ℕ
no_name = 4294967295

-- the number of the name of a step; no name where its prefix refers to no module
abbrev pub step_name : (module_file : ℕ) → Option SchemaStep → ℕ
step_name module_file None = no_name
step_name module_file (Some s) = step_number module_file s

-- the path of an augment or a refine, where a name without prefix is of the module of the file
-- `module_file`
abbrev pub path_in : Whole → (module_file statement : ℕ) → List ℕ
path_in w module_file k = map (step_name module_file) (path_at w.files w.rows (slice_get w.rows k))

-- the paths of the augments of modules
abbrev pub module_paths : Whole → List (List ℕ)
module_paths w = map (λ a. path_in w (own_module_file w.files (slice_get w.rows a)) a) w.augments
