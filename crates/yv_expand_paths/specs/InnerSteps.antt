-- Schema paths as steps with the numbers of names.
use Rattle.std.specs.Prelude.{ℕ, ◌||◌, Bool, List, [], map, if◌then◌else◌, Option, Some, None, codes}
use Rattle.std.specs.Option.{option_map, option_and_then, unwrap_or}
use Rattle.yv_link_scopes.specs.Names.{prefix_of, local_of}
use Rattle.yv_link_scopes.specs.Files.{Briefs, has_word}
use Rattle.yv_link_scopes.specs.Rows.{Row, name_in}
use Rattle.yv_link_scopes.specs.Scopes.{module_of}
use Rattle.yv_expand_paths.specs.InnerNameNumbers.{number_of, qualified_name}
use Rattle.yv_expand_paths.specs.declared.step.SchemaStep.{SchemaStep}
use Rattle.yv_expand_statements.specs.Paths.{steps_of}

abbrev pub step_with : Briefs → List Row → (file : ℕ) → Option (List ℕ) → (name : ℕ)
    → Option SchemaStep
step_with files rows file None name = Some (record { module_file = None; name = name })
step_with files rows file (Some prefix) name =
    option_map (λ m. record { module_file = Some m; name = name })
    (module_of files rows file prefix)

-- a step of a path of a file as numbers; none where its prefix identifies no module, or no node has
-- its name
abbrev pub step_of : Briefs → List Row → (file : ℕ) → List ℕ → Option SchemaStep
step_of files rows file text =
    option_and_then (step_with files rows file (prefix_of text)) (number_of rows (local_of text))

-- the number of a step's module and name, where one without prefix is of the module of the file
-- `own`
abbrev pub step_number : (own : ℕ) → SchemaStep → ℕ
step_number own s = qualified_name (unwrap_or s.module_file own) s.name

-- the argument is a schema path
abbrev pub has_path : Row → Bool
has_path r = has_word (codes "refine") r.head || has_word (codes "augment") r.head

abbrev pub path_of : Briefs → List Row → Row → List (Option SchemaStep)
path_of files rows r = map (step_of files rows r.file) (steps_of (name_in r))

-- the path of a statement, if it is a refine or an augment
abbrev pub path_at : Briefs → List Row → Option Row → List (Option SchemaStep)
path_at files rows None = []
path_at files rows (Some r) = if has_path r then path_of files rows r else []
