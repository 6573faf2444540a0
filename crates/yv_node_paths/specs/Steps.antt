-- The paths that the arguments of `key` and `unique` statements have (RFC 7950, sections 6.5, 7.8.2
-- and 7.8.3).
use Rattle.std.specs.Prelude.{ℕ, ◌==◌, List, map, Option, Some, None}
use Rattle.std.specs.List.{slice_split}
use Rattle.std.specs.Option.{option_map}
use Rattle.yv_text_grammar.specs.Words.{words}
use Rattle.yv_link_scopes.specs.Files.{Files, brief_of}
use Rattle.yv_link_scopes.specs.RowList.{rows_of}
use Rattle.yv_link_scopes.specs.Names.{local_of, prefix_of}
use Rattle.yv_link_scopes.specs.Scopes.{module_of}
use Rattle.yv_node_content.specs.Steps.{Step}

-- the number of the file of the module to which a prefix refers in a file
abbrev pub module_file_of : Files → (file : ℕ) → (prefix : List ℕ) → Option ℕ
module_file_of files file prefix = module_of (map brief_of files) (rows_of files) file prefix

-- a step with this prefix and name; none where the prefix refers to no module
abbrev pub step_with : Files → (file : ℕ) → (prefix : Option (List ℕ)) → (name : List ℕ)
    → Option Step
step_with files file None name = Some (record { module_file = None; name = name })
step_with files file (Some prefix) name =
    option_map (λ module_file. record { module_file = Some module_file; name = name })
    (module_file_of files file prefix)

-- what a step is that is written so in a file: none where its prefix refers to no module
abbrev pub step_of : Files → (file : ℕ) → List ℕ → Option Step
step_of files file text = step_with files file (prefix_of text) (local_of text)

-- what is between the '/' of a path
abbrev pub texts_of : List ℕ → List (List ℕ)
texts_of text = slice_split (λ b. b == 47) text

-- the steps of a path
abbrev pub path_of : Files → (file : ℕ) → List ℕ → List (Option Step)
path_of files file text = map (step_of files file) (texts_of text)

-- the paths of an argument, between which blanks are
abbrev pub paths_of : Files → (file : ℕ) → List ℕ → List (List (Option Step))
paths_of files file text = map (path_of files file) (words text)

-- the names of an argument, between which blanks are
abbrev pub names_of : Files → (file : ℕ) → List ℕ → List (Option Step)
names_of files file text = map (step_of files file) (words text)
