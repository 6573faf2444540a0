-- Only private clauses cite this: a text that is cut at its first blank.
use Rattle.std.specs.Prelude.{ℕ, List, Option, Some, None, [], ◌∷◌, length, nat_eq, nat_lt, if◌then◌else◌}
use Rattle.std.specs.List.{position_or_len, before_first, after_first}
use Rattle.yv_text_if_feature.specs.Bytes.{is_blank}
use Rattle.yv_link_scopes.specs.Files.{Files}
use Rattle.yv_node_content.specs.Steps.{Step}
use Rattle.yv_node_paths.specs.Steps.{path_of, step_of}

-- what comes before the first blank, and what comes after it
abbrev pub first_word : List ℕ → Option (List ℕ × List ℕ)
first_word text = if nat_lt (position_or_len is_blank text) (length text)
    then Some (before_first is_blank text, after_first is_blank text) else None

-- the paths of a text without blanks: an empty one is none
abbrev pub path_in : Files → (file : ℕ) → List ℕ → List (List (Option Step))
path_in files file piece = if nat_eq (length piece) 0 then [] else path_of files file piece ∷ []

-- the names of such a text
abbrev pub name_in : Files → (file : ℕ) → List ℕ → List (Option Step)
name_in files file piece = if nat_eq (length piece) 0 then [] else step_of files file piece ∷ []
