use Rattle.std.proofs.Common.{◌≡◌, ◌++◌, map, length}
use denote.Text.{Utf8}
use denote.Shadow.{shadow}
use Rattle.yv_link_scopes.specs.Files.{Files}
use Rattle.yv_node_paths.specs.InnerPrefixes.{IsPrefixTable}
use Rattle.yv_node_paths.specs.Steps.{paths_of}
use Rattle.yv_node_paths.proofs.steps.PathReader.paths.Given as goal

-- with the paths of what is left, these are all; what is left is text
abbrev pub invariant-loop-word : goal.invariant-loop-word
invariant-loop-word l = shadow (Utf8 l.rest)
    × ((files : Files) → IsPrefixTable files l.self.module_files.now → map (λ path. path.items) l.paths.items ++ paths_of files l.self.file l.rest ≡ paths_of files l.self.file l.fn.text)

abbrev pub decreases-loop-word : goal.decreases-loop-word
decreases-loop-word l = length l.rest
