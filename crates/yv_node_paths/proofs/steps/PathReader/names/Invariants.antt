use Rattle.std.proofs.Common.{◌≡◌, ◌++◌, length}
use denote.Text.{Utf8}
use denote.Shadow.{shadow}
use Rattle.yv_link_scopes.specs.Files.{Files}
use Rattle.yv_node_paths.specs.InnerPrefixes.{IsPrefixTable}
use Rattle.yv_node_paths.specs.Steps.{names_of}
use Rattle.yv_node_paths.proofs.steps.PathReader.names.Given as goal

-- with the names of what is left, these are all; what is left is text
abbrev pub invariant-loop-word : goal.invariant-loop-word
invariant-loop-word l = shadow (Utf8 l.rest)
    × ((files : Files) → IsPrefixTable files l.self.module_files.now → l.names.items ++ names_of files l.self.file l.rest ≡ names_of files l.self.file l.fn.text)

abbrev pub decreases-loop-word : goal.decreases-loop-word
decreases-loop-word l = length l.rest
