use Rattle.std.proofs.Common.{◌≡◌, map, take}
use Rattle.yv_link_scopes.specs.Files.{Files}
use Rattle.yv_node_paths.specs.Steps.{step_of}
use Rattle.yv_node_paths.specs.InnerPrefixes.{IsPrefixTable}
use Rattle.yv_node_paths.proofs.steps.PathReader.steps.Given as goal

abbrev pub invariant-loop-text : goal.invariant-loop-text
invariant-loop-text l = (files : Files) → IsPrefixTable files l.self.module_files.now
    → map (step_of files l.self.file) (take l.text-index (map (λ w. w.now) l.texts)) ≡ l.steps.items
