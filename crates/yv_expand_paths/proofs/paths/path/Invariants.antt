use Rattle.std.proofs.Common.{◌≡◌, List, map, take}
use Rattle.yv_link_scopes.specs.Files.{Briefs}
use Rattle.yv_link_scopes.specs.Rows.{Row}
use Rattle.yv_expand_paths.specs.InnerSteps.{step_of}
use Rattle.yv_expand_paths.specs.PathTables.{AreNames}
use Rattle.yv_link_scopes.specs.Prefixes.{IsPrefixTable}
use Rattle.yv_expand_paths.proofs.paths.path.Given as goal

abbrev pub invariant-loop-text : goal.invariant-loop-text
invariant-loop-text l = (files : Briefs) (rows : List Row) → IsPrefixTable files rows l.module_files → AreNames rows l.names
    → map (step_of files rows l.file) (take l.text-index (map (λ w. w.now) l.text-items)) ≡ l.path.items
