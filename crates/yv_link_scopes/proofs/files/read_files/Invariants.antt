use Rattle.std.proofs.Common.{◌≡◌, map, take}
use Rattle.yv_link_scopes.specs.Files.{brief, brief_of}
use Rattle.yv_link_scopes.proofs.files.read_files.Given as goal

abbrev pub invariant-loop-root : goal.invariant-loop-root
invariant-loop-root l = map brief l.files.items ≡ take l.root-index (map brief_of l.roots)
