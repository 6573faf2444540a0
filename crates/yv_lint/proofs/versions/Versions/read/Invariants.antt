use Rattle.std.proofs.Common.{◌≡◌, ℕ, List, take}
use Rattle.std.specs.Option.{option_map}
use Rattle.yv_lint.specs.InnerVersions.{version_in}
use Rattle.yv_lint.specs.Versions.{is_newer_file, root_named}
use Rattle.yv_lint.proofs.versions.Versions.read.Given as goal

abbrev pub invariant-loop-root : goal.invariant-loop-root
invariant-loop-root l = (name : List ℕ) → version_in l.versions name ≡ option_map is_newer_file (root_named (take l.root-index l.roots) name)
