use Rattle.std.proofs.Common.{◌≡◌, drop}
use Rattle.std.specs.List.{list_any}
use Rattle.yv_text_statement.specs.Tree.{trees}
use Rattle.yv_lint.specs.Versions.{says_newer}
use Rattle.yv_lint.proofs.versions.is_newer_file.Given as goal

abbrev pub invariant-loop-one : goal.invariant-loop-one
invariant-loop-one l = list_any says_newer (drop l.one-index (trees l.root.children)) ≡ list_any says_newer (trees l.root.children)
