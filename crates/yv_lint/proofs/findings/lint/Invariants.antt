use Rattle.std.proofs.Common.{◌≡◌, ◌++◌, drop, map}
use Rattle.yv_text_statement.specs.Selection.{selected_of}
use Rattle.yv_lint.specs.RuleChoice.{asked_in}
use Rattle.yv_lint.specs.Findings.{findings, findings_from}
use Rattle.yv_lint.proofs.findings.lint.Given as goal

abbrev pub invariant-loop-number : goal.invariant-loop-number
invariant-loop-number l = l.list.items ++ findings_from (asked_in l.fn.rules) (selected_of l.fn.selection) l.fn.roots l.number (map (λ path. path.now) (drop l.number l.paths)) (drop l.number l.fn.roots) ≡ findings (asked_in l.fn.rules) (selected_of l.fn.selection) (map (λ path. path.now) l.paths) l.fn.roots
