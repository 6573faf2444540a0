use Rattle.std.proofs.Common.{◌≡◌, ◌++◌, take}
use Rattle.yv_lint.specs.InnerFindings.{findings_among}
use Rattle.yv_lint.specs.Rules.{stands_at_root}
use Rattle.yv_lint.proofs.file.File.add_those_at_root.Given as goal

abbrev pub invariant-loop-rule : goal.invariant-loop-rule
invariant-loop-rule l = l.findings.items ≡ l.fn.findings.items ++ findings_among l.self (take l.rule-index l.rules) (stands_at_root l.path l.self.root.now) l.self.root.now.head
