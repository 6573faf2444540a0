use Rattle.std.proofs.Common.{◌≡◌, ◌++◌, List, take}
use Rattle.yv_text_statement.specs.Tree.{Tree}
use Rattle.yv_lint.specs.InnerFindings.{findings_among}
use Rattle.yv_lint.specs.InnerPlaces.{IsEarlier, place_of}
use Rattle.yv_lint.specs.Rules.{stands_at}
use Rattle.yv_lint.proofs.file.File.add_those.Given as goal

abbrev pub invariant-loop-rule : goal.invariant-loop-rule
invariant-loop-rule l = (before : List Tree) → IsEarlier before l.place.earlier → l.findings.items ≡ l.fn.findings.items ++ findings_among l.self (take l.rule-index l.rules) (stands_at l.self.question.now.roots.now l.self.root.now (place_of before l.place)) l.place.statement.now.head
