-- Only private clauses cite this: findings while they are collected.
use Rattle.std.specs.Prelude.{◌&&◌, Bool, List, map}
use Rattle.std.specs.List.{filter, flat_map}
use Rattle.yv_text_statement.specs.Tree.{Head}
use Rattle.yv_lint.specs.declared.rule.Rule.{Rule}
use Rattle.yv_lint.specs.declared.file.File.{File}
use Rattle.yv_lint.specs.declared.finding.Finding.{Finding}
use Rattle.yv_lint.specs.RuleChoice.{asked_in}
use Rattle.yv_lint.specs.Findings.{finding_at, findings_at}
use Rattle.yv_lint.specs.Places.{Place}

-- the rules among these that are asked and stand, each as a finding
abbrev pub findings_among : File → List Rule → (Rule → Bool) → Head → List Finding
findings_among f rules stands head =
    map (finding_at f.number head)
    (filter (λ rule. asked_in f.question.now.rules.now rule && stands rule) rules)

-- the findings at these places of a file
abbrev pub findings_at_places : File → List Place → List Finding
findings_at_places f places =
    flat_map
    (findings_at (asked_in f.question.now.rules.now) f.question.now.roots.now f.number f.root.now)
    places
