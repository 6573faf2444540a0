-- Only private clauses cite this: the findings of one file after another.
use Rattle.std.specs.Prelude.{ℕ, List, [], Option, Some, None}
use Rattle.yv_text_statement.specs.Selection.{ModuleChoice}
use Rattle.yv_text_statement.specs.Tree.{Tree}
use Rattle.yv_link_scopes.specs.Files.{Files}
use Rattle.yv_lint.specs.declared.finding.Finding.{Finding}
use Rattle.yv_lint.specs.RuleChoice.{RuleChoice}
use Rattle.yv_lint.specs.Findings.{findings_of}

-- the findings in a file that may be there
abbrev pub findings_at_number : RuleChoice → ModuleChoice → Files → ℕ
    → List ℕ → Option Tree → List Finding
findings_at_number asked choice files file path None = []
findings_at_number asked choice files file path (Some root) =
    findings_of asked choice files file path root
