-- The findings in files.
use Rattle.std.specs.Prelude.{ℕ, ◌+◌, ◌&&◌, Bool, List, [], ◌∷◌, ◌++◌, map, if◌then◌else◌}
use Rattle.std.specs.List.{filter, flat_map}
use Rattle.yv_text_statement.specs.Selection.{ModuleChoice, is_implemented}
use Rattle.yv_text_statement.specs.Tree.{Head, Tree}
use Rattle.yv_link_scopes.specs.Files.{Files, module_name}
use Rattle.yv_lint.specs.declared.rule.Rule.{Rule}
use Rattle.yv_lint.specs.declared.finding.Finding.{Finding}
use Rattle.yv_lint.specs.RuleChoice.{RuleChoice}
use Rattle.yv_lint.specs.Places.{Place, places_of}
use Rattle.yv_lint.specs.Rules.{all_rules, stands_at, stands_at_root}

-- the finding of a rule at the statement of a numbered file with this head
abbrev pub finding_at : ℕ → Head → Rule → Finding
finding_at file head rule =
    record { file = file; offset = head.offset; line = head.line; rule = rule }

-- the findings at a statement: the rules that are asked and stand there, in order
abbrev pub findings_where : RuleChoice → (Rule → Bool) → ℕ → Head → List Finding
findings_where asked stands file head =
    map (finding_at file head) (filter (λ rule. asked rule && stands rule) all_rules)

-- the findings at a place in the file with this number and this root
abbrev pub findings_at : RuleChoice → Files → ℕ → Tree → Place → List Finding
findings_at asked files file root p =
    findings_where asked (stands_at files root p) file p.statement.head

-- the findings in a file that has this number, path and root: those at its root, and those below it
-- in the order of the text
abbrev pub findings_in : RuleChoice → Files → ℕ → List ℕ → Tree → List Finding
findings_in asked files file path root =
    findings_where asked (stands_at_root path root) file root.head
    ++ flat_map (findings_at asked files file root) (places_of root)

-- the findings in a file, if its module is implemented
abbrev pub findings_of : RuleChoice → ModuleChoice → Files → ℕ → List ℕ → Tree → List Finding
findings_of asked choice files file path root =
    if is_implemented choice (module_name root) then findings_in asked files file path root else []

-- the findings in the files from a number on that have paths
abbrev pub findings_from : RuleChoice → ModuleChoice → Files
    → ℕ → List (List ℕ) → Files → List Finding
findings_from asked choice files file [] roots = []
findings_from asked choice files file (path ∷ paths) [] = []
findings_from asked choice files file (path ∷ paths) (root ∷ roots) =
    findings_of asked choice files file path root
    ++ findings_from asked choice files (file + 1) paths roots

-- The findings in files: the paths are those of the first ones, as many as were named. The others
-- were only found, and have no findings.
abbrev pub findings : RuleChoice → ModuleChoice → (paths : List (List ℕ)) → Files → List Finding
findings asked choice paths files = findings_from asked choice files 0 paths files
