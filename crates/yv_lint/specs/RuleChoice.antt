-- Which rules are asked.
use Rattle.std.specs.Prelude.{Bool, false, slice_index_or}
use Rattle.yv_lint.specs.declared.rule.Rule.{Rule}
use Rattle.yv_lint.specs.declared.rules.Rules.{Rules}
use Rattle.yv_lint.specs.InnerRules.{number}

-- a choice of rules: for each whether it is asked
abbrev pub RuleChoice : Type 0
RuleChoice = Rule → Bool

-- the rules of a set: those that are marked, each at its place
abbrev pub asked_in : Rules → RuleChoice
asked_in rules r = slice_index_or rules.marks (number r) false
