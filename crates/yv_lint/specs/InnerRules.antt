-- Only private clauses cite this: how a set of rules is kept.
use Rattle.std.specs.Prelude.{ℕ}
use denote.Enum.Declared.{tag_of}
use Rattle.yv_lint.specs.contracts.rule.Rule.{the_type}
use Rattle.yv_lint.specs.declared.rule.Rule.{Rule}

-- a rule's place among all
abbrev pub number : Rule → ℕ
number r = tag_of the_type r
