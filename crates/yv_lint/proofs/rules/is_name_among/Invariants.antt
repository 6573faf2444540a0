use Rattle.std.proofs.Common.{◌≡◌, drop}
use Rattle.std.specs.List.{list_any}
use Rattle.std.specs.Str.{bytes_eq}
use Rattle.yv_lint.specs.Rules.{name_of}
use Rattle.yv_lint.proofs.rules.is_name_among.Given as goal

abbrev pub invariant-loop-rule : goal.invariant-loop-rule
invariant-loop-rule l = list_any (λ rule. bytes_eq l.name (name_of rule)) (drop l.rule-index l.rules) ≡ list_any (λ rule. bytes_eq l.name (name_of rule)) l.rules
