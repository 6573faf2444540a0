use Rattle.std.proofs.Common.{ap, option_map}
use Rattle.yv_job.proofs.RuleLemmas.{every_rule, named_rules}
use Rattle.yv_job.proofs.options.rules_value.Goals as goal

pub returns-in-None : goal.returns-in-None
returns-in-None c = every_rule (option_map (λ t. t.now) c.args.value) c.all.result (ap (λ v. option_map (λ t. t.now) v) c.in-None.is) c.all.ensures

pub returns-in-Some : goal.returns-in-Some
returns-in-Some c = named_rules (option_map (λ t. t.now) c.args.value) c.in-Some.names.now c.read.result (ap (λ v. option_map (λ t. t.now) v) c.in-Some.is) c.read.ensures.known c.read.ensures.asked
