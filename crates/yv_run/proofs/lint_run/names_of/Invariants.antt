use Rattle.std.proofs.Common.{◌≡◌, map, take, string_bytes}
use Rattle.yv_run.proofs.lint_run.names_of.Given as goal

abbrev pub invariant-loop-input : goal.invariant-loop-input
invariant-loop-input l = map (λ n. n.now) l.names.items ≡ map (λ i. string_bytes i.name) (take l.input-index l.front)
