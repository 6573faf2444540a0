use Rattle.std.proofs.Common.{◌≡◌, ℕ, ◌+◌, Option, Some, None}
use Rattle.yv_node_statements.specs.RefinedContext.{files_of, sequences_of, typing_of}
use Rattle.yv_node_statements.proofs.refined_definitions.RefinedDefinitions.fork.Given as goal

-- how many sequences may still come
abbrev left : Option ℕ → ℕ
left None = 0
left (Some sequence) = sequence + 1

abbrev pub invariant-loop-next : goal.invariant-loop-next
invariant-loop-next l = record {
  typing : typing_of l.self ≡ typing_of l.initial.self;
  files : files_of l.self ≡ files_of l.initial.self;
  sequences : sequences_of l.self ≡ sequences_of l.initial.self;
}

abbrev pub decreases-loop-next : goal.decreases-loop-next
decreases-loop-next l = left l.next
