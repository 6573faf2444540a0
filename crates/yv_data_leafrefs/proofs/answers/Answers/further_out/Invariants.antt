use Rattle.std.proofs.Common.{◌≡◌, ℕ, ◌+◌}
use Rattle.yv_data_leafrefs.specs.InnerAnswers.{further_out}
use Rattle.yv_data_leafrefs.proofs.answers.Answers.further_out.Given as goal

-- what is left leads from here to the same object
abbrev pub invariant-loop : goal.invariant-loop
invariant-loop l = (left : ℕ) → l.counter + left ≡ l.many → further_out l.self.positions.items left l.outer ≡ further_out l.self.positions.items l.many l.position
