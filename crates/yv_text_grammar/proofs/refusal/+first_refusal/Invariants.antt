use Rattle.yv_text_statement.specs.Order.{Among, IsLeast}
use Rattle.yv_text_statement.specs.Tree.{count, trees}
use Rattle.yv_text_grammar.specs.Refusals.{Faulty, keyword_at}
use Rattle.yv_text_grammar.proofs.StatementFit.{FitBelow}
use Rattle.yv_text_grammar.proofs.refusal.+first_refusal.Given as goal

abbrev pub invariant-loop-child : goal.invariant-loop-child
invariant-loop-child l = record {
  least : IsLeast (Among (trees l.statement.children) (λ k c. Faulty l.xpath (keyword_at l.statement) c) l.child-index) l.best;
  fit : FitBelow l.xpath l.statement l.child-index l.best;
}

abbrev pub decreases-first_refusal : goal.decreases-first_refusal
decreases-first_refusal l = count l.statement.now.children
