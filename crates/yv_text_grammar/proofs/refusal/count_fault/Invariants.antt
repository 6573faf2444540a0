use Rattle.std.proofs.Common.{◌≡◌, take}
use Rattle.yv_text_statement.specs.Order.{Among, IsLeast, Stands, refusal_at}
use Rattle.yv_text_grammar.specs.InnerKeywordSet.{is_marked}
use Rattle.yv_text_statement.specs.Tree.{trees}
use Rattle.yv_text_grammar.specs.Refusals.{IsMisplaced, has}
use Rattle.yv_text_statement.specs.declared.keyword.Keyword.{Keyword}
use Rattle.yv_text_statement.specs.declared.refusal.Code.TheVariants as code
use Rattle.yv_text_grammar.proofs.refusal.count_fault.Given as goal

abbrev pub invariant-loop-child : goal.invariant-loop-child
invariant-loop-child l = record {
  best : IsLeast (Among (trees l.statement.children) (λ k c. Stands (IsMisplaced l.statement k c) (refusal_at code.Cardinality 0 c.head)) l.child-index) l.best;
  seen : (k : Keyword) → is_marked l.seen k ≡ has k (take l.child-index (trees l.statement.children));
}
