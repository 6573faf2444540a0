use Rattle.std.proofs.Common.{sym, ◌∙◌, ap}
use Rattle.yv_text_statement.specs.declared.keyword.Keyword.TheVariants as word
use Rattle.yv_lint.specs.Groups.{group_of}
use Rattle.yv_lint.proofs.EarlierStatements.{date_more, group_more, has_before, has_last}
use Rattle.yv_lint.proofs.place.Earlier.and.Goals as goal
use Rattle.yv_lint.proofs.place.Earlier.and.Goals.{then-self, else-self, then-self-2, else-self-2}

pub returns : goal.returns
returns c = λ before h. record {
  group = λ n. group_more before c.args.statement.now n c.args.self.group c.group_of.result c.max.result (h.group n) (c.group_of.ensures.group ∙ ap group_of c.kind.ensures) c.max.ensures;
  date = date_more before c.args.statement.now _ _ h.date c.date_after.ensures;
  base = elim c.if-self.branch [
    | then-self w ↦ has_before word.Base before c.args.statement.now (h.base ∙ w.if-self.true) ∙ sym (w.result-is ∙ w.if-self.true)
    | else-self w ↦ has_last word.Base before c.args.statement.now (h.base ∙ w.if-self.false) ∙ sym w.is.ensures.kind ∙ sym w.result-is
  ];
  default = elim c.if-self-2.branch [
    | then-self-2 w ↦ has_before word.Default before c.args.statement.now (h.default ∙ w.if-self-2.true) ∙ sym (w.result-is ∙ w.if-self-2.true)
    | else-self-2 w ↦ has_last word.Default before c.args.statement.now (h.default ∙ w.if-self-2.false) ∙ sym w.is-else-self-2.ensures.kind ∙ sym w.result-is
  ];
}
