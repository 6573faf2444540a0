use Rattle.std.proofs.Common.{Bool, [], cond, sym, ap, ◌∙◌}
use Rattle.yv_data_leafrefs.specs.InnerAnswers.{defaults_at}
use Rattle.yv_data_leafrefs.proofs.IndexAgreement.{used_is}
use Rattle.yv_data_leafrefs.proofs.answers.Answers.defaults_in_use.Goals as goal

pub returns-then-is_within : goal.returns-then-is_within
returns-then-is_within c = λ us g.
    let n = c.args.target.0 in
    c.defaults_of.ensures
    ∙ sym (ap (λ (b : Bool). cond b (defaults_at c.args.self.now.schema.now n) [])
    (sym (used_is c.args.self.now.uses us n c.args.first c.args.last c.is_within.result g c.is_within.ensures) ∙ c.if-is_within.true))

pub returns-else-is_within : goal.returns-else-is_within
returns-else-is_within c = λ us g.
    let n = c.args.target.0 in
    sym (ap (λ (b : Bool). cond b (defaults_at c.args.self.now.schema.now n) [])
    (sym (used_is c.args.self.now.uses us n c.args.first c.args.last c.is_within.result g c.is_within.ensures) ∙ c.if-is_within.false))
