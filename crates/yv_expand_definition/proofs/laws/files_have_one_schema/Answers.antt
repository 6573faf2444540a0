use Rattle.std.proofs.Common.{◌≡◌, ◌∙◌, ap, sym, ℕ}
use Rattle.yv_expand_statements.specs.FileOrder.{marks_of, order_of}
use Rattle.yv_expand_definition.specs.Gives.{Product}
use Rattle.yv_expand_definition.specs.Remains.{remains}
use Rattle.yv_expand_definition.proofs.LeftNodeUniqueness.{left_same, same_answer}
use Rattle.yv_expand_definition.proofs.Meaning.{refers_to_one}
use Rattle.yv_expand_definition.proofs.ExpansionUniqueness.{expand_one}
use Rattle.yv_expand_definition.proofs.laws.files_have_one_schema.Goals as goal

pub returns : goal.returns
returns c = λ choice files first second a b.
    let made : a.made ≡ b.made =
    expand_one files (refers_to_one c.a_name_means_one_thing.ensures files) (marks_of choice files) (order_of choice files) a.made b.made a.expand b.expand in
    let on : (k : ℕ) → a.on k ≡ b.on k = λ k. same_answer (a.on k) (b.on k) _ (a.are_on k) (b.are_on k) in
    a.are ∙ (left_same a.on b.on on a.made.nodes ∙ (ap (λ (m : Product). remains b.on m.nodes) made ∙ sym b.are))
