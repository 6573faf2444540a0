use Rattle.std.proofs.Common.{◌≡◌, Some, rules, sym, ◌∙◌}
use Rattle.yv_node_statements.specs.Definitions.{refined_definition}
use Rattle.yv_expand_refines.specs.Changes.{sequence_at}
use Rattle.yv_node_statements.specs.RefinedContext.{files_of, sequences_of, typing_of}
use Rattle.yv_node_statements.proofs.refined_definitions.RefinedDefinitions.find.Goals as goal

pub returns-then-kept-sequence : goal.returns-then-kept-sequence
returns-then-kept-sequence c =
    let self = c.args.self.now in
    let kept = c.in_ok-kept.kept.now in
    let is = self.kept_so c.key_of.result kept (sym c.in_ok-kept.ensures.value) in
    let from : kept.origin ≡ c.args.origin = search rules in
    let at : kept.sequence ≡ c.args.sequence = c.if-kept-sequence.true in
    is ∙ (λ i. refined_definition (typing_of self) (files_of self) (from i) (sequence_at (sequences_of self) (Some (at i))))
