use Rattle.std.proofs.Common.{◌≡◌, ℕ, List, ◌++◌, ap, ◌∙◌, subst, sym}
use Rattle.std.specs.Prelude.{IfOk}
use Rattle.yv_node_statements.specs.Definitions.{refined_definition}
use Rattle.yv_node_statements.specs.RefinedContext.{files_of, typing_of}
use Rattle.yv_node_statements.proofs.RefineRuns.{from_none, read}
use Rattle.yv_node_statements.proofs.refined_definitions.RefinedDefinitions.apply_chain.Goals as goal

pub returns : goal.returns
returns c = λ refines chain.
    let all : chain.before ++ c.deref.result.now ≡ refines =
    ap (λ (behind : List ℕ). chain.before ++ behind) (c.deref.ensures.value ∙ c.in_ok-refines.ensures) ∙ sym (from_none chain.before (read c.args.chain.runs.items)) ∙ chain.all in
    let self = c.args.self.now in
    subst (λ (all : List ℕ). IfOk c.more.result (λ d. d ≡ refined_definition (typing_of self) (files_of self) c.args.origin all)) all (c.more.ensures chain.before chain.said)
