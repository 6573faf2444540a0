use Rattle.std.proofs.Common.{ℕ, List, [], ◌++◌, Option, Some, ap, ◌∙◌}
use Rattle.yv_expand_refines.specs.Changes.{sequence_at}
use Rattle.yv_node_statements.specs.RefinedContext.{sequences_of}
use Rattle.yv_node_statements.proofs.RefineRuns.{one_more}
use Rattle.yv_node_statements.proofs.refined_definitions.RefinedDefinitions.chain.Goals as goal

pub returns-in_default : goal.returns-in_default
returns-in_default c =
    let sequences = sequences_of c.args.self.now in
    let run = c.link-link.result.run in
    let made = c.link-link.ensures.sequence ∙ ap (λ (front : Option ℕ). sequence_at sequences front ++ run.now) c.in_default.is in
    record {
      before = [];
      said = c.in_ok-said.ensures;
      all = one_more [] (sequence_at sequences (Some c.loop-runs.next)) (sequence_at sequences (Some c.args.sequence)) c.loop-runs.runs.items c.push.new.self.items run made c.in_ok-push.ensures.items c.loop-runs.invariant;
    }

pub returns-in-Some-find : goal.returns-in-Some-find
returns-in-Some-find c =
    let sequences = sequences_of c.args.self.now in
    let run = c.link-link.result.run in
    let made = c.link-link.ensures.sequence ∙ ap (λ (front : Option ℕ). sequence_at sequences front ++ run.now) c.in-Some.is in
    let before : List ℕ = sequence_at sequences (Some c.in-Some.front) in
    record {
      before = before;
      said = c.in_ok-said-2.ensures ∙ c.in-Some-find.ensures;
      all = one_more before (sequence_at sequences (Some c.loop-runs.next)) (sequence_at sequences (Some c.args.sequence)) c.loop-runs.runs.items c.push.new.self.items run made c.in_ok-push.ensures.items c.loop-runs.invariant;
    }

pub loop-runs-preserved : goal.loop-runs-preserved
loop-runs-preserved c =
    let sequences = sequences_of c.args.self.now in
    let run = c.link-link.result.run in
    let made = c.link-link.ensures.sequence ∙ ap (λ (front : Option ℕ). sequence_at sequences front ++ run.now) c.in-Some.is in
    one_more (sequence_at sequences (Some c.in-Some.front)) (sequence_at sequences (Some c.loop-runs.next)) (sequence_at sequences (Some c.args.sequence)) c.loop-runs.runs.items c.push.new.self.items run made c.in_ok-push.ensures.items c.loop-runs.invariant
