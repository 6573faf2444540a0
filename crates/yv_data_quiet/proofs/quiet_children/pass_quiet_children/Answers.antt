use Rattle.std.proofs.Common.{◌≡◌, ◌+◌, ◌<◌, ℕ, List, length, length-drop, get_or, drop, false, refl, sym, ap, ◌∙◌, subst, arith}
use Rattle.std.proofs.lemmas.List.{drop-drop, get_or-drop}
use Rattle.yv_nodes.specs.declared.node.NodeId.{NodeId}
use Rattle.yv_nodes.specs.Rows.{children_of, tree_of}
use Rattle.yv_walk.specs.Context.{members_of}
use Rattle.yv_walk.specs.Existence.{any, tree_standing}
use Rattle.yv_data_quiet.specs.Runs.{IsRun}
use Rattle.yv_data_quiet.proofs.QuietRuns.{passed_run, run_within}
use Rattle.yv_data_quiet.proofs.quiet_children.pass_quiet_children.Goals as goal

pub returns : goal.returns
returns c =
    let s = c.args.schema.now in
    let p = c.args.parent in
    let ms = members_of c.args.context.now in
    let cs : List NodeId = children_of s p in
    let from : ℕ = c.args.from in
    let many : ℕ = c.min-many.result in
    let steps : ℕ = c.in-Some.steps in
    let all : length cs ≡ length c.children-children.result.now = sym (ap length c.children-children.ensures.value) in
    let run : IsRun s (drop from cs) c.run_at-run.result = c.run_at-run.ensures s cs all c.requires.runs in
    let rest : IsRun s (drop many (drop from cs)) c.run_at-rest.result =
    subst (λ (ns : List NodeId). IsRun s ns c.run_at-rest.result) (sym (drop-drop many from cs)) (c.run_at-rest.ensures s cs all c.requires.runs) in
    let part : IsRun s (drop from cs) (record { many = many; steps = steps }) = c.in-Some.ensures s (drop from cs) run rest in
    let none : (i : ℕ) → i < many → any (tree_standing (get_or (drop from cs) i p).0 (tree_of s (get_or (drop from cs) i p)) ms) ≡ false =
    λ i lt. ap (λ (n : NodeId). any (tree_standing n.0 (tree_of s n) ms)) (get_or-drop from cs i p)
    ∙ c.pass_absent-next.ensures.absent c.requires.context c.requires.stand (from + i) (omega arith) (omega (arith, lt))
    (omega (arith, lt, run_within s many (drop from cs) part.quiet, length-drop from cs)) in
    record {
      many = many;
      place = refl;
      passed = passed_run s ms many (drop from cs) p c.children-children.ensures.sound part.quiet none;
      steps = omega (arith, c.visit_all.ensures, part.steps);
    }
