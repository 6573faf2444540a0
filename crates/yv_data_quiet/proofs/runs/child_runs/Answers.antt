use Rattle.std.proofs.Common.{◌≡◌, ◌+◌, ◌-◌, ◌<◌, ◌∷◌, [], ℕ, List, length, length-append, get_or, drop, sym, ap, ◌∙◌, subst, arith}
use Rattle.yv_nodes.specs.declared.node.NodeId.{NodeId}
use Rattle.yv_nodes.specs.Rows.{children_of}
use Rattle.yv_data_quiet.specs.Runs.{IsRun}
use Rattle.yv_data_quiet.specs.declared.runs.Run.{Run}
use Rattle.yv_data_quiet.proofs.Children.{split_at}
use Rattle.yv_data_quiet.proofs.QuietRuns.{longer_or, runs_more}
use Rattle.yv_data_quiet.proofs.runs.child_runs.Goals as goal

pub loop-index-preserved : goal.loop-index-preserved
loop-index-preserved c =
    let s = c.args.schema.now in
    let items = c.children-children.result.now in
    let cs : List NodeId = children_of s c.args.parent in
    let same : items ≡ cs = c.children-children.ensures.value in
    let i : ℕ = c.loop-index.index in
    let at : ℕ = length cs - 1 - i in
    let d : NodeId = record { 0 = 0 } in
    let many : length items ≡ length cs = ap length same in
    let number : length items - 1 - i ≡ at = omega (arith, many) in
    let child : get_or items (length items - 1 - i) d ≡ get_or cs at d = ap (λ (n : ℕ). get_or items n d) number ∙ ap (λ (ns : List NodeId). get_or ns at d) same in
    let lt : at < length cs = omega (arith, many) in
    let next : at + 1 ≡ length cs - i = omega (arith, many) in
    let run : Run = c.unwrap_or-run.result in
    let later : IsRun s (drop (at + 1) cs) c.loop-index.run = subst (λ (n : ℕ). IsRun s (drop n cs) c.loop-index.run) (sym next) c.loop-index.invariant.run in
    let longer : IsRun s (get_or items (length items - 1 - i) d ∷ drop (at + 1) cs) run =
    subst (λ (r : Run). IsRun s (get_or items (length items - 1 - i) d ∷ drop (at + 1) cs) r) (sym c.unwrap_or-run.ensures)
    (longer_or c.longer.result s (get_or items (length items - 1 - i) d) (drop (at + 1) cs) c.loop-index.run c.known_steps-steps.result c.longer.ensures later c.known_steps-steps.ensures) in
    let here : IsRun s (drop at cs) run =
    subst (λ (ns : List NodeId). IsRun s ns run) (ap (λ (n : NodeId). n ∷ drop (at + 1) cs) child ∙ sym (split_at cs at d lt)) longer in
    let end : at ≡ length cs - (i + 1) = omega arith in
    record {
      many = omega (arith, c.loop-index.invariant.many, ap length c.in_ok-push.ensures.items, length-append c.loop-index.runs.items (run ∷ []));
      runs = runs_more s cs c.loop-index.runs.items c.push.new.self.items run i c.loop-index.invariant.runs c.in_ok-push.ensures.items c.loop-index.invariant.many here;
      run = subst (λ (n : ℕ). IsRun s (drop n cs) run) end here;
    }
