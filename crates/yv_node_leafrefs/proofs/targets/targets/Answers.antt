use Rattle.std.proofs.Common.{◌≡◌, ◌+◌, ◌≤◌, length, ◌∙◌, ap, arith}
use Rattle.yv_node_leafrefs.specs.InnerOutline.{rows_in, schema_in}
use Rattle.yv_node_leafrefs.proofs.AncestorPlaces.{longer}
use Rattle.yv_node_leafrefs.proofs.LeafrefTargets.{targets_more, targets_all}
use Rattle.yv_node_leafrefs.proofs.targets.targets.Goals as goal

pub loop-number-preserved : goal.loop-number-preserved
loop-number-preserved c =
    let known = c.loop-number.invariant in (
      ap length c.in_ok-push.ensures.items ∙ longer c.loop-number.targets.items c.target-found.result ∙ ap (λ k. k + 1) known.0,
      targets_more (schema_in c.args.outline.now) c.loop-number.number c.loop-number.targets.items c.push.new.self.items c.target-found.result known.0 known.1 c.target-found.ensures c.in_ok-push.ensures.items,
    )

pub returns-clause-targets : goal.returns-clause-targets
returns-clause-targets c =
    let known = c.loop-number.invariant in
    let o = c.args.outline.now in
    let all : length (rows_in o) ≤ c.loop-number.number = omega (arith, c.loop-number-test.false) in
    let each : length c.loop-number.targets.items ≡ length (rows_in o) = omega (arith, known.0, c.loop-number.auto.number-end, all) in
    targets_all (schema_in o) c.loop-number.targets.items each (λ d x l. known.1 d x (omega (arith, l, all)))
