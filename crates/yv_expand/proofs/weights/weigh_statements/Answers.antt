use Rattle.std.proofs.Common.{List, ℕ, sym, subst}
use Rattle.yv_link_scopes.specs.Files.{Briefs}
use Rattle.yv_link_scopes.specs.Rows.{Row}
use Rattle.yv_link_scopes.specs.Views.{lent_in, files_in, rows_in}
use Rattle.yv_base_graph.specs.Graph.{HasNoCycle, IsOrder}
use Rattle.yv_expand.specs.InnerLists.{Lists}
use Rattle.yv_expand.specs.InnerSteps.{AreSteps}
use Rattle.yv_expand.proofs.StepCycles.{no_cycle}
use Rattle.yv_expand.proofs.weights.weigh_statements.Goals as goal

pub returns : goal.returns
returns c = λ h.
    let files : Briefs = files_in c.args.rows.now in
    let rows : List Row = rows_in c.args.rows.now in
    let steps : AreSteps files rows c.in_ok-steps.steps.items = c.in_ok-steps.ensures.steps h in
    let none : HasNoCycle c.in_ok-steps.steps.items = no_cycle files rows c.in_ok-steps.steps.items (c.blocks_are_nested.ensures (lent_in c.args.rows.now)) steps _ h.order in
    let order : IsOrder c.deref.result.now c.in_ok-order.order.items = c.in_ok-order.ensures.order (subst (λ (g : Lists). HasNoCycle g) (sym c.deref.ensures.value) none) in
    let order_too : IsOrder c.deref-2.result.now c.deref-3.result.now =
    subst (λ (g : Lists). IsOrder g c.deref-3.result.now) (sym c.deref-2.ensures.value)
    (subst (λ (o : List ℕ). IsOrder c.in_ok-steps.steps.items o) (sym c.deref-3.ensures.value) (subst (λ (g : Lists). IsOrder g c.in_ok-order.order.items) c.deref.ensures.value order)) in
    c.values.ensures files (subst (λ (g : Lists). AreSteps files rows g) (sym c.deref-2.ensures.value) steps) order_too
