use Rattle.std.proofs.Common.{◌≡◌, ◌∙◌, ap, refl, subst, Some, Option}
use Rattle.yv_base_graph.specs.Graph.{Graph, IsOrder}
use Rattle.yv_base_graph.specs.Ranks.{IfRanks}
use Rattle.yv_base_graph.specs.declared.cycles.Ranking.{Ranking}
use Rattle.yv_text_statement.specs.Order.{IsLeast}
use Rattle.yv_text_statement.specs.declared.refusal.Refusal.{Refusal}
use Rattle.yv_link_definitions.specs.Refusals.{BadIn}
use Rattle.yv_link_scopes.specs.Views.{files_in, rows_in}
use Rattle.yv_link_definitions.proofs.Faulty.{cycle_read, none_marked, order_of, ranks_read, steps_read}
use Rattle.yv_link_definitions.proofs.draft.Draft.order.Goals as goal

pub cycle_refusal-requires-clause-steps : goal.cycle_refusal-requires-clause-steps
cycle_refusal-requires-clause-steps c = steps_read _ _ c.in_ok-steps.steps.items _ c.deref-in_default.ensures.value c.in_ok-steps.ensures

pub cycle_refusal-requires-clause-cycle : goal.cycle_refusal-requires-clause-cycle
cycle_refusal-requires-clause-cycle c = (c.in_default.field-0, cycle_read c.in_ok-steps.steps.items _ _ c.in_ok-order.field-0 c.in_default.field-0 c.deref.ensures.value c.deref-in_default.ensures.value c.in_default.is c.in_ok-order.ensures.cycle)

pub returns-in_default-clause-refusal : goal.returns-in_default-clause-refusal
returns-in_default-clause-refusal c r e =
    let same : c.in_ok-refusal.refusal ≡ r = (let h = e in cc) in
    let own = c.args.self.now.rows.now in
    subst (λ (f : Refusal). IsLeast (BadIn (files_in own) (rows_in own)) (Some f)) same c.in_ok-refusal.ensures

pub first_refusal-requires-clause-cycles : goal.first_refusal-requires-clause-cycles
first_refusal-requires-clause-cycles c = none_marked _ _ c.in_ok-steps.steps.items c.in-Ranks.ranks.items _ c.in_ok-steps.ensures (ranks_read _ _ _ _ _ c.deref.ensures.value c.in-Ranks.is c.in_ok-order.ensures.ranks) refl

pub returns-clause-makes : goal.returns-clause-makes
returns-clause-makes c =
    let own = c.args.self.now.rows.now in
    let order : IsOrder c.in_ok-steps.steps.items c.in-Ranks.order.items =
    subst (λ (g : Graph). IsOrder g c.in-Ranks.order.items) c.deref.ensures.value (subst (λ (x : Ranking). IfRanks x (λ ranks order. IsOrder c.deref.result.now order)) c.in-Ranks.is c.in_ok-order.ensures.order) in
    order_of (files_in own) (rows_in own) c.in_ok-steps.steps.items c.in_ok-steps.ensures c.in-Ranks.order.items order

pub returns-in-Some-clause-refusal : goal.returns-in-Some-clause-refusal
returns-in-Some-clause-refusal c r e =
    let same : c.in-Some.refusal ≡ r = (let h = e in cc) in
    let own = c.args.self.now.rows.now in
    subst (λ (o : Option Refusal). IsLeast (BadIn (files_in own) (rows_in own)) o) (c.in-Some.is ∙ ap Some same) c.first_refusal.ensures
