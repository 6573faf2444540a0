use Rattle.std.proofs.Common.{◌≡◌, ℕ, ◌<◌, Some, List, Bool, length, sym, ◌∙◌, ap, subst}
use Rattle.std.proofs.lemmas.Option.{slice_get_within}
use Rattle.yv_base_graph.specs.Graph.{AreOnCycles, Graph, IsFirstOnCycle, IsGraph, IsOrder}
use Rattle.yv_base_graph.specs.Ranks.{IfCycle, IfRanks}
use Rattle.yv_base_graph.specs.declared.cycles.Ranking.{Ranking}
use Rattle.yv_link_scopes.specs.Files.{Briefs}
use Rattle.yv_link_scopes.specs.Views.{files_in, rows_in}
use Rattle.yv_link_scopes.specs.Rows.{Row}
use Rattle.yv_link_scopes.specs.Tables.{Table, first_of}
use Rattle.yv_link_scopes.specs.declared.kind.NameKind.TheVariants.{Feature}
use Rattle.yv_link_features.specs.Meaning.{looked_up}
use Rattle.yv_link_features.specs.InnerGraph.{IsOrderOf, steps_of}
use Rattle.yv_link_features.specs.InnerNames.{means_in}
use Rattle.yv_link_features.proofs.Steps.{is_graph, cycles_of, no_cycle_left, order_of, graph_len, meant_feature}
use Rattle.yv_link_features.proofs.names.FeatureNames.marks.Goals as goal

-- what names mean are statements
bound : (table : Table) (files : Briefs) (rows : List Row) → table ≡ first_of Feature rows → (file : ℕ) (name : List ℕ) (d : ℕ) → looked_up table files rows file name ≡ Some d → d < length rows
bound table files rows same file name d e =
    let q = meant_feature files rows file name d (ap (λ (t : Table). looked_up t files rows file name) (sym same) ∙ e) in
    slice_get_within rows d q.0 q.1

pub nodes_on_cycles-requires : goal.nodes_on_cycles-requires
nodes_on_cycles-requires c =
    let rows = rows_in c.args.self.now.rows.now in
    let means = means_in c.args.self.now in
    record { graph = subst (λ (g : Graph). IsGraph g) (sym c.deref-2.ensures.value) (is_graph means rows c.in_ok-lists.lists.items c.in_ok-graph.graph.items c.in_ok-lists.ensures (c.in_ok-graph.ensures ∙ ap (steps_of means rows) c.deref.ensures.value) (bound _ (files_in c.args.self.now.rows.now) rows c.requires)) }

pub rank-requires : goal.rank-requires
rank-requires c =
    let rows = rows_in c.args.self.now.rows.now in
    let means = means_in c.args.self.now in
    record { graph = subst (λ (g : Graph). IsGraph g) (sym c.deref-4.ensures.value) (is_graph means rows c.in_ok-lists.lists.items c.in_ok-graph.graph.items c.in_ok-lists.ensures (c.in_ok-graph.ensures ∙ ap (steps_of means rows) c.deref.ensures.value) (bound _ (files_in c.args.self.now.rows.now) rows c.requires)) }

pub first_refusal-requires-clause-each : goal.first_refusal-requires-clause-each
first_refusal-requires-clause-each c =
    let rows = rows_in c.args.self.now.rows.now in
    let means = means_in c.args.self.now in
    ap length c.deref-3.ensures.value
    ∙ c.in_ok-cycles.ensures.exact.each
    ∙ ap length c.deref-2.ensures.value
    ∙ graph_len means rows c.in_ok-lists.lists.items c.in_ok-graph.graph.items c.in_ok-lists.ensures (c.in_ok-graph.ensures ∙ ap (steps_of means rows) c.deref.ensures.value)

pub first_refusal-requires-clause-cycles : goal.first_refusal-requires-clause-cycles
first_refusal-requires-clause-cycles c =
    let rows = rows_in c.args.self.now.rows.now in
    let means = means_in c.args.self.now in
    cycles_of means rows c.in_ok-lists.lists.items c.in_ok-graph.graph.items c.in_ok-lists.ensures (c.in_ok-graph.ensures ∙ ap (steps_of means rows) c.deref.ensures.value) c.deref-3.result.now
    (subst (λ (marks : List Bool). AreOnCycles c.in_ok-graph.graph.items marks) (sym c.deref-3.ensures.value) (subst (λ (g : Graph). AreOnCycles g c.in_ok-cycles.cycles.items) c.deref-2.ensures.value c.in_ok-cycles.ensures.exact))

pub unreachable-requires : goal.unreachable-requires
unreachable-requires c =
    let rows = rows_in c.args.self.now.rows.now in
    let means = means_in c.args.self.now in
    no_cycle_left means rows c.in_ok-lists.lists.items c.in_ok-graph.graph.items c.in_ok-lists.ensures (c.in_ok-graph.ensures ∙ ap (steps_of means rows) c.deref.ensures.value) c.in_default-2.field-0
    (subst (λ (g : Graph). IsFirstOnCycle g c.in_default-2.field-0) c.deref-4.ensures.value (subst (λ (x : Ranking). IfCycle x (IsFirstOnCycle c.deref-4.result.now)) c.in_default-2.is c.in_ok-order.ensures.cycle))
    c.in_default.ensures

pub truths-requires-clause-order : goal.truths-requires-clause-order
truths-requires-clause-order c =
    let rows = rows_in c.args.self.now.rows.now in
    let means = means_in c.args.self.now in
    subst (λ (order : List ℕ). IsOrderOf means rows order) (sym c.deref-6.ensures.value)
    (order_of means rows c.in_ok-lists.lists.items c.in_ok-graph.graph.items c.in_ok-lists.ensures (c.in_ok-graph.ensures ∙ ap (steps_of means rows) c.deref.ensures.value) c.in-Ranks.order.items
    (subst (λ (g : Graph). IsOrder g c.in-Ranks.order.items) c.deref-4.ensures.value (subst (λ (x : Ranking). IfRanks x (λ ranks order. IsOrder c.deref-4.result.now order)) c.in-Ranks.is c.in_ok-order.ensures.order)))
