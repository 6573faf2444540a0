use Rattle.std.proofs.Common.{◌≡◌, length, sym, subst, arith, rules}
use Rattle.yv_base_graph.specs.Graph.{Graph, IsGraph, AreReached}
use Rattle.yv_link_scopes.specs.Files.{Briefs}
use Rattle.yv_link_scopes.specs.Rows.{name_in}
use Rattle.yv_link_scopes.specs.Views.{files_in, rows_in}
use Rattle.yv_link_modules.proofs.ImportWays.{imported_named, is_graph, leads_all, rows_more}
use Rattle.yv_link_modules.proofs.imports.import_leads.Goals as goal

pub reachable_from-requires-clause-graph : goal.reachable_from-requires-clause-graph
reachable_from-requires-clause-graph c =
    let files : Briefs = files_in c.args.rows.now in
    subst (λ (g : Graph). IsGraph g) (sym c.deref.ensures.value)
    (is_graph files (rows_in c.args.rows.now) c.in_ok-graph.graph.items (λ r b e. c.modules_are_files.ensures.names files (name_in r) b (imported_named files r b e)) c.in_ok-graph.ensures)

pub loop-module-preserved : goal.loop-module-preserved
loop-module-preserved c =
    rows_more c.in_ok-graph.graph.items c.loop-module.module c.loop-module.leads.items c.push.new.self.items c.in_ok-reachable_from.field-0
    (subst (λ (g : Graph). AreReached g c.loop-module.module c.in_ok-reachable_from.field-0.items) c.deref.ensures.value c.in_ok-reachable_from.ensures.exact)
    c.in_ok-push.ensures.items c.loop-module.invariant

pub returns : goal.returns
returns c =
    let end : c.len-module-end.result ≡ length c.in_ok-graph.graph.items = search rules in
    let all : c.loop-module.module ≡ length c.in_ok-graph.graph.items = omega (arith, end, c.loop-module-test.false, c.loop-module.auto.module-end) in
    leads_all (files_in c.args.rows.now) (rows_in c.args.rows.now) c.in_ok-graph.graph.items c.in_ok-graph.ensures c.loop-module.module c.loop-module.leads.items all c.loop-module.invariant
