use Rattle.std.proofs.Common.{List, subst}
use Rattle.yv_link_scopes.specs.Files.{Briefs}
use Rattle.yv_link_scopes.specs.Rows.{Row}
use Rattle.yv_link_scopes.specs.Views.{files_in, rows_in}
use Rattle.yv_base_graph.specs.Graph.{IsOrder, IsFirstOnCycle}
use Rattle.yv_base_graph.specs.Ranks.{IfCycle, IfRanks}
use Rattle.yv_base_graph.specs.declared.cycles.Ranking.{Ranking}
use Rattle.yv_type_chains.proofs.TypeOrder.{no_cycle, order_of}
use Rattle.yv_type_chains.proofs.draft.Draft.order_of.Goals as goal

pub returns-in-Ranks : goal.returns-in-Ranks
returns-in-Ranks c = λ names given told.
    let files : Briefs = files_in c.args.self.now.rows.now in
    let rows : List Row = rows_in c.args.self.now.rows.now in
    let order : IsOrder c.args.steps.now c.in-Ranks.order.items = subst (λ (x : Ranking). IfRanks x (λ ranks order. IsOrder c.args.steps.now order)) c.in-Ranks.is c.in_ok-order.ensures.order in
    order_of files rows c.args.self.now.follows.items c.args.steps.now c.requires told c.in-Ranks.order.items order

pub returns : goal.returns
returns c = λ names given told.
    let files : Briefs = files_in c.args.self.now.rows.now in
    let rows : List Row = rows_in c.args.self.now.rows.now in
    let first : IsFirstOnCycle c.args.steps.now c.in-Cycle.field-0 = subst (λ (x : Ranking). IfCycle x (IsFirstOnCycle c.args.steps.now)) c.in-Cycle.is c.in_ok-order.ensures.cycle in
    absurd (no_cycle files rows c.args.self.now.follows.items c.args.steps.now c.requires told names.order.items given.order c.in-Cycle.field-0 first.cycle)
