use Rattle.std.proofs.Common.{◌≡◌, ◌≤◌, ◌∙◌, sym, arith, length, get_or}
use Rattle.std.proofs.lemmas.Result.{on_ok_weaker}
use Rattle.yv_base_graph.proofs.EdgeStep.{is_next}
use Rattle.yv_base_graph.proofs.SearchInvariant.{has_head, not_head, all_within, ended_row, retreat_steps, leave_steps}
use Rattle.yv_base_graph.proofs.search.Search.step.Goals as goal

pub follow-requires-clause-next : goal.follow-requires-clause-next
follow-requires-clause-next c = is_next _ _ _ _ _ _ _ c.requires.busy c.place-place.ensures c.node-node.ensures.top c.node-node.ensures.within c.index-graph-node.is c.cursor-cursor.ensures (omega (arith, c.if-cursor-len.true, c.len.ensures)) c.index-target.ensures

pub leave-requires-clause-nodes : goal.leave-requires-clause-nodes
leave-requires-clause-nodes c = all_within _ _ c.requires.searches

pub returns-then-head-place : goal.returns-then-head-place
returns-then-head-place c =
    let le : c.len.result ≤ get_or c.args.self.now.cursors c.node-node.result 0 = omega (arith, c.if-cursor-len.false, c.cursor-cursor.ensures) in
    let all : c.len.result ≡ length c.index-graph-node.result.items = omega (arith, c.len.ensures) in
    on_ok_weaker c.leave.result (λ e. leave_steps _ _ _ _ _ c.requires.searches c.requires.busy c.node-node.ensures.top (has_head _ _ c.requires.searches c.requires.busy) (sym c.if-head-place.true ∙ c.head.ensures) (λ row at. ended_row _ _ c.index-graph-node.result _ c.len.result c.node-node.ensures.within c.index-graph-node.is le all row at) e) c.leave.ensures

pub returns-else-head-place : goal.returns-else-head-place
returns-else-head-place c =
    let le : c.len.result ≤ get_or c.args.self.now.cursors c.node-node.result 0 = omega (arith, c.if-cursor-len.false, c.cursor-cursor.ensures) in
    let all : c.len.result ≡ length c.index-graph-node.result.items = omega (arith, c.len.ensures) in
    retreat_steps _ _ _ _ _ c.requires.searches c.requires.busy c.node-node.ensures.top (not_head _ _ _ _ _ c.requires.searches c.node-node.ensures.top (has_head _ _ c.requires.searches c.requires.busy) c.head.ensures c.if-head-place.false) (λ row at. ended_row _ _ c.index-graph-node.result _ c.len.result c.node-node.ensures.within c.index-graph-node.is le all row at) c.retreat.ensures
