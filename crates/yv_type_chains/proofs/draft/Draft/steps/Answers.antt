use Rattle.std.proofs.Common.{◌≡◌, List, Some, length, ◌∙◌, ap, arith}
use Rattle.std.specs.List.{slice_get}
use Rattle.yv_link_scopes.specs.Rows.{Row, row}
use Rattle.yv_link_scopes.specs.Views.{rows_in}
use Rattle.yv_type_chains.proofs.Words.{longer, row_read, rows_count}
use Rattle.yv_type_chains.proofs.TypeGraph.{edges_more, steps_all}
use Rattle.yv_type_chains.proofs.draft.Draft.steps.Goals as goal

pub edges-requires : goal.edges-requires
edges-requires c = row_read row _ (rows_in c.args.self.now.rows.now) c.loop-number.number c.index-entries-number.result c.entries-entries.ensures c.loop-number-test.true c.index-entries-number.is

pub loop-number-preserved : goal.loop-number-preserved
loop-number-preserved c =
    let rows : List Row = rows_in c.args.self.now.rows.now in
    let r : Row = row c.index-entries-number.result in
    let at : slice_get rows c.loop-number.number ≡ Some r = row_read row _ rows c.loop-number.number c.index-entries-number.result c.entries-entries.ensures c.loop-number-test.true c.index-entries-number.is in
    record {
      each = ap length c.in_ok-push.ensures.items ∙ longer c.loop-number.steps.items _ ∙ omega (arith, c.loop-number.invariant.each);
      edges = edges_more rows c.args.self.now.follows.items c.loop-number.number c.loop-number.steps.items c.push.new.self.items _ r c.loop-number.invariant.each c.in_ok-push.ensures.items at c.in_ok-edges.ensures c.loop-number.invariant.edges;
    }

pub returns : goal.returns
returns c =
    let rows : List Row = rows_in c.args.self.now.rows.now in
    let count : length c.loop-number.steps.items ≡ length rows = omega (arith, c.loop-number.invariant.each, rows_count row _ rows c.entries-entries.ensures, c.loop-number-test.false, c.loop-number.auto.number-end) in
    steps_all rows c.args.self.now.follows.items c.loop-number.steps.items count c.args.self.now.within (λ k r h. c.loop-number.invariant.edges k r (omega (arith, h, c.loop-number.invariant.each)))
