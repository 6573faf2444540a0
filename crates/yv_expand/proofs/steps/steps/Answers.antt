use Rattle.std.proofs.Common.{ap, arith, List}
use Rattle.yv_link_scopes.specs.Rows.{Row, row}
use Rattle.yv_link_scopes.specs.Views.{files_in, rows_in}
use Rattle.yv_expand.proofs.UnitWords.{row_read, rows_count}
use Rattle.yv_expand.proofs.StepTable.{stepping_all, stepping_graph, stepping_none, stepping_other, stepping_some}
use Rattle.yv_expand.proofs.steps.steps.Goals as goal
use Rattle.yv_expand.proofs.steps.steps.Goals.{in-Some+in_ok-push, in_default}

pub loop-number-init : goal.loop-number-init
loop-number-init c = stepping_none _ (files_in c.args.rows.now) (rows_in c.args.rows.now) _ c.in_ok-steps.ensures

pub grouping_of-requires : goal.grouping_of-requires
grouping_of-requires c = row_read row _ (rows_in c.args.rows.now) _ _ c.entries-entry-items.ensures c.loop-number-test.true c.entry-item.is

pub index_mut-requires : goal.index_mut-requires
index_mut-requires c = omega (arith, rows_count row _ (rows_in c.args.rows.now) c.entries-entry-items.ensures, c.loop-number-test.true, c.loop-number.invariant.each)

pub loop-number-preserved : goal.loop-number-preserved
loop-number-preserved c =
    let rows : List Row = rows_in c.args.rows.now in
    elim c.match-grouping_of.branch [
      | in-Some+in_ok-push w ↦ stepping_some _ (files_in c.args.rows.now) rows c.loop-number.number w.in-Some.meant c.loop-number.steps.items _ w.index_mut.result.now w.push.new.self c.grouping_of.result c.loop-number.invariant c.grouping_of.ensures.uses c.grouping_of.ensures.within w.in-Some.is (omega (arith, rows_count row _ rows c.entries-entry-items.ensures, c.loop-number-test.true, c.loop-number.invariant.each)) w.index_mut.ensures.value w.in_ok-push.ensures.items (ap (λ v. v.items) w.steps-is)
      | in_default w ↦ rw w.steps-is (stepping_other _ (files_in c.args.rows.now) rows c.loop-number.number _ c.grouping_of.result c.loop-number.invariant c.grouping_of.ensures.uses w.in_default.is)
    ]

pub returns-clause-graph : goal.returns-clause-graph
returns-clause-graph c = stepping_graph _ (files_in c.args.rows.now) (rows_in c.args.rows.now) c.loop-number.number _ (omega (arith, rows_count row _ (rows_in c.args.rows.now) c.entries-entry-items.ensures, c.loop-number-test.false)) c.loop-number.invariant

pub returns-clause-steps : goal.returns-clause-steps
returns-clause-steps c = λ h. stepping_all _ (files_in c.args.rows.now) (rows_in c.args.rows.now) c.loop-number.number _ (omega (arith, rows_count row _ (rows_in c.args.rows.now) c.entries-entry-items.ensures, c.loop-number-test.false)) c.loop-number.invariant h
