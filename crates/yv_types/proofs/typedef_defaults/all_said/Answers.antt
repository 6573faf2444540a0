use Rattle.std.proofs.Common.{◌≤◌, length, ◌∙◌, ap, arith}
use Rattle.yv_link_scopes.specs.Rows.{row}
use Rattle.yv_link_scopes.specs.Views.{lent_in, rows_in}
use Rattle.yv_type_chains.proofs.Words.{longer, rows_count}
use Rattle.yv_types.specs.InnerDefaultTables.{said_at}
use Rattle.yv_types.proofs.TypedefDefaultTexts.{texts_all, texts_more}
use Rattle.yv_types.proofs.typedef_defaults.all_said.Goals as goal

pub loop-number-preserved : goal.loop-number-preserved
loop-number-preserved c = record {
  each = ap length c.in_ok-push.ensures.items ∙ longer c.loop-number.said.items _ ∙ omega (arith, c.loop-number.invariant.each);
  told = texts_more (said_at (lent_in c.args.rows.now)) c.loop-number.number c.loop-number.said.items c.push.new.self.items c.in_ok-said_at.field-0 c.loop-number.invariant.each c.in_ok-push.ensures.items c.in_ok-said_at.ensures c.loop-number.invariant.told;
}

pub returns : goal.returns
returns c =
    let past : length (rows_in c.args.rows.now) ≤ c.loop-number.number = omega (arith, rows_count row _ (rows_in c.args.rows.now) c.entries-number-end.ensures, c.loop-number-test.false) in
    texts_all (lent_in c.args.rows.now) c.loop-number.number c.loop-number.said.items past c.loop-number.invariant.told
