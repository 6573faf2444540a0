use Rattle.std.proofs.Common.{◌≡◌, ℕ, Some, length, sym, ◌∙◌, subst, arith}
use Rattle.std.specs.List.{slice_get}
use Rattle.yv_text_statement.specs.Order.{Among, IsLeast}
use Rattle.yv_link_scopes.specs.Views.{rows_in}
use Rattle.yv_link_scopes.specs.Rows.{Row, row}
use Rattle.yv_link_features.specs.Refusals.{BadRow}
use Rattle.yv_link_features.specs.InnerNames.{means_in}
use Rattle.yv_link_features.proofs.Least.{least_more, least_stays}
use Rattle.yv_link_features.proofs.Lists.{mapped_at, mapped_len}
use Rattle.yv_link_features.proofs.names.FeatureNames.first_refusal.Goals as goal
use Rattle.yv_link_features.proofs.names.FeatureNames.first_refusal.Goals.{then-is_some, else-is_some}

pub loop-number-preserved : goal.loop-number-preserved
loop-number-preserved c =
    let rows = rows_in c.args.self.now.rows.now in
    let r : Row = row c.entry-item.result in
    let at : slice_get rows c.loop-number.number ≡ Some r = mapped_at row _ _ c.loop-number.number c.entry-item.result c.entries-entry-items.ensures c.loop-number-test.true c.entry-item.is in
    let own = c.refusal-refusal.ensures c.loop-number.number (c.requires.cycles c.loop-number.number) in
    elim c.if-is_some.branch [
      | then-is_some w ↦ rw w.first-is (least_more rows (BadRow (means_in c.args.self.now) rows) c.loop-number.number r _ _ _ at w.lesser-first.ensures c.loop-number.invariant own)
      | else-is_some w ↦ rw w.first-is (least_stays rows (BadRow (means_in c.args.self.now) rows) c.loop-number.number r _ c.refusal-refusal.result at c.loop-number.invariant (sym c.is_some.ensures ∙ w.if-is_some.false) own)
    ]

pub returns : goal.returns
returns c =
    let rows = rows_in c.args.self.now.rows.now in
    let all : c.loop-number.number ≡ length rows = omega (arith, c.loop-number-test.false, c.loop-number.auto.number-end, mapped_len row _ _ c.entries-entry-items.ensures) in
    subst (λ (n : ℕ). IsLeast (Among rows (BadRow (means_in c.args.self.now) rows) n) c.loop-number.first) all c.loop-number.invariant
