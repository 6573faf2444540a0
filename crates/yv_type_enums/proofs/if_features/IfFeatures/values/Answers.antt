use Rattle.std.proofs.Common.{◌∙◌, ◌||◌, sym, ap}
use Rattle.std.specs.Str.{bytes_eq}
use Rattle.yv_link.specs.LinkedFiles.{truth_in}
use Rattle.yv_type_enums.specs.InnerEntries.{counts, borrow}
use Rattle.yv_type_enums.specs.Values.{has}
use Rattle.yv_type_enums.proofs.NextValueName.{value_more, value_same, lent_at}
use Rattle.yv_type_enums.proofs.if_features.IfFeatures.values.Goals as goal
use Rattle.yv_type_enums.proofs.if_features.IfFeatures.values.Goals.{then-is_value+in_ok-add, else-is_value}

pub loop-line-preserved : goal.loop-line-preserved
loop-line-preserved c =
    let count = counts c.args.numbering.now c.args.base in
    let truth = truth_in c.args.self.now.linked.now in
    let file = c.args.self.now.file in
    let cs = borrow c.args.lines.now in
    let line = c.line-item.result in
    let at = lent_at c.args.lines.now c.loop-line.line-index line c.loop-line-test.true c.line-item.is in
    elim c.if-is_value.branch [
      | then-is_value+in_ok-add w ↦ rw w.values-is (value_more count truth file cs c.loop-line.line-index line.now (has c.loop-line.values) (has w.add.new.self) at.0 at.1 (sym c.is_value.ensures ∙ w.if-is_value.true)
          (λ s. w.in_ok-add.ensures s ∙ ap (λ n. has c.loop-line.values s || bytes_eq n s) w.name_of.ensures)
          c.loop-line.invariant)
      | else-is_value w ↦ rw w.values-is (value_same count truth file cs c.loop-line.line-index line.now (has c.loop-line.values) at.0 at.1 (sym c.is_value.ensures ∙ w.if-is_value.false) c.loop-line.invariant)
    ]
