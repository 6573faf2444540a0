use Rattle.std.proofs.Common.{◌≡◌, map, sym, subst}
use Rattle.yv_text_statement.specs.Selection.{selected_of}
use Rattle.yv_lint.specs.RuleChoice.{asked_in}
use Rattle.yv_lint.specs.Findings.{findings}
use Rattle.yv_lint.specs.Order.{Ascend}
use Rattle.yv_lint.proofs.AscendingFindings.{findings_ascend}
use Rattle.yv_lint.proofs.FileLists.{file_more, files_end}
use Rattle.yv_lint.proofs.findings.lint.Goals as goal

pub loop-number-preserved : goal.loop-number-preserved
loop-number-preserved c = file_more (asked_in c.args.rules.now) (selected_of c.args.selection.now) c.args.roots.now c.args.paths.now c.loop-number.number _ _ _ _ c.loop-number-test.true c.in_ok-add_number.ensures c.loop-number.invariant

pub returns : goal.returns
returns c =
    let asked = asked_in c.args.rules.now in
    let choice = selected_of c.args.selection.now in
    let same : c.loop-number.list.items ≡ findings asked choice (map (λ path. path.now) c.args.paths.now) c.args.roots.now =
    files_end asked choice c.args.roots.now c.args.paths.now c.loop-number.number _ _ c.loop-number-test.false c.loop-number.invariant
    in
    record {
      findings = same;
      ascending = λ h. subst (λ fs. Ascend fs) (sym same) (findings_ascend asked choice c.args.roots.now (map (λ path. path.now) c.args.paths.now) h);
    }
