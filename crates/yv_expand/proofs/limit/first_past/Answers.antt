use Rattle.std.proofs.Common.{◌≡◌, ◌<◌, sym, ◌∙◌, ap, arith, cond, length, Some, None, refl}
use Rattle.yv_text_statement.specs.Order.{refusal_at}
use Rattle.yv_text_statement.specs.Tree.{Head}
use Rattle.yv_text_statement.specs.declared.refusal.Code.TheVariants as code
use Rattle.yv_link_scopes.specs.Files.{Briefs, Files, brief, brief_of}
use Rattle.yv_link_scopes.specs.Views.{lent_in, files_in, rows_in}
use Rattle.yv_expand.proofs.UnitWords.{row_read, rows_count}
use Rattle.yv_expand.proofs.FileLimits.{brief_at, file_weighs, limiting_all, limiting_fits, limiting_more, limiting_none}
use Rattle.yv_expand.proofs.limit.first_past.Goals as goal

pub loop-number-init : goal.loop-number-init
loop-number-init c = limiting_none _ _ _ _

pub loop-number-preserved : goal.loop-number-preserved
loop-number-preserved c =
    let all : Files = lent_in c.args.rows.now in
    let files : Briefs = files_in c.args.rows.now in
    let brief_here = row_read brief _ files c.loop-number.number c.file-item.result c.files-file-items.ensures.each c.loop-number-test.true c.file-item.is in
    let found = brief_at all c.loop-number.number (brief c.file-item.result) brief_here in
    let within : c.loop-number.number < length files = omega (arith, rows_count brief _ files c.files-file-items.ensures.each, c.loop-number-test.true) in
    limiting_more _ all c.args.given.now c.args.limit c.loop-number.number _ c.file_units.result _ _ c.refusal_if-fault.result _ found.0 c.is_passed-passed.result c.units_are_one.ensures (omega (arith, c.ranges.limit.fits)) c.loop-number.invariant found.1
    (λ h. file_weighs files (rows_in c.args.rows.now) c.args.values.now c.args.tops.now c.args.given.now (length files) c.loop-number.number c.file_units.result h c.requires within c.file_units.ensures)
    c.saturating_add-total.ensures
    c.is_passed-passed.ensures
    (c.refusal_if-fault.ensures ∙ ap (λ (h : Head). cond c.is_passed-passed.result (Some (refusal_at code.TooManyNodes c.loop-number.number h)) None) (sym found.2))
    c.lesser-least.ensures

pub returns-clause-refusal : goal.returns-clause-refusal
returns-clause-refusal c = λ h.
    let files : Files = lent_in c.args.rows.now in
    limiting_all _ files c.args.given.now c.args.limit c.loop-number.number _ _ (omega (arith, rows_count brief _ (files_in c.args.rows.now) c.files-file-items.ensures.each, rows_count brief_of files (files_in c.args.rows.now) refl, c.loop-number-test.false)) c.loop-number.invariant h

pub returns-clause-fits : goal.returns-clause-fits
returns-clause-fits c = λ h.
    let files : Files = lent_in c.args.rows.now in
    let all : c.loop-number.number ≡ length files = omega (arith, rows_count brief _ (files_in c.args.rows.now) c.files-file-items.ensures.each, rows_count brief_of files (files_in c.args.rows.now) refl, c.loop-number-test.false, c.loop-number.auto.number-end) in
    limiting_fits _ files c.args.given.now c.args.limit c.loop-number.number _ _ (omega (arith, c.ranges.limit.fits)) all c.loop-number.invariant h
