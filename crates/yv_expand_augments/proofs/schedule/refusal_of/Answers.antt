use Rattle.std.proofs.Common.{◌≡◌, ◌<◌, List, Some, length, ap, sym, ◌∙◌, arith}
use Rattle.std.specs.List.{slice_get}
use Rattle.std.specs.Option.{option_map}
use Rattle.std.proofs.lemmas.List.{length-map}
use Rattle.std.proofs.lemmas.Option.{slice_get-get_or, slice_get-map}
use Rattle.yv_text_statement.specs.declared.refusal.Code.TheVariants as code
use Rattle.yv_link_scopes.specs.Views.{rows_in}
use Rattle.yv_link_scopes.specs.Rows.{Row, row}
use Rattle.yv_link_scopes.specs.declared.entry.Entry.{Entry}
use Rattle.yv_expand_augments.proofs.schedule.refusal_of.Goals as goal

pub returns : goal.returns
returns c =
    let entries : List Entry = c.entries.result.now in
    let entry : Entry = c.index-entries-augment.result in
    let less : c.args.augment < length entries = (let size = ap length c.entries.ensures in let each = length-map entries row in omega (arith, size, each, c.requires)) in
    let at : slice_get (rows_in c.args.plan.now.rows.now) c.args.augment ≡ Some (row entry) =
    ap (λ (l : List Row). slice_get l c.args.augment) (sym c.entries.ensures) ∙ slice_get-map row entries c.args.augment
    ∙ ap (option_map row) (slice_get-get_or entries c.args.augment entry less ∙ ap Some (sym c.index-entries-augment.is)) in
    (row entry, at, (tt, λ i. record { code = code.AugmentTarget; file = entry.file; offset = c.offset.ensures i; line = c.line.ensures i }))
