use Rattle.std.proofs.Common.{◌≡◌, ◌≤◌, List, length, None, Some, sym, ◌∙◌, ap, arith, rules}
use Rattle.std.proofs.lemmas.Option.{slice_get_past}
use Rattle.std.specs.List.{slice_get}
use Rattle.std.specs.Option.{option_map}
use Rattle.yv_link_scopes.specs.Files.{Briefs}
use Rattle.yv_link_scopes.specs.Rows.{Row, row}
use Rattle.yv_link_scopes.specs.Views.{files_in, rows_in}
use Rattle.yv_link_identities.specs.References.{ref_of}
use Rattle.yv_link_identities.proofs.DerivationWays.{meaning_found}
use Rattle.yv_link_identities.proofs.Numbering.{row_read, rows_count}
use Rattle.yv_link_identities.proofs.MeantIdentities.{reference_none, reference_some}
use Rattle.yv_link_identities.proofs.identity_table.Identities.identity.Goals as goal

pub returns-in_err-number : goal.returns-in_err-number
returns-in_err-number c t =
    let files : Briefs = files_in c.args.rows.now in
    let rows : List Row = rows_in c.args.rows.now in
    let none : c.from_residual-in_err-number.result ≡ None = search rules in
    reference_none files rows c.args.file c.args.name.now _ (meaning_found files rows _ c.args.file c.args.name.now _ _ None c.in_err-number.ensures t.names c.local.ensures c.in_ok-block.ensures) none

pub returns-in_err-entry : goal.returns-in_err-entry
returns-in_err-entry c t =
    let files : Briefs = files_in c.args.rows.now in
    let rows : List Row = rows_in c.args.rows.now in
    let none : c.from_residual-in_err-entry.result ≡ None = search rules in
    let past : length c.entries.result.now ≤ c.in_ok-number.number = c.in_err-entry.ensures.lookup.3 in
    let gone : slice_get rows c.in_ok-number.number ≡ None = slice_get_past rows c.in_ok-number.number (omega (arith, past, rows_count row _ rows c.entries.ensures)) in
    reference_some files rows c.args.file c.args.name.now c.in_ok-number.number _ (meaning_found files rows _ c.args.file c.args.name.now _ _ (Some c.in_ok-number.number) c.in_ok-number.ensures t.names c.local.ensures c.in_ok-block.ensures) (none ∙ ap (option_map ref_of) (sym gone))

pub returns : goal.returns
returns c t =
    let files : Briefs = files_in c.args.rows.now in
    let rows : List Row = rows_in c.args.rows.now in
    let found = c.in_ok-entry.ensures.lookup in
    let at : slice_get rows c.in_ok-number.number ≡ Some (row c.in_ok-entry.entry.now) = row_read row _ rows c.in_ok-number.number c.in_ok-entry.entry.now c.entries.ensures found.3.0 found.1 in
    reference_some files rows c.args.file c.args.name.now c.in_ok-number.number _ (meaning_found files rows _ c.args.file c.args.name.now _ _ (Some c.in_ok-number.number) c.in_ok-number.ensures t.names c.local.ensures c.in_ok-block.ensures) (ap Some c.reference.ensures ∙ ap (option_map ref_of) (sym at))
