use Rattle.std.proofs.Common.{List}
use Rattle.yv_text_statement.specs.Order.{refusal_at}
use Rattle.yv_text_statement.specs.declared.refusal.Code.TheVariants as code
use Rattle.yv_text_statement.proofs.Least.{least_lesser}
use Rattle.yv_link_scopes.specs.Files.{Briefs}
use Rattle.yv_link_scopes.specs.Rows.{Row, row}
use Rattle.yv_link_scopes.specs.Views.{files_in, rows_in}
use Rattle.yv_type_chains.specs.Counts.{HasTooMany}
use Rattle.yv_type_chains.specs.Refusals.{IsBadType}
use Rattle.yv_type_chains.proofs.TypeFaults.{decided}
use Rattle.yv_type_chains.proofs.draft.Draft.row_refusal.Goals as goal

pub returns : goal.returns
returns c = λ found.
    let files : Briefs = files_in c.args.self.now.rows.now in
    let rows : List Row = rows_in c.args.self.now.rows.now in
    let r : Row = row c.args.entry.now in
    let k = c.args.number in
    least_lesser _ _ _ _ _ c.lesser.ensures
    (decided (IsBadType files rows k r) c.is_bad-is_bad.result (refusal_at code.BadType r.file r.head) c.refusal_if-bad.result (c.is_bad-is_bad.ensures found) c.refusal_if-bad.ensures)
    (decided (HasTooMany files rows k) c.has_too_many-has_too_many.result (refusal_at code.TooManyMembers r.file r.head) c.refusal_if-many.result (c.has_too_many-has_too_many.ensures found) c.refusal_if-many.ensures)
