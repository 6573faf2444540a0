use Rattle.std.proofs.Common.{◌≡◌, true, sym, ◌∙◌, List}
use Rattle.yv_text_statement.specs.Order.{refusal_at}
use Rattle.yv_text_statement.specs.declared.refusal.Code.TheVariants as code
use Rattle.yv_text_statement.proofs.Least.{least_lesser}
use Rattle.yv_link_scopes.specs.Files.{Briefs}
use Rattle.yv_link_scopes.specs.Rows.{Row, row}
use Rattle.yv_link_scopes.specs.Views.{files_in, rows_in}
use Rattle.yv_link_identities.specs.Derivation.{IsDerivedFrom}
use Rattle.yv_link_identities.specs.Refusals.{is_unknown}
use Rattle.yv_link_identities.proofs.Faulty.{decided, only_second}
use Rattle.yv_link_identities.proofs.refusals.row_refusal.Goals as goal

pub returns-then-not-unknown : goal.returns-then-not-unknown
returns-then-not-unknown c =
    let files : Briefs = files_in c.args.draft.now.rows.now in
    let rows : List Row = rows_in c.args.draft.now.rows.now in
    let r : Row = row c.args.entry.now in
    only_second (is_unknown files rows r ≡ true) c.is_unknown-unknown.result (refusal_at code.UnknownIdentity r.file r.head) _ _ (λ t. c.is_unknown-unknown.ensures ∙ t) c.if-not-unknown.true
    (decided (IsDerivedFrom files rows c.args.number c.args.number) c.is_on_cycle-cyclic.result (refusal_at code.IdentityCycle r.file r.head) c.refusal_if-cycle.result c.is_on_cycle-cyclic.ensures.0 c.is_on_cycle-cyclic.ensures.1 c.refusal_if-cycle.ensures)

pub returns : goal.returns
returns c =
    let files : Briefs = files_in c.args.draft.now.rows.now in
    let rows : List Row = rows_in c.args.draft.now.rows.now in
    let r : Row = row c.args.entry.now in
    least_lesser _ _ _ _ _ c.lesser.ensures
    (decided (is_unknown files rows r ≡ true) c.is_unknown-unknown.result (refusal_at code.UnknownIdentity r.file r.head) c.refusal_if-name.result (λ t. sym c.is_unknown-unknown.ensures ∙ t) (λ t. c.is_unknown-unknown.ensures ∙ t) c.refusal_if-name.ensures)
    (decided (IsDerivedFrom files rows c.args.number c.args.number) c.is_on_cycle-cyclic.result (refusal_at code.IdentityCycle r.file r.head) c.refusal_if-cycle.result c.is_on_cycle-cyclic.ensures.0 c.is_on_cycle-cyclic.ensures.1 c.refusal_if-cycle.ensures)
