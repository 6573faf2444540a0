use Rattle.std.proofs.Common.{◌≡◌, ◌∙◌, ap, not, List}
use Rattle.yv_text_statement.specs.Order.{refusal_at}
use Rattle.yv_text_statement.specs.declared.refusal.Code.TheVariants as code
use Rattle.yv_text_statement.proofs.Least.{least_lesser}
use Rattle.yv_link_scopes.specs.Files.{Brief, Briefs, brief, file_named}
use Rattle.yv_link_scopes.specs.Rows.{Row}
use Rattle.yv_link_scopes.specs.Tables.{first_of}
use Rattle.yv_link_scopes.specs.Views.{files_in, rows_in}
use Rattle.yv_link_scopes.specs.declared.kind.NameKind.TheVariants.{Include}
use Rattle.yv_link_modules.specs.Links.{is_at, is_not_included}
use Rattle.yv_link_modules.proofs.Flags.{flagged}
use Rattle.yv_link_modules.proofs.first.Tables.file_refusal.Goals as goal

pub returns : goal.returns
returns c =
    let files : Briefs = files_in c.args.self.now.rows.now in
    let rows : List Row = rows_in c.args.self.now.rows.now in
    let g : Brief = brief c.args.file.now in
    let first : not c.is_at-first.result ≡ not (is_at c.args.number (file_named files g.name)) = ap not (c.is_at-first.ensures ∙ ap (is_at c.args.number) c.file_named-place.ensures) in
    let out : c.is_not_included-out.result ≡ is_not_included files (first_of Include rows) g = c.is_not_included-out.ensures ∙ ap (λ t. is_not_included files t g) c.args.self.now.includes_so in
    least_lesser _ _ _ _ _ c.lesser.ensures
    (flagged (not (is_at c.args.number (file_named files g.name))) (not c.is_at-first.result) (refusal_at code.DuplicateModule c.args.number g.head) c.refusal_if-duplicate.result first c.refusal_if-duplicate.ensures)
    (flagged (is_not_included files (first_of Include rows) g) c.is_not_included-out.result (refusal_at code.Submodule c.args.number g.head) c.refusal_if-left.result out c.refusal_if-left.ensures)
