use Rattle.std.proofs.Common.{◌≡◌, ◌<◌, ℕ, sym, ◌∙◌, ap, ◌||◌, true, List, length, Some}
use Rattle.yv_text_statement.specs.Order.{refusal_at}
use Rattle.yv_text_statement.specs.declared.refusal.Code.TheVariants as code
use Rattle.yv_text_statement.proofs.Least.{least_lesser}
use Rattle.yv_link_scopes.specs.Files.{Briefs, file_named}
use Rattle.yv_link_scopes.specs.Rows.{Row, row, name_in}
use Rattle.yv_link_scopes.specs.Tables.{first_of}
use Rattle.yv_link_scopes.specs.Views.{files_in, rows_in}
use Rattle.yv_link_scopes.specs.declared.kind.NameKind.TheVariants.{Prefix}
use Rattle.yv_link_modules.specs.Links.{is_missing, is_wrong_link}
use Rattle.yv_link_modules.specs.Prefixes.{is_unknown, is_second}
use Rattle.yv_link_modules.specs.Dates.{dated_file, IsOtherDate}
use Rattle.yv_link_modules.specs.Imports.{IsImportCycle}
use Rattle.yv_link_modules.specs.InnerDates.{is_other_date}
use Rattle.yv_link_modules.specs.InnerImports.{is_import_cycle}
use Rattle.yv_link_modules.proofs.Flags.{flagged, decided, none_last, none_wrong}
use Rattle.yv_link_modules.proofs.Latest.{dated_named, other_to, other_from}
use Rattle.yv_link_modules.proofs.ImportWays.{cyclic_to, cyclic_from, imported_named}
use Rattle.yv_link_modules.proofs.first.Tables.row_refusal.Goals as goal

pub returns-then-not-any : goal.returns-then-not-any
returns-then-not-any c =
    let files : Briefs = files_in c.args.self.now.rows.now in
    let rows : List Row = rows_in c.args.self.now.rows.now in
    let r : Row = row c.args.entry.now in
    let names : (name : List ℕ) (m : ℕ) → file_named files name ≡ Some m → m < length files = c.modules_are_files.ensures.names files in
    let dated : (k f : ℕ) → dated_file files rows k ≡ Some f → f < length files = λ k f e. (let n = dated_named files rows k f e in names n.0 f n.1) in
    let prefixed : c.is_foreign-foreign.result ≡ (is_unknown (first_of Prefix rows) r || is_second (first_of Prefix rows) c.args.number r) = c.is_foreign-foreign.ensures ∙ ap (λ t. is_unknown t r || is_second t c.args.number r) c.args.self.now.prefixes_so in
    none_wrong (is_missing files r ≡ true) c.is_missing-missing.result _ (refusal_at code.MissingModule r.file r.head) _ (λ t. c.is_missing-missing.ensures ∙ t) (sym c.any.ensures ∙ c.if-not-any.true) (λ h.
    none_wrong (IsOtherDate files rows r) c.is_other_date-dated.result _ (refusal_at code.Revision r.file r.head) _
    (λ p. c.is_other_date-dated.ensures ∙ ap (λ ds. is_other_date files rows ds r) c.deref.ensures.value ∙ other_from files rows c.args.self.now.dates.items r dated c.requires.dates p) h (λ h.
    none_wrong (IsImportCycle files rows r) c.is_import_cycle-cyclic.result _ (refusal_at code.ImportCycle r.file r.head) _
    (λ p. c.is_import_cycle-cyclic.ensures ∙ ap (λ ls. is_import_cycle files ls r) c.deref-2.ensures.value ∙ cyclic_from files rows c.args.self.now.leads.items r (λ b e. names (name_in r) b (imported_named files r b e)) c.requires.leads p) h (λ h.
    none_wrong ((is_unknown (first_of Prefix rows) r || is_second (first_of Prefix rows) c.args.number r) ≡ true) c.is_foreign-foreign.result _ (refusal_at code.UnknownPrefix r.file r.head) _ (λ t. prefixed ∙ t) h (λ h.
    none_last (is_wrong_link files r ≡ true) c.is_wrong_link-wrong.result (refusal_at code.Submodule r.file r.head) (λ t. c.is_wrong_link-wrong.ensures ∙ t) h))))

pub returns : goal.returns
returns c =
    let files : Briefs = files_in c.args.self.now.rows.now in
    let rows : List Row = rows_in c.args.self.now.rows.now in
    let r : Row = row c.args.entry.now in
    let names : (name : List ℕ) (m : ℕ) → file_named files name ≡ Some m → m < length files = c.modules_are_files.ensures.names files in
    let dated : (k f : ℕ) → dated_file files rows k ≡ Some f → f < length files = λ k f e. (let n = dated_named files rows k f e in names n.0 f n.1) in
    let prefixed : c.is_foreign-foreign.result ≡ (is_unknown (first_of Prefix rows) r || is_second (first_of Prefix rows) c.args.number r) = c.is_foreign-foreign.ensures ∙ ap (λ t. is_unknown t r || is_second t c.args.number r) c.args.self.now.prefixes_so in
    least_lesser _ _ _ _ _ c.lesser.ensures
    (flagged (is_missing files r) c.is_missing-missing.result (refusal_at code.MissingModule r.file r.head) c.refusal_if-absent.result c.is_missing-missing.ensures c.refusal_if-absent.ensures)
    (least_lesser _ _ _ _ _ c.lesser-least-3.ensures
    (decided (IsOtherDate files rows r) (is_other_date files rows c.args.self.now.dates.items r) c.is_other_date-dated.result (refusal_at code.Revision r.file r.head) c.refusal_if-other.result
    (other_to files rows c.args.self.now.dates.items r dated c.requires.dates) (other_from files rows c.args.self.now.dates.items r dated c.requires.dates) (c.is_other_date-dated.ensures ∙ ap (λ ds. is_other_date files rows ds r) c.deref.ensures.value) c.refusal_if-other.ensures)
    (least_lesser _ _ _ _ _ c.lesser-least-2.ensures
    (decided (IsImportCycle files rows r) (is_import_cycle files c.args.self.now.leads.items r) c.is_import_cycle-cyclic.result (refusal_at code.ImportCycle r.file r.head) c.refusal_if-cycle.result
    (cyclic_to files rows c.args.self.now.leads.items r c.requires.leads) (cyclic_from files rows c.args.self.now.leads.items r (λ b e. names (name_in r) b (imported_named files r b e)) c.requires.leads) (c.is_import_cycle-cyclic.ensures ∙ ap (λ ls. is_import_cycle files ls r) c.deref-2.ensures.value) c.refusal_if-cycle.ensures)
    (least_lesser _ _ _ _ _ c.lesser-least.ensures
    (flagged (is_unknown (first_of Prefix rows) r || is_second (first_of Prefix rows) c.args.number r) c.is_foreign-foreign.result (refusal_at code.UnknownPrefix r.file r.head) c.refusal_if-prefixed.result prefixed c.refusal_if-prefixed.ensures)
    (flagged (is_wrong_link files r) c.is_wrong_link-wrong.result (refusal_at code.Submodule r.file r.head) c.refusal_if-linked.result c.is_wrong_link-wrong.ensures c.refusal_if-linked.ensures))))
