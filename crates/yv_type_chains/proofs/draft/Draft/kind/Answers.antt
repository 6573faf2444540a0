use Rattle.std.proofs.Common.{sym, ◌∙◌}
use Rattle.yv_link_scopes.specs.Rows.{row}
use Rattle.yv_link_scopes.specs.Views.{files_in, rows_in}
use Rattle.yv_type_chains.proofs.Words.{row_read}
use Rattle.yv_type_chains.proofs.MisfitSubstatements.{kind_some}
use Rattle.yv_type_chains.proofs.draft.Draft.kind.Goals as goal

pub returns : goal.returns
returns c = λ based.
    kind_some (files_in c.args.self.now.rows.now) (rows_in c.args.self.now.rows.now) c.args.bases.now c.args.number c.in_ok-base.base (row c.in_ok-entry.entry.now) c.name_of.result.now based (sym c.get.ensures ∙ c.in_ok-base.was)
    (row_read row _ (rows_in c.args.self.now.rows.now) c.in_ok-base.base c.in_ok-entry.entry.now c.entries.ensures c.in_ok-entry.ensures.lookup.3.0 c.in_ok-entry.ensures.lookup.1) c.name_of.ensures
