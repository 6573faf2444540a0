use Rattle.std.proofs.Common.{sym, ◌∙◌, ap, ◌&&◌, not, subst}
use Rattle.yv_link_scopes.specs.Rows.{row, name_in}
use Rattle.yv_link_scopes.specs.Views.{files_in, rows_in}
use Rattle.yv_link_definitions.specs.Refers.{is_type}
use Rattle.yv_type_chains.specs.Kinds.{needs_any}
use Rattle.yv_base_graph.specs.Marks.{is_marked}
use Rattle.yv_type_chains.specs.InnerTables.{AreBased}
use Rattle.yv_type_chains.proofs.TypeFaults.{judged}
use Rattle.yv_type_chains.proofs.draft.Draft.is_bad.Goals as goal

pub returns : goal.returns
returns c = λ found.
    let files = files_in c.args.self.now.rows.now in
    let rows = rows_in c.args.self.now.rows.now in
    judged files rows c.args.number (row c.args.entry.now) c.requires c.args.found.now.misfits.items c.args.found.now.met.items found.misfits found.met
    c.is_marked-misfit.result c.is_missing-missing.result c.is_joined-joined.result c.any.result
    (c.is_marked-misfit.ensures ∙ ap (λ marks. is_marked marks c.args.number) c.deref.ensures.value)
    (c.is_missing-missing.ensures ∙ ap (λ marks. (is_type (row c.args.entry.now) && needs_any (name_in (row c.args.entry.now))) && not (is_marked marks c.args.number)) c.deref-2.ensures.value)
    (c.is_joined-joined.ensures (subst (AreBased files rows) (sym c.deref-3.ensures.value) found.based))
    c.any.ensures
