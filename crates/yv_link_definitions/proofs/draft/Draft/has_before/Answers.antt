use Rattle.std.proofs.Common.{List, Some, None, sym, ◌∙◌}
use Rattle.yv_link_scopes.specs.Rows.{Row, row, name_in}
use Rattle.yv_link_scopes.specs.Views.{rows_in}
use Rattle.yv_link_definitions.proofs.TakenNames.{before_none, before_some, looked_up}
use Rattle.yv_link_definitions.proofs.draft.Draft.has_before.Goals as goal

pub returns-in-Some : goal.returns-in-Some
returns-in-Some c =
    let rows : List Row = rows_in c.args.self.now.rows.now in
    let r : Row = row c.args.entry.now in
    before_some c.args.kind rows c.args.number c.in-Some.first r
    (looked_up c.args.kind rows r.scope c.name_of.result.now (name_in r) _ (Some c.in-Some.first) (c.places-places.ensures r c.requires) c.name_of.ensures (sym c.in-Some.is ∙ c.get.ensures))

pub returns-in-None : goal.returns-in-None
returns-in-None c =
    let rows : List Row = rows_in c.args.self.now.rows.now in
    let r : Row = row c.args.entry.now in
    before_none c.args.kind rows c.args.number r
    (looked_up c.args.kind rows r.scope c.name_of.result.now (name_in r) _ None (c.places-places.ensures r c.requires) c.name_of.ensures (sym c.in-None.is ∙ c.get.ensures))
