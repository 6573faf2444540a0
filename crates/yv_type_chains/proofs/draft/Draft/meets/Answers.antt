use Rattle.std.proofs.Common.{◌≡◌, ◌≤◌, List, Some, length, ◌∙◌, ap, arith}
use Rattle.std.specs.List.{slice_get}
use Rattle.yv_link_scopes.specs.Rows.{Row, row, name_in}
use Rattle.yv_link_scopes.specs.Views.{rows_in}
use Rattle.yv_type_chains.specs.Kinds.{needs}
use Rattle.yv_type_chains.proofs.Words.{row_read, rows_count}
use Rattle.yv_type_chains.proofs.MisfitSubstatements.{passes_here, passes_past}
use Rattle.yv_type_chains.proofs.draft.Draft.meets.Goals as goal

pub returns-in-Some : goal.returns-in-Some
returns-in-Some c =
    let rows : List Row = rows_in c.args.self.now.rows.now in
    let at : slice_get rows c.args.number ≡ Some (row c.in-Some.outer.now) = row_read row _ rows c.args.number c.in-Some.outer.now c.entries.ensures c.in-Some.ensures.lookup.3.0 c.in-Some.ensures.lookup.1 in
    passes_here (λ r. needs (name_in r) (row c.args.entry.now).head.keyword) rows c.args.number (row c.in-Some.outer.now) c.needs.result at (c.needs.ensures ∙ ap (λ kind. needs kind (row c.args.entry.now).head.keyword) c.name_of.ensures)

pub returns-in-None : goal.returns-in-None
returns-in-None c =
    let rows : List Row = rows_in c.args.self.now.rows.now in
    let past : length rows ≤ c.args.number = let p = c.in-None.ensures.lookup.3 in omega (arith, p, rows_count row _ rows c.entries.ensures) in
    passes_past (λ r. needs (name_in r) (row c.args.entry.now).head.keyword) rows c.args.number past
