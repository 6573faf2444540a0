use Rattle.std.proofs.Common.{List, ℕ}
use Rattle.yv_link_scopes.specs.Files.{Briefs}
use Rattle.yv_link_scopes.specs.Rows.{Row, row, name_in}
use Rattle.yv_link_scopes.specs.Views.{files_in, rows_in}
use Rattle.yv_link_identities.proofs.DerivationWays.{meaning_found, meaning_named}
use Rattle.yv_link_identities.proofs.draft.Draft.meaning.Goals as goal

pub returns : goal.returns
returns c =
    let files : Briefs = files_in c.args.self.now.rows.now in
    let rows : List Row = rows_in c.args.self.now.rows.now in
    let name : List ℕ = c.name_of-name.result.now in
    meaning_named files rows c.args.entry.now.file name (name_in (row c.args.entry.now)) _ (meaning_found files rows _ c.args.entry.now.file name _ _ _ c.get.ensures c.args.self.now.named c.local.ensures c.in_ok-block.ensures) c.name_of-name.ensures
