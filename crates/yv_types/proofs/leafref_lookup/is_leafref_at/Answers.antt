use Rattle.yv_link_scopes.specs.Rows.{row}
use Rattle.yv_link_scopes.specs.Views.{lent_in}
use Rattle.yv_types.proofs.LeafrefFinding.{leafref_here, leafref_nowhere}
use Rattle.yv_types.proofs.leafref_lookup.is_leafref_at.Goals as goal

pub returns-in-Some : goal.returns-in-Some
returns-in-Some c = leafref_here (lent_in c.args.rows.now) c.args.number (row c.in-Some.entry.now) c.is_leafref.result c.in-Some.ensures c.is_leafref.ensures

pub returns-in-None : goal.returns-in-None
returns-in-None c = leafref_nowhere (lent_in c.args.rows.now) c.args.number c.in-None.ensures
