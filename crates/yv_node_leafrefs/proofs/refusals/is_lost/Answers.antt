use Rattle.yv_node_leafrefs.specs.InnerOutline.{schema_in}
use Rattle.yv_node_leafrefs.proofs.Faulty.{lost_one}
use Rattle.yv_node_leafrefs.proofs.refusals.is_lost.Goals as goal

pub returns : goal.returns
returns c row at = lost_one (schema_in c.args.outline.now) c.args.number row c.args.target c.is_none.result c.is_none.ensures at (c.is_leafref.ensures.0 c.if-not-is_leafref.false) c.requires.target
