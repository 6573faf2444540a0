use Rattle.std.proofs.Common.{sym, ◌∙◌}
use Rattle.yv_node_leafrefs.proofs.FirstKeyNodes.{put_new}
use Rattle.yv_node_leafrefs.proofs.index.Index.put_first.Goals as goal

pub returns-in_ok-insert : goal.returns-in_ok-insert
returns-in_ok-insert c = put_new c.args.self.now.map c.insert.new.self c.args.key c.args.number (sym c.contains_key.ensures ∙ c.if-not-contains_key.true) c.in_ok-insert.ensures.updates
