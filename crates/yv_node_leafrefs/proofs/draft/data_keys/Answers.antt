use Rattle.std.proofs.Common.{refl}
use Rattle.std.proofs.lemmas.Option.{slice_get_read}
use Rattle.yv_node_leafrefs.proofs.KeyLookup.{keys_more}
use Rattle.yv_node_leafrefs.proofs.draft.data_keys.Goals as goal

pub loop-number-preserved : goal.loop-number-preserved
loop-number-preserved c =
    let n = c.loop-number.number in
    let at = slice_get_read c.args.nodes.now _ n c.index-nodes-number.result refl c.loop-number-test.true c.index-nodes-number.is in
    keys_more c.args.nodes.now c.args.above.now c.args.names.now n c.loop-number.keys.items c.push.new.self.items c.index-nodes-number.result c.data_key-key.result c.loop-number.invariant at c.data_key-key.ensures c.in_ok-push.ensures.items
