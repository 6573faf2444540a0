use Rattle.yv_node_leafrefs.proofs.KeyLookup.{draft_of}
use Rattle.yv_node_leafrefs.proofs.draft.Draft.read.Goals as goal

pub returns : goal.returns
returns c =
    draft_of c.args.outline.now _ _ c.in_ok-numbers.numbers.items _ c.in_ok-keys.keys.items _ c.requires.few c.deref.ensures.value c.deref-2.ensures.value c.deref-3.ensures.value
    c.in_ok-above.ensures.each c.in_ok-above.ensures.above c.in_ok-inside.ensures.each c.in_ok-inside.ensures.inside c.in_ok-numbers.ensures.tells c.in_ok-numbers.ensures.numbers
    c.in_ok-keys.ensures c.in_ok-index.ensures c.in_ok-strides.ensures
