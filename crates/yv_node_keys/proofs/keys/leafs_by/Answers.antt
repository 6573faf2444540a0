use Rattle.std.proofs.Common.{◌≡◌, None, is_some, not, map, refl, sym, ap, ◌∙◌, Option}
use Rattle.std.proofs.lemmas.List.{take_all}
use Rattle.std.proofs.lemmas.Option.{slice_get_read}
use Rattle.yv_nodes.specs.declared.node.NodeId.{NodeId}
use Rattle.yv_node_content.specs.Steps.{Step}
use Rattle.yv_node_keys.specs.Numbers.{key_leaf_at}
use Rattle.yv_node_keys.proofs.Listing.{any_there, none_missing, values_more}
use Rattle.yv_node_keys.proofs.keys.leafs_by.Goals as goal

pub loop-place-preserved : goal.loop-place-preserved
loop-place-preserved c =
    let keys = c.args.keys.now in
    let at = slice_get_read keys _ c.loop-place.place c.index-keys-place.result refl c.loop-place-test.true c.index-keys-place.is in
    values_more (key_leaf_at c.args.nodes.now.rows c.args.list) keys c.loop-place.place c.index-keys-place.result c.in-Some.leaf c.loop-place.leafs.items c.push.new.self.items at
    (sym c.in-Some.is ∙ c.key_leaf.ensures c.requires.names) c.in_ok-push-in-Some.ensures.items c.loop-place.invariant

pub returns-in-None-clause-lacks : goal.returns-in-None-clause-lacks
returns-in-None-clause-lacks c =
    let keys = c.args.keys.now in
    let at = slice_get_read keys _ c.loop-place.place c.index-keys-place.result refl c.loop-place-test.true c.index-keys-place.is in
    let none : key_leaf_at c.args.nodes.now.rows c.args.list c.index-keys-place.result ≡ None = sym (c.key_leaf.ensures c.requires.names) ∙ c.in-None.is in
    sym (ap not (any_there (λ (key : Option Step). not (is_some (key_leaf_at c.args.nodes.now.rows c.args.list key))) keys c.loop-place.place c.index-keys-place.result at (ap (λ (o : Option NodeId). not (is_some o)) none)))

pub returns-clause-lacks : goal.returns-clause-lacks
returns-clause-lacks c =
    let f : Option Step → Option NodeId = key_leaf_at c.args.nodes.now.rows c.args.list in
    let all = ap (map f) (take_all c.loop-place.place c.args.keys.now c.loop-place-test.false) in
    sym (ap not (none_missing f c.args.keys.now c.loop-place.leafs.items (c.loop-place.invariant ∙ all)))

pub returns-clause-numbers : goal.returns-clause-numbers
returns-clause-numbers c =
    let f : Option Step → Option NodeId = key_leaf_at c.args.nodes.now.rows c.args.list in
    c.loop-place.invariant ∙ ap (map f) (take_all c.loop-place.place c.args.keys.now c.loop-place-test.false)
