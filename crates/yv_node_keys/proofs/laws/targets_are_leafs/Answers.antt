use Rattle.yv_node_keys.specs.Numbers.{key_leaf_at, unique_leaf_at}
use Rattle.yv_node_keys.specs.InnerTargets.{keys_in, lists_at, uniques_in}
use Rattle.yv_node_keys.proofs.Listing.{none_missing, none_missing_in}
use Rattle.yv_node_keys.proofs.Spots.{slice_within}
use Rattle.yv_node_keys.proofs.laws.targets_are_leafs.Goals as goal

pub returns : goal.returns
returns c = λ rows targets are. record {
  keys = λ n r at. none_missing (key_leaf_at rows n) r.label.defined.keys (keys_in (lists_at targets.lists n.0)) (are.all.lists.before n.0 (slice_within rows n.0 r at) r at).keys;
  uniques = λ n r at. none_missing_in (unique_leaf_at rows n) r.label.defined.uniques (uniques_in (lists_at targets.lists n.0)) (are.all.lists.before n.0 (slice_within rows n.0 r at) r at).uniques;
}
