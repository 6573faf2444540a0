use Rattle.std.proofs.Common.{◌≡◌, ◌≤◌, None, is_some, not, List, map, length, sym, ap, ◌∙◌, arith, Option}
use Rattle.std.proofs.lemmas.List.{length-map, take_all}
use Rattle.yv_nodes.specs.declared.node.NodeId.{NodeId}
use Rattle.yv_nodes.specs.Rows.{Row}
use Rattle.yv_node_content.specs.Steps.{Step}
use Rattle.yv_node_keys.specs.Numbers.{unique_leaf_at}
use Rattle.yv_node_keys.proofs.Listing.{any_there, item_read, none_missing, values_more}
use Rattle.yv_node_keys.proofs.unique.named_leafs.Goals as goal

pub loop-path-preserved : goal.loop-path-preserved
loop-path-preserved c =
    let rows : List Row = c.args.index.now in
    let paths : List (List (Option Step)) = map (λ path. path.items) c.args.paths.now in
    let at = item_read (λ path. path.items) c.args.paths.now c.loop-path.path-index c.path-item.result c.loop-path-test.true c.path-item.is in
    let leaf = c.in_ok-leaf.ensures.leaf
    ∙ ap (λ (rs : List Row). unique_leaf_at rs c.args.list c.deref.result.now) c.loop-path.invariant.same
    ∙ ap (unique_leaf_at rows c.args.list) c.deref.ensures.value in
    record {
      same = c.in_ok-leaf.ensures.rows ∙ c.loop-path.invariant.same;
      numbers = values_more (unique_leaf_at rows c.args.list) paths c.loop-path.path-index c.path-item.result.items c.in-Some.leaf c.loop-path.leafs.items c.push.new.self.items at
          (sym c.in-Some.is ∙ leaf) c.in_ok-push-in-Some.ensures.items c.loop-path.invariant.numbers;
    }

pub returns-in-None-clause-lacks : goal.returns-in-None-clause-lacks
returns-in-None-clause-lacks c =
    let rows : List Row = c.args.index.now in
    let paths : List (List (Option Step)) = map (λ path. path.items) c.args.paths.now in
    let at = item_read (λ path. path.items) c.args.paths.now c.loop-path.path-index c.path-item.result c.loop-path-test.true c.path-item.is in
    let leaf = c.in_ok-leaf.ensures.leaf
    ∙ ap (λ (rs : List Row). unique_leaf_at rs c.args.list c.deref.result.now) c.loop-path.invariant.same
    ∙ ap (unique_leaf_at rows c.args.list) c.deref.ensures.value in
    let none : unique_leaf_at rows c.args.list c.path-item.result.items ≡ None = sym leaf ∙ c.in-None.is in
    sym (ap not (any_there (λ (path : List (Option Step)). not (is_some (unique_leaf_at rows c.args.list path))) paths c.loop-path.path-index c.path-item.result.items at (ap (λ (o : Option NodeId). not (is_some o)) none)))

pub returns-clause-lacks : goal.returns-clause-lacks
returns-clause-lacks c =
    let paths : List (List (Option Step)) = map (λ path. path.items) c.args.paths.now in
    let f : List (Option Step) → Option NodeId = unique_leaf_at c.args.index.now c.args.list in
    let past : length paths ≤ c.loop-path.path-index = omega (arith, length-map c.args.paths.now (λ path. path.items), c.loop-path-test.false) in
    sym (ap not (none_missing f paths c.loop-path.leafs.items (c.loop-path.invariant.numbers ∙ ap (map f) (take_all c.loop-path.path-index paths past))))
