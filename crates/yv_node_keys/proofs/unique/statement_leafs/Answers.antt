use Rattle.std.proofs.Common.{◌≡◌, Some, IfSome, not, List, map, sym, ap, ◌∙◌, subst, Option, Vec, Global}
use Rattle.yv_nodes.specs.declared.node.NodeId.{NodeId}
use Rattle.yv_nodes.specs.Rows.{Row}
use Rattle.yv_node_content.specs.Steps.{Step}
use Rattle.yv_node_keys.specs.Numbers.{unique_leaf_at}
use Rattle.yv_node_keys.specs.InnerMixedConfig.{is_mixed_at}
use Rattle.yv_node_keys.proofs.MixedConfig.{bad_is}
use Rattle.yv_node_keys.proofs.unique.statement_leafs.Goals as goal
use Rattle.yv_node_keys.proofs.unique.statement_leafs.Goals.{After-is_mixed}

numbers_are : (c : After-is_mixed) → map (λ n. Some n) c.in-Some.leafs.items ≡ map (unique_leaf_at c.args.index.now c.args.list) (map (λ path. path.items) c.args.paths.now)
numbers_are c =
    let P : Option (Vec NodeId Global) → Type 0 = λ o. IfSome o (λ numbers. map (λ n. Some n) numbers.items ≡ map (unique_leaf_at c.args.index.now c.args.list) (map (λ path. path.items) c.args.paths.now)) in
    subst P c.in-Some.is c.in_ok-leafs.ensures.numbers

mixed_is : (c : After-is_mixed) → c.is_mixed.result ≡ is_mixed_at c.args.index.now c.in-Some.leafs.items
mixed_is c =
    c.is_mixed.ensures
    ∙ ap (λ (rs : List Row). is_mixed_at rs c.deref.result.now) (c.nodes.ensures ∙ c.in_ok-leafs.ensures.rows)
    ∙ ap (is_mixed_at c.args.index.now) c.deref.ensures.value

pub returns-then-is_mixed-clause-bad : goal.returns-then-is_mixed-clause-bad
returns-then-is_mixed-clause-bad c =
    let d : After-is_mixed = (goal.at.returns-then-is_mixed-clause-bad c).After-is_mixed in
    let paths : List (List (Option Step)) = map (λ path. path.items) c.args.paths.now in
    sym (ap not (bad_is c.args.index.now c.args.list paths c.in-Some.leafs.items (numbers_are d) ∙ sym (mixed_is d) ∙ c.if-is_mixed.true))

pub returns-clause-bad : goal.returns-clause-bad
returns-clause-bad c =
    let d : After-is_mixed = (goal.at.returns-clause-bad c).After-is_mixed in
    let paths : List (List (Option Step)) = map (λ path. path.items) c.args.paths.now in
    sym (ap not (bad_is c.args.index.now c.args.list paths c.in-Some.leafs.items (numbers_are d) ∙ sym (mixed_is d) ∙ c.if-is_mixed.false))
