use Rattle.std.proofs.Common.{◌≡◌, ◌≤◌, Some, IfSome, false, not, List, map, length, ap, sym, ◌∙◌, subst, arith, Option, Vec, Global}
use Rattle.std.specs.List.{list_any}
use Rattle.std.specs.Option.{option_map}
use Rattle.std.proofs.lemmas.List.{length-map}
use Rattle.yv_nodes.specs.declared.node.NodeId.{NodeId}
use Rattle.yv_nodes.specs.Rows.{Row}
use Rattle.yv_node_content.specs.Steps.{Step}
use Rattle.yv_node_keys.specs.Numbers.{tree_in, unique_leaf_at}
use Rattle.yv_node_content.specs.Definition.{paths_in}
use Rattle.yv_node_keys.specs.InnerMixedConfig.{is_bad_statement_at}
use Rattle.yv_node_keys.proofs.MixedConfig.{unique_is}
use Rattle.yv_node_keys.proofs.unique.unique_leafs_like.Goals as goal

pub returns-clause-refuses : goal.returns-clause-refuses
returns-clause-refuses c = λ ts are p at.
    let statements : List (List (List (Option Step))) = map paths_in c.args.statements.now in
    let few : length statements ≤ 64 = omega (arith, length-map c.args.statements.now paths_in, c.if-statements-gt64.false) in
    c.in_ok-leafs.ensures.bad
    ∙ ap (λ (rs : List Row). not (list_any (is_bad_statement_at rs c.args.list) statements)) (c.all.ensures ∙ are)
    ∙ ap not (unique_is ts c.args.list (tree_in p) statements (ap (option_map tree_in) at) few)

pub returns-clause-numbers : goal.returns-clause-numbers
returns-clause-numbers c =
    let P : List Row → Type 0 = λ rs. IfSome c.in_ok-leafs.leafs (λ found. map (λ numbers. map (λ n. Some n) numbers.items) found.items ≡ map (map (unique_leaf_at rs c.args.list)) (map paths_in c.args.statements.now)) in
    subst P c.all.ensures c.in_ok-leafs.ensures.numbers

pub returns-in-Some-clause-refuses : goal.returns-in-Some-clause-refuses
returns-in-Some-clause-refuses c = λ ts are p at.
    let statements : List (List (List (Option Step))) = map paths_in c.args.statements.now in
    let few : length statements ≤ 64 = omega (arith, length-map c.args.statements.now paths_in, c.if-statements-gt64.false) in
    let good : list_any (is_bad_statement_at c.args.nodes.now.rows c.args.list) statements ≡ false =
    subst (λ (o : Option (Vec (Vec NodeId Global) Global)). IfSome o (λ found. list_any (is_bad_statement_at c.args.nodes.now.rows c.args.list) statements ≡ false)) c.in-Some.is c.in_ok-known.ensures.good in
    sym (ap not good) ∙ ap (λ (rs : List Row). not (list_any (is_bad_statement_at rs c.args.list) statements)) are
    ∙ ap not (unique_is ts c.args.list (tree_in p) statements (ap (option_map tree_in) at) few)
