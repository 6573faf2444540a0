use Rattle.std.proofs.Common.{◌≡◌, Bool, true, false, Some, IfSome, is_some, not, List, map, refl, sym, ap, ◌∙◌, subst, Option, Vec, Global}
use Rattle.std.proofs.lemmas.Option.{slice_get_read}
use Rattle.yv_nodes.specs.declared.node.NodeId.{NodeId}
use Rattle.yv_nodes.specs.Rows.{Row}
use Rattle.yv_node_content.specs.Steps.{Step}
use Rattle.yv_node_keys.specs.Numbers.{unique_leaf_at}
use Rattle.yv_node_content.specs.Definition.{paths_in}
use Rattle.yv_node_keys.specs.InnerMixedConfig.{is_bad_statement_at}
use Rattle.yv_node_keys.proofs.Listing.{any_more, any_there, item_read, mapped_more}
use Rattle.yv_node_keys.proofs.MixedConfig.{not_false, not_true}
use Rattle.yv_node_keys.proofs.unique.all_leafs.Goals as goal
use Rattle.yv_node_keys.proofs.unique.all_leafs.Goals.{After-statement_leafs, In_ok-leafs}

-- what the statement comes to, told of the nodes as they were lent
bad_is : (c : In_ok-leafs) → is_some c.in_ok-leafs.field-0 ≡ not (is_bad_statement_at c.args.nodes.now c.args.list (paths_in c.paths-item.result))
bad_is c =
    c.in_ok-leafs.ensures.bad
    ∙ ap (λ (rs : List Row). not (is_bad_statement_at rs c.args.list (map (λ path. path.items) c.deref.result.now))) c.loop-paths.invariant.same
    ∙ ap (λ ps. not (is_bad_statement_at c.args.nodes.now c.args.list (map (λ path. path.items) ps))) c.deref.ensures.value

pub returns-in-None-clause-bad : goal.returns-in-None-clause-bad
returns-in-None-clause-bad c =
    let d : In_ok-leafs = (goal.at.returns-in-None-clause-bad c).In_ok-leafs in
    let test : List (List (Option Step)) → Bool = is_bad_statement_at c.args.nodes.now c.args.list in
    let at = item_read paths_in c.args.statements.now c.loop-paths.paths-index c.paths-item.result c.loop-paths-test.true c.paths-item.is in
    let bad : test (paths_in c.paths-item.result) ≡ true = not_true (test (paths_in c.paths-item.result)) (sym (ap is_some c.in-None.is) ∙ bad_is d) in
    sym (ap not (any_there test (map paths_in c.args.statements.now) c.loop-paths.paths-index (paths_in c.paths-item.result) at bad))

pub loop-paths-preserved : goal.loop-paths-preserved
loop-paths-preserved c =
    let d : In_ok-leafs = (goal.at.loop-paths-preserved c).In_ok-leafs in
    let rows : List Row = c.args.nodes.now in
    let test : List (List (Option Step)) → Bool = is_bad_statement_at rows c.args.list in
    let f : List (Option Step) → Option NodeId = unique_leaf_at rows c.args.list in
    let at = slice_get_read c.args.statements.now _ c.loop-paths.paths-index c.paths-item.result refl c.loop-paths-test.true c.paths-item.is in
    let good : test (paths_in c.paths-item.result) ≡ false = not_false (test (paths_in c.paths-item.result)) (sym (ap is_some c.in-Some.is) ∙ bad_is d) in
    let P : Option (Vec NodeId Global) → Type 0 = λ o. IfSome o (λ numbers. map (λ n. Some n) numbers.items ≡ map (unique_leaf_at c.loop-paths.index c.args.list) (map (λ path. path.items) c.deref.result.now)) in
    let named : map (λ n. Some n) c.in-Some.leafs.items ≡ map f (paths_in c.paths-item.result) =
    subst P c.in-Some.is c.in_ok-leafs.ensures.numbers
    ∙ ap (λ (rs : List Row). map (unique_leaf_at rs c.args.list) (map (λ path. path.items) c.deref.result.now)) c.loop-paths.invariant.same
    ∙ ap (λ ps. map f (map (λ path. path.items) ps)) c.deref.ensures.value in
    record {
      same = c.in_ok-leafs.ensures.rows ∙ c.loop-paths.invariant.same;
      good = any_more paths_in c.args.statements.now c.loop-paths.paths-index c.paths-item.result at test c.loop-paths.invariant.good good;
      numbers = mapped_more paths_in c.args.statements.now c.loop-paths.paths-index c.paths-item.result at (λ (numbers : Vec NodeId Global). map (λ n. Some n) numbers.items) (map f)
          c.in-Some.leafs c.loop-paths.found.items c.push.new.self.items named c.in_ok-push-in-Some.ensures.items c.loop-paths.invariant.numbers;
    }
