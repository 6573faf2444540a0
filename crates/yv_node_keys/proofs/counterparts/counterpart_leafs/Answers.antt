use Rattle.std.proofs.Common.{◌≡◌, ◌∙◌, List, take, ap, ap₂, sym, subst}
use Rattle.std.specs.BTreeMap.{get}
use Rattle.std.specs.Ordering.{nat_cmp}
use Rattle.std.proofs.lemmas.Result.{IfOk-weaker}
use Rattle.yv_nodes.specs.declared.node.NodeId.{NodeId}
use Rattle.yv_nodes.specs.Rows.{Row}
use Rattle.yv_node_keys.specs.Numbers.{children_at, module_file_at}
use Rattle.yv_node_keys.specs.InnerCounterparts.{ArePairs, counterpart}
use Rattle.yv_node_keys.proofs.NodeCounterparts.{leafs_beside, some_weaker}
use Rattle.yv_node_keys.proofs.counterparts.counterpart_leafs.Goals as goal

pub returns : goal.returns
returns c = λ keys known.
    let rows : List Row = c.args.nodes.now.rows in
    let list : NodeId = c.args.list in
    let other : NodeId = c.args.other in
    let count = c.count_pairs-count.result in
    let all : c.all-all.result.now ≡ rows = c.all-all.ensures in
    let found : c.module_file_at.result ≡ c.module_file_at-2.result = c.if-module_file_at.false in
    let own : module_file_at rows list ≡ module_file_at rows other =
    ap (λ (rs : List Row). module_file_at rs list) (sym all) ∙ sym c.module_file_at.ensures ∙ found ∙ c.module_file_at-2.ensures ∙ ap (λ (rs : List Row). module_file_at rs other) all in
    let xs : c.children_at-ones.result.now ≡ children_at rows other = c.children_at-ones.ensures ∙ ap (λ (rs : List Row). children_at rs other) all in
    let ys : c.children_at-others.result.now ≡ children_at rows list = c.children_at-others.ensures ∙ ap (λ (rs : List Row). children_at rs list) all in
    let ones : List NodeId = take count (children_at rows other) in
    let others : List NodeId = take count (children_at rows list) in
    let pairs : ArePairs rows ones others =
    subst (λ (l : List NodeId). ArePairs rows ones (take count l)) ys (subst (λ (l : List NodeId). ArePairs rows (take count l) (take count c.children_at-others.result.now)) xs c.count_pairs-count.ensures.pairs) in
    let told : (n : NodeId) → get nat_cmp c.in_ok-found.found n.0 ≡ counterpart n ones others =
    λ n. c.in_ok-found.ensures n ∙ ap₂ (λ (l r : List NodeId). counterpart n (take count l) (take count r)) xs ys in
    IfOk-weaker c.leafs_by.result _ _ (λ leafs h. some_weaker leafs _ _ (λ numbers e. leafs_beside rows list other count own pairs keys c.args.known.now numbers.items known e) h) (c.leafs_by.ensures ones others told)
