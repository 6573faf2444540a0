use Rattle.std.proofs.Common.{◌≡◌, ◌||◌, ◌+◌, ◌<◌, ℕ, Bool, List, Option, drop, get_or, length, sym, ap, ◌∙◌, arith}
use Rattle.std.proofs.lemmas.List.{length-map}
use Rattle.std.specs.BTreeSet.{contains}
use Rattle.std.specs.Ordering.{nat_cmp}
use Rattle.yv_nodes.specs.declared.node.NodeId.{NodeId}
use Rattle.yv_data_quiet.specs.NamedLeafs.{are_named, some_named, uniques_at}
use Rattle.yv_data_quiet.proofs.ListLeafs.{or_turn}
use Rattle.yv_data_quiet.proofs.Leafs.{first_left, get_map, named_leafs}
use Rattle.yv_data_quiet.proofs.named_leafs.add_names.Goals as goal

pub loop-leafs-preserved : goal.loop-leafs-preserved
loop-leafs-preserved c = λ n.
    let us = uniques_at c.args.schema.now c.args.list in
    let rows = c.uniques-leafs-items.result.now in
    let i : ℕ = c.loop-leafs.leafs-index in
    let u : List (Option NodeId) = named_leafs c.leafs-item.result.items in
    let many : length us ≡ length rows = sym (ap length c.uniques-leafs-items.ensures) ∙ length-map rows _ in
    let lt : i < length us = omega (arith, many) in
    let stated : u ≡ get_or us i u = get_map _ rows i c.leafs-item.result c.loop-leafs-test.true c.leafs-item.is
    ∙ ap (λ (xs : List (List (Option NodeId))). get_or xs i u) c.uniques-leafs-items.ensures in
    let rest : Bool = some_named (drop (i + 1) us) n in
    let old : Bool = contains nat_cmp c.loop-leafs.named n in
    ap (λ (b : Bool). rest || b)
    (c.in_ok-add_leafs-2.ensures n ∙ ap (λ (xs : List NodeId). are_named (named_leafs xs) n || old) c.deref.ensures.value)
    ∙ sym (or_turn (are_named u n) rest old)
    ∙ ap (λ (w : List (Option NodeId)). (are_named w n || rest) || old) stated
    ∙ ap (λ (vs : List (List (Option NodeId))). some_named vs n || old) (sym (first_left us i u lt))
    ∙ c.loop-leafs.invariant n
