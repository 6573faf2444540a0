use Rattle.std.proofs.Common.{◌≡◌, ◌<◌, ℕ, List, Some, length, sym, ap, ◌∙◌, subst, arith, slice_index}
use Rattle.std.proofs.lemmas.List.{get_or_default}
use Rattle.std.proofs.lemmas.Option.{slice_get-map, slice_get_within}
use Rattle.std.specs.List.{slice_get, slice_index_or}
use Rattle.std.specs.Option.{option_map}
use Rattle.yv_nodes.specs.declared.node.NodeId.{NodeId}
use Rattle.yv_node_leafrefs.specs.Targets.{HasTypesOf}
use Rattle.yv_node_leafrefs.proofs.LeafrefGraph.{types_within, at_index}
use Rattle.yv_node_leafrefs.proofs.Faulty.{clear_cycle}
use Rattle.yv_node_leafrefs.proofs.leafrefs.Leafrefs.origins.Goals as goal

pub origins-requires : goal.origins-requires
origins-requires c =
    let s = c.requires.0 in
    let are = c.requires.1 in
    (s, rw c.deref.ensures.value are.each, rw c.deref.ensures.value are.exact, clear_cycle s c.requires.2)

pub all_numbered-requires : goal.all_numbered-requires
all_numbered-requires c k d l =
    let s = c.requires.0 in
    let are = c.requires.1 in
    let origins : List ℕ = c.in_ok-origins.origins.items in
    let lent : c.deref-2.result.now ≡ origins = c.deref-2.ensures.value in
    let each : length origins ≡ length s.rows = c.in_ok-origins.ensures.each ∙ ap length c.deref.ensures.value ∙ are.each in
    let within : k < length origins = omega (arith, l, ap length lent) in
    let node : k < length s.rows = omega (arith, within, each) in
    let types : HasTypesOf s k (slice_index origins k) = c.in_ok-origins.ensures.types s (rw c.deref.ensures.value are.each) (rw c.deref.ensures.value are.exact) k node in
    let is : slice_index_or c.deref-2.result.now k d ≡ slice_index origins k = ap (λ xs. slice_index_or xs k d) lent ∙ get_or_default origins k d 0 within in
    omega (arith, types_within s k (slice_index origins k) types node, is, are.few)

pub returns-clause-types : goal.returns-clause-types
returns-clause-types c s are n e at =
    let origins : List ℕ = c.in_ok-origins.origins.items in
    let there : slice_get origins n ≡ Some e.0 =
    ap (λ xs. slice_get xs n) (sym c.deref-2.ensures.value ∙ sym c.in_ok-nodes.ensures) ∙ slice_get-map (λ (m : NodeId). m.0) c.in_ok-nodes.nodes.items n ∙ ap (option_map (λ (m : NodeId). m.0)) at in
    let each : length origins ≡ length s.rows = c.in_ok-origins.ensures.each ∙ ap length c.deref.ensures.value ∙ are.each in
    let node : n < length s.rows = omega (arith, slice_get_within origins n e.0 there, each) in
    subst (λ k. HasTypesOf s n k) (at_index origins n e.0 there) (c.in_ok-origins.ensures.types s (rw c.deref.ensures.value are.each) (rw c.deref.ensures.value are.exact) n node)
