use Rattle.std.proofs.Common.{◌≡◌, ◌≤◌, ℕ, ◌+◌, List, [], length, map, Some, slice_get, refl, sym, ap, ◌∙◌, arith}
use Rattle.std.proofs.lemmas.List.{length-map}
use Rattle.yv_values.specs.Types.{Plain}
use Rattle.yv_nodes.specs.declared.node.NodeId.{NodeId}
use Rattle.yv_nodes.specs.Rows.{WithinLimit, Row}
use Rattle.yv_nodes.specs.NodeTypes.{typed_rows, types_at, types_from}
use Rattle.yv_nodes.specs.InnerTypes.{with_own_types, types_in}
use Rattle.yv_nodes.proofs.Behind.{retyped_behind}
use Rattle.yv_nodes.proofs.Firsts.{retyped_firsts}
use Rattle.yv_nodes.proofs.RowTypes.{by_number, told_by}
use Rattle.yv_nodes.proofs.nodes.Nodes.resolve.Goals as goal

pub returns-clause-rows : goal.returns-clause-rows
returns-clause-rows c =
    let origins : List NodeId = c.args.origins.now in
    let rows : List Row = c.self.inside.nodes.items in
    let lists : List (List Plain) = map types_in c.in_ok-types.types.items in
    let are : lists ≡ map (λ (o : NodeId). types_at rows o.0) origins = c.in_ok-types.ensures ∙ ap (λ rs. map (λ (o : NodeId). types_at rs o.0) origins) c.deref.ensures.value in
    let as_many : length origins ≡ length rows = c.requires.each ∙ ap (λ (b : WithinLimit). length b.rows) (sym c.self.view_is) in
    let long : length lists ≡ length rows = ap length are ∙ length-map origins (λ (o : NodeId). types_at rows o.0) ∙ as_many in
    by_number (types_from rows origins) 0 lists rows c.set_types.new.nodes.items long c.set_types.ensures.each (told_by rows origins lists are) c.set_types.ensures.rows
    ∙ ap (λ (b : WithinLimit). typed_rows (types_from b.rows origins) 0 b.rows) c.self.view_is

pub invariant_of-self : goal.invariant_of-self
invariant_of-self c =
    let rows : List Row = c.self.inside.nodes.items in
    let long : length c.set_types.new.nodes.items ≤ c.self.inside.limit = omega (arith, c.set_types.ensures.each, c.self.invariant.0) in
    let lists : List (List Plain) = map types_in c.in_ok-types.types.items in (
      long,
      retyped_behind lists rows c.set_types.new.nodes.items c.set_types.ensures.rows c.self.invariant.1,
      retyped_firsts lists rows c.set_types.new.nodes.items c.self.inside.firsts.items c.set_types.ensures.each c.set_types.ensures.rows c.self.invariant.2,
    )
