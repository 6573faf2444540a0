use Rattle.std.proofs.Common.{◌≡◌, ◌<◌, ℕ, List, length, Option, Some, None, slice_get, slice_index_or, sym, ap, subst, ◌∙◌, arith}
use Rattle.std.proofs.lemmas.Option.{slice_get-get_or}
use Rattle.yv_text_statement.specs.Order.{IsLeast}
use Rattle.yv_text_statement.specs.declared.refusal.Refusal.{Refusal}
use Rattle.yv_nodes.specs.declared.node.NodeId.{NodeId}
use Rattle.yv_nodes.specs.Rows.{Row}
use Rattle.yv_nodes.specs.Tree.{Forest}
use Rattle.yv_nodes.specs.NodeTypes.{typed_from, typed_rows, types_from}
use Rattle.yv_node_leafrefs.specs.Schema.{Schema}
use Rattle.yv_node_leafrefs.specs.Targets.{HasTypesOf}
use Rattle.yv_node_leafrefs.specs.Bad.{BadLeafrefs}
use Rattle.yv_node_leafrefs.specs.Resolution.{with_targets, with_refusal}
use Rattle.yv_node_leafrefs.proofs.RetypedTrees.{origin_within, resolved_by, rows_by}
use Rattle.yv_node_leafrefs.proofs.leafrefs.Leafrefs.resolve.Goals as goal

pub returns-in-Some-clause-types : goal.returns-in-Some-clause-types
returns-in-Some-clause-types c = λ s stated are same rows.
    let least : IsLeast (BadLeafrefs s) (Some c.in-Some.field-0) = subst (λ (f : Option Refusal). IsLeast (BadLeafrefs s) f) c.in-Some.is are.wrong in
    (stated, with_refusal least.0, sym same ∙ rows)

pub resolve-requires-clause-within : goal.resolve-requires-clause-within
resolve-requires-clause-within c = λ k d l.
    let s : Schema = c.requires.0 in
    let xs : List NodeId = c.in_ok-origins-in-None.origins.items in
    let within : k < length xs = subst (λ (ys : List NodeId). k < length ys) c.deref.ensures.value l in
    let e : NodeId = slice_index_or xs k d in
    let has : HasTypesOf s k e.0 = c.in_ok-origins-in-None.ensures.types s c.requires.1 k e (slice_get-get_or xs k d within) in
    let long : length xs ≡ length s.rows = c.in_ok-origins-in-None.ensures.each s c.requires.1 in
    let there : e.0 < length s.rows = origin_within s k e.0 has (omega (arith, within, long)) in
    subst (λ (ys : List NodeId). (slice_index_or ys k d).0 < length c.args.nodes.now.rows) (sym c.deref.ensures.value)
    (subst (λ (rows : List Row). e.0 < length rows) c.requires.2 there)

pub returns-in_ok-resolve-in-None-clause-types : goal.returns-in_ok-resolve-in-None-clause-types
returns-in_ok-resolve-in-None-clause-types c = λ s stated are same rows.
    let xs : List NodeId = c.in_ok-origins-in-None.origins.items in
    let before : List Row = c.args.nodes.now.rows in
    let least : IsLeast (BadLeafrefs s) None = subst (λ (f : Option Refusal). IsLeast (BadLeafrefs s) f) c.in-None.is are.wrong in
    let tree : Forest = typed_from (types_from s.rows xs) 0 stated in
    let now : c.resolve.new.self.rows ≡ typed_rows (types_from before xs) 0 before =
    c.in_ok-resolve-in-None.ensures.rows ∙ ap (λ (ys : List NodeId). typed_rows (types_from before ys) 0 before) c.deref.ensures.value in (
      tree,
      with_targets least (resolved_by s stated xs (c.in_ok-origins-in-None.ensures.each s are) (c.in_ok-origins-in-None.ensures.types s are) rows),
      now ∙ ap (λ (rs : List Row). typed_rows (types_from rs xs) 0 rs) (sym same) ∙ rows_by s.rows stated xs rows,
    )
