use Rattle.std.proofs.Common.{◌+◌, ◌-◌, ◌≡◌, ◌∷◌, [], List, All, arith, drop, get_or, refl, subst, sym, take}
use Rattle.yv_nodes.specs.declared.node.NodeId.{NodeId}
use Rattle.yv_nodes.specs.Rows.{AreTrees, root}
use Rattle.yv_schema_tables.specs.Sound.{IsChild}
use Rattle.yv_tree.proofs.ShownNodes.{nil_of, no_step, one_are, one_each, one_range, to_none, to_place}
use Rattle.yv_tree.proofs.way.shown_ids.Goals as goal

pub returns-in-Some-first_place-clause-part : goal.returns-in-Some-first_place-clause-part
returns-in-Some-first_place-clause-part c =
    let ids = c.args.ids.now in
    let place = c.in-Some-first_place.place in
    let shown = take (place + 1 - place) (drop place ids) in
    to_place c.args.schema.now c.args.above c.args.way.now c.in-Some.step.now c.in-Some.field-0-1.now ids shown place root c.in-Some.ensures.cases.0 c.requires.trees c.in-Some-first_place.ensures
    (one_range ids place root (place + 1 - place) (omega arith) c.in-Some-first_place.ensures.within)

pub returns-in-Some-first_place-clause-children : goal.returns-in-Some-first_place-clause-children
returns-in-Some-first_place-clause-children c =
    let ids = c.args.ids.now in
    let place = c.in-Some-first_place.place in
    let P = IsChild c.args.schema.now c.args.parent in
    let one : take (place + 1 - place) (drop place ids) ≡ get_or ids place root ∷ [] = one_range ids place root (place + 1 - place) (omega arith) c.in-Some-first_place.ensures.within in
    subst (λ (l : List NodeId). All P l) (sym one) (one_each P ids place root c.in-Some-first_place.ensures.within c.requires.children)

pub returns-in-Some-first_place-clause-trees : goal.returns-in-Some-first_place-clause-trees
returns-in-Some-first_place-clause-trees c =
    let s = c.args.schema.now in
    let ids = c.args.ids.now in
    let place = c.in-Some-first_place.place in
    let one : take (place + 1 - place) (drop place ids) ≡ get_or ids place root ∷ [] = one_range ids place root (place + 1 - place) (omega arith) c.in-Some-first_place.ensures.within in
    subst (λ (l : List NodeId). AreTrees s l) (sym one) (one_are s ids place root c.requires.trees c.in-Some-first_place.ensures.within)

pub returns-in-None-first_place-clause-part : goal.returns-in-None-first_place-clause-part
returns-in-None-first_place-clause-part c =
    to_none c.args.schema.now c.args.above c.args.way.now c.in-Some.step.now c.in-Some.field-0-1.now c.args.ids.now [] c.in-Some.ensures.cases.0 c.in-None-first_place.ensures refl

pub returns-in-None-clause-part : goal.returns-in-None-clause-part
returns-in-None-clause-part c = no_step c.args.schema.now c.args.above c.args.way.now c.args.ids.now (nil_of c.args.way.now c.in-None.ensures.cases)
