use Rattle.yv_node_keys.proofs.PathShifts.{statements_found}
use Rattle.yv_node_keys.proofs.moved_leafs.counterpart_uniques.Goals as goal

pub returns-clause-numbers : goal.returns-clause-numbers
returns-clause-numbers c = λ all known.
    let s = c.in-Some.shift in
    let told = c.in-Some.ensures in
    let found = statements_found c.args.nodes.now.rows s told.moved c.args.earlier c.args.list told.list told.inside told.own all c.args.known.now c.in_ok-found.found known c.in_ok-found.ensures.moved c.in_ok-found.ensures.unmixed in
    found.0

pub returns-clause-good : goal.returns-clause-good
returns-clause-good c = λ all known.
    let s = c.in-Some.shift in
    let told = c.in-Some.ensures in
    let found = statements_found c.args.nodes.now.rows s told.moved c.args.earlier c.args.list told.list told.inside told.own all c.args.known.now c.in_ok-found.found known c.in_ok-found.ensures.moved c.in_ok-found.ensures.unmixed in
    found.1
