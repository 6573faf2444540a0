use Rattle.std.proofs.Common.{◌≡◌, ◌++◌, List, map, ◌∙◌, ap, get_or, false}
use Rattle.yv_text_statement.specs.Tree.{Tree, trees, forest}
use Rattle.yv_link_scopes.proofs.Listing.{next_of, end_of, forest-trees}
use Rattle.yv_search.specs.Statements.{places_in}
use Rattle.yv_search.specs.InnerEdges.{place}
use Rattle.yv_search.proofs.PlaceListing.{lists_step, lists_end}
use Rattle.yv_search.proofs.statements.places.Goals as goal

pub loop-child-init : goal.loop-child-init
loop-child-init c = record { completes = ap (λ l. map place l ++ places_in false (forest (trees c.args.root.now.children))) c.new-list.ensures.items }

pub loop-child-preserved : goal.loop-child-preserved
loop-child-preserved c =
    let ts : List Tree = trees c.args.root.now.children in
    let is : c.child-item.result ≡ get_or ts c.loop-child.child-index c.child-item.result = rw (← c.children-child-items.ensures) c.child-item.is in
    let after = next_of ts c.loop-child.child-index c.child-item.result (rw (← c.children-child-items.ensures) c.loop-child-test.true) is in
    lists_step c.child-item.result.head c.child-item.result.children c.loop-child.invariant after c.in_ok-add.ensures

pub returns : goal.returns
returns c =
    let ts : List Tree = trees c.args.root.now.children in
    let end = end_of ts c.loop-child.child-index (rw (← c.children-child-items.ensures) c.loop-child-test.false) in
    lists_end c.loop-child.invariant end ∙ ap (places_in false) (forest-trees c.args.root.now.children)
