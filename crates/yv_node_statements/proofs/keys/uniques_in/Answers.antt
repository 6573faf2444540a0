use Rattle.std.proofs.Common.{◌++◌, [], ◌∷◌, List, map, ap, ◌∙◌}
use Rattle.yv_text_statement.specs.Tree.{Tree}
use Rattle.yv_node_content.specs.Definition.{paths_in}
use Rattle.yv_node_statements.specs.Definitions.{uniques_in}
use Rattle.yv_node_statements.proofs.Listing.{uniques_more}
use Rattle.yv_node_statements.proofs.keys.uniques_in.Goals as goal

pub loop-child-preserved : goal.loop-child-preserved
loop-child-preserved c = λ files are.
    let ts : List Tree = c.children-child-items.result.now in
    let i = c.loop-child.child-index in
    let old = map paths_in c.loop-child.uniques.items in
    let added = c.in_ok-push_unique.ensures files are ∙ ap (λ (t : Tree). old ++ uniques_in files c.args.file (t ∷ [])) c.child-item.is in
    uniques_more files c.args.file ts i c.child-item.result old (map paths_in c.push_unique.new.uniques.items) (uniques_in files c.args.file ts) c.loop-child-test.true added (c.loop-child.invariant files are)
