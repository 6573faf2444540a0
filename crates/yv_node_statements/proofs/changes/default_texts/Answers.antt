use Rattle.std.proofs.Common.{◌++◌, [], ◌∷◌, List, map, ap, ◌∙◌}
use Rattle.yv_text_statement.specs.Tree.{Tree}
use Rattle.yv_text_statement.specs.TextInFile.{written_of}
use Rattle.yv_node_statements.specs.InnerChanges.{defaults_among}
use Rattle.yv_node_statements.proofs.Listing.{defaults_more}
use Rattle.yv_node_statements.proofs.changes.default_texts.Goals as goal

pub loop-child-preserved : goal.loop-child-preserved
loop-child-preserved c =
    let ts : List Tree = c.children-child-items.result.now in
    let i = c.loop-child.child-index in
    let file = c.args.file in
    let old = map written_of c.loop-child.texts.items in
    let added = c.in_ok-push_default.ensures ∙ ap (λ (t : Tree). old ++ defaults_among file (t ∷ [])) c.child-item.is in
    defaults_more file ts i c.child-item.result old (map written_of c.push_default.new.texts.items) (defaults_among file ts) c.loop-child-test.true added c.loop-child.invariant
