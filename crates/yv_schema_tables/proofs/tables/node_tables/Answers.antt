use Rattle.std.proofs.Common.{◌≡◌, get_or, length, refl, ap, arith, subst}
use Rattle.std.proofs.lemmas.Option.{get_or_from_slice_get, slice_get_read}
use Rattle.yv_text_statement.proofs.Least.{least_more}
use Rattle.yv_nodes.specs.Rows.{Row}
use Rattle.yv_schema_tables.specs.InnerTables.{Namesakes}
use Rattle.yv_schema_tables.specs.InnerSits.{HaveTrees, family_in}
use Rattle.yv_schema_tables.proofs.ChildDirectories.{directories_more}
use Rattle.yv_schema_tables.proofs.tables.node_tables.Goals as goal

pub below-requires : goal.below-requires
below-requires c =
    let rows = c.args.nodes.now.rows in
    let i = c.loop-node.node-index in
    let row = c.node-item.result in
    let at_item = slice_get_read c.all-node-items.result.now _ i row refl c.loop-node-test.true c.node-item.is in
    let at = rw c.all-node-items.ensures at at_item in
    let here : HaveTrees rows (get_or rows i row).children = c.requires.trees i row (omega (arith, ap length c.all-node-items.ensures, c.loop-node-test.true)) in
    record { names = c.requires.names; trees = subst (λ (r : Row). HaveTrees rows r.children) (get_or_from_slice_get rows i row row at) here }

pub loop-node-preserved : goal.loop-node-preserved
loop-node-preserved c =
    let rows = c.args.nodes.now.rows in
    let i = c.loop-node.node-index in
    let at_item = slice_get_read c.all-node-items.result.now _ i c.node-item.result refl c.loop-node-test.true c.node-item.is in
    let at = rw c.all-node-items.ensures at at_item in
    record {
      built = directories_more rows c.loop-node.directories.items c.push.new.self.items i c.in_ok-family.family.directory c.node-item.result c.loop-node.invariant.built at c.in_ok-family.ensures.directory c.in_ok-push.ensures.items;
      least = least_more rows (λ k (row : Row). Namesakes (family_in rows row)) i c.node-item.result _ _ _ at c.lesser-duplicate.ensures c.loop-node.invariant.least c.in_ok-family.ensures.duplicates;
    }

pub returns-clause-duplicates : goal.returns-clause-duplicates
returns-clause-duplicates c =
    let all : c.loop-node.node-index ≡ length c.args.nodes.now.rows = omega (arith, ap length c.all-node-items.ensures) in
    rw (← all) c.loop-node.invariant.least
