use Rattle.std.proofs.Common.{◌++◌, map, sym, ◌∙◌, ap, refl}
use Rattle.std.proofs.lemmas.List.{length-map}
use Rattle.yv_text_statement.specs.Tree.{Then, End, forest}
use Rattle.yv_link_scopes.specs.Rows.{row, row_list}
use Rattle.yv_link_scopes.proofs.Listing.{lists_step, lists_end, next_of, end_of}
use Rattle.yv_link_scopes.proofs.StatementTraversal.{tells_step, tells_end}
use Rattle.yv_link_scopes.proofs.entries.add_block.Goals as goal

pub loop-child-init : goal.loop-child-init
loop-child-init c = record { rows = record { completes = refl }; trees = record { completes = refl } }

pub loop-child-preserved : goal.loop-child-preserved
loop-child-preserved c =
    let next = next_of c.args.block.now c.loop-child.child-index c.child-item.result c.loop-child-test.true c.child-item.is in
    record {
      rows = lists_step _ _ c.loop-child.invariant.rows next (c.in_ok-add.ensures.rows ∙ ap (λ n. map row c.loop-child.entries.items ++ row_list c.args.file c.args.scope n (Then c.child-item.result.head c.child-item.result.children End)) (sym (length-map c.loop-child.entries.items row)));
      trees = tells_step c.child-item.result.head c.child-item.result.children c.loop-child.invariant.trees next c.in_ok-add.ensures.trees;
    }

pub returns : goal.returns
returns c =
    let end = end_of c.args.block.now c.loop-child.child-index c.loop-child-test.false in
    record {
      rows = lists_end c.loop-child.invariant.rows end ∙ ap (λ n. map row c.args.entries.now.items ++ row_list c.args.file c.args.scope n (forest c.args.block.now)) (length-map c.args.entries.now.items row);
      trees = tells_end c.loop-child.invariant.trees end;
    }
