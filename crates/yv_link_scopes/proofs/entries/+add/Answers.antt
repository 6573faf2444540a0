use Rattle.std.proofs.Common.{◌≡◌, rules, ◌<◌, ◌++◌, List, true, false, length, map, sym, ◌∙◌, ap, arith, refl, get_or}
use Rattle.std.proofs.lemmas.List.{length-map}
use Rattle.yv_text_statement.specs.Tree.{Tree, Then, End, trees, forest, count}
use Rattle.yv_link_scopes.specs.Rows.{row, tree, row_list, is_extended}
use Rattle.yv_link_scopes.specs.RowList.{statements_in}
use Rattle.yv_link_scopes.proofs.Listing.{lists_step, lists_end, listed_whole, listed_bare, next_of, end_of, pushed, fewer, forest-trees}
use Rattle.yv_link_scopes.proofs.StatementTraversal.{tells_step, tells_end, told_whole, told_bare, pushed_tree}
use Rattle.yv_link_scopes.proofs.entries.+add.Goals as goal

pub add-requires : goal.add-requires
add-requires t c =
    let is : c.child-item.result ≡ get_or (trees c.args.statement.now.children) c.loop-child.child-index c.child-item.result = rw (← c.children-child-items.ensures) c.child-item.is in
    let small : count c.child-item.result.children < count (forest (trees c.args.statement.now.children)) = fewer (trees c.args.statement.now.children) c.loop-child.child-index c.child-item.result (rw (← c.children-child-items.ensures) c.loop-child-test.true) is in
    (let e = ap count (forest-trees c.args.statement.now.children) in omega (arith, c.decreases, small, e), tt)

pub loop-child-init : goal.loop-child-init
loop-child-init t c = record { rows = record { completes = refl }; trees = record { completes = refl } }

pub loop-child-preserved : goal.loop-child-preserved
loop-child-preserved t c =
    let ts : List Tree = trees c.args.statement.now.children in
    let is : c.child-item.result ≡ get_or ts c.loop-child.child-index c.child-item.result = rw (← c.children-child-items.ensures) c.child-item.is in
    let after = next_of ts c.loop-child.child-index c.child-item.result (rw (← c.children-child-items.ensures) c.loop-child-test.true) is in
    record {
      rows = lists_step _ _ c.loop-child.invariant.rows after (c.in_ok-add.ensures.rows ∙ ap (λ n. map row c.loop-child.entries.items ++ row_list c.args.file c.len-number.result n (Then c.child-item.result.head c.child-item.result.children End)) (sym (length-map c.loop-child.entries.items row)));
      trees = tells_step c.child-item.result.head c.child-item.result.children c.loop-child.invariant.trees after c.in_ok-add.ensures.trees;
    }

pub returns : goal.returns
returns t c =
    let ts : List Tree = trees c.args.statement.now.children in
    let end = end_of ts c.loop-child.child-index (rw (← c.children-child-items.ensures) c.loop-child-test.false) in
    let done : map row c.loop-child.entries.items ≡ map row c.push.new.self.items ++ row_list c.args.file c.len-number.result (length (map row c.push.new.self.items)) (forest ts) = lists_end c.loop-child.invariant.rows end in
    let block : map row c.loop-child.entries.items ≡ map row c.push.new.self.items ++ row_list c.args.file c.len-number.result (length (map row c.push.new.self.items)) c.args.statement.now.children = done ∙ ap (λ f. map row c.push.new.self.items ++ row_list c.args.file c.len-number.result (length (map row c.push.new.self.items)) f) (forest-trees c.args.statement.now.children) in
    let told : map tree c.loop-child.entries.items ≡ map tree c.push.new.self.items ++ statements_in c.args.statement.now.children = tells_end c.loop-child.invariant.trees end ∙ ap (λ f. map tree c.push.new.self.items ++ statements_in f) (forest-trees c.args.statement.now.children) in
    let plain : is_extended c.args.statement.now.head.keyword ≡ false = sym c.is_extended.ensures ∙ c.if-is_extended.false in
    let number : c.len-number.result ≡ length c.args.entries.now.items = search rules in
    record {
      rows = listed_whole c.args.file c.args.scope (length c.args.entries.now.items) c.args.statement.now.head c.args.statement.now.children (map row c.args.entries.now.items) _ _ (sym (length-map c.args.entries.now.items row)) plain (pushed _ _ _ c.in_ok-push.ensures.items) (block ∙ ap (λ n. map row c.push.new.self.items ++ row_list c.args.file n (length (map row c.push.new.self.items)) c.args.statement.now.children) number);
      trees = told_whole c.args.statement.now.head c.args.statement.now.children (map tree c.args.entries.now.items) (map tree c.push.new.self.items) (map tree c.loop-child.entries.items) plain (pushed_tree _ _ _ c.in_ok-push.ensures.items) told;
    }

pub returns-then-is_extended : goal.returns-then-is_extended
returns-then-is_extended t c =
    let bare : is_extended c.args.statement.now.head.keyword ≡ true = sym c.is_extended.ensures ∙ c.if-is_extended.true in
    record {
      rows = listed_bare c.args.file c.args.scope (length c.args.entries.now.items) c.args.statement.now.head c.args.statement.now.children _ _ bare (pushed _ _ _ c.in_ok-push.ensures.items);
      trees = told_bare c.args.statement.now.head c.args.statement.now.children (map tree c.args.entries.now.items) (map tree c.push.new.self.items) bare (pushed_tree _ _ _ c.in_ok-push.ensures.items);
    }
