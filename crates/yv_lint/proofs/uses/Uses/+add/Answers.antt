use Rattle.std.proofs.Common.{◌≡◌, ◌+◌, ◌<◌, ◌≤◌, get_or, length, refl, ap, arith, rules}
use Rattle.yv_text_statement.specs.Tree.{count, forest, trees}
use Rattle.yv_text_statement.specs.declared.keyword.Keyword.TheVariants as word
use Rattle.yv_link_scopes.proofs.Listing.{fewer, forest-trees}
use Rattle.yv_lint.proofs.NumberedUses.{ends_whole, to_whole, uses_more}
use Rattle.yv_lint.proofs.uses.Uses.+add.Goals as goal

pub add-requires : goal.add-requires
add-requires t c =
    let is : c.child-item.result ≡ get_or (trees c.args.statement.now.children) c.loop-child.child-index c.child-item.result = rw (← c.children-child-items.ensures) c.child-item.is in
    let small : count c.child-item.result.children < count (forest (trees c.args.statement.now.children)) = fewer (trees c.args.statement.now.children) c.loop-child.child-index c.child-item.result (rw (← c.children-child-items.ensures) c.loop-child-test.true) is in
    (let e = ap count (forest-trees c.args.statement.now.children) in omega (arith, c.requires.0, small, e), tt)

pub loop-child-preserved : goal.loop-child-preserved
loop-child-preserved t c =
    let is : c.child-item.result ≡ get_or (trees c.args.statement.now.children) c.loop-child.child-index c.child-item.result = rw (← c.children-child-items.ensures) c.child-item.is in
    record {
      adds = uses_more c.args.own.now _ _ _ (c.len-number.result + 1) (trees c.args.statement.now.children) c.loop-child.child-index c.child-item.result (rw (← c.children-child-items.ensures) c.loop-child-test.true) is c.loop-child.invariant.start c.loop-child.invariant.adds c.in_ok-add.ensures;
      start = c.loop-child.invariant.start;
    }

pub returns : goal.returns
returns t c =
    let end : length (trees c.args.statement.now.children) ≤ c.loop-child.child-index = rw (← c.children-child-items.ensures) c.loop-child-test.false in
    let number : c.len-number.result ≡ length c.args.self.now.ends.items = search rules in
    let count : c.len-end.result ≡ length c.loop-child.self.ends.items = search rules in
    record {
      ends = ends_whole c.args.self.now.ends.items c.push.new.self.items c.loop-child.self.ends.items _ c.len-number.result c.len-end.result c.loop-child.child-index c.args.statement.now.head c.args.statement.now.children number c.in_ok-push.ensures.items end c.loop-child.invariant.adds.ends count refl;
      types = to_whole word.Type c.args.own.now _ _ _ c.len-number.result _ c.loop-child.child-index c.args.statement.now.head c.args.statement.now.children number c.in_ok-note.ensures end c.loop-child.invariant.adds.types;
      groupings = to_whole word.Uses c.args.own.now _ _ _ c.len-number.result _ c.loop-child.child-index c.args.statement.now.head c.args.statement.now.children number c.in_ok-note-2.ensures end c.loop-child.invariant.adds.groupings;
    }
