use Rattle.std.proofs.Common.{◌≡◌, ◌<◌, ◌≤◌, true, get_or, length, take, sym}
use Rattle.std.proofs.lemmas.List.{append-nil}
use Rattle.yv_text_statement.specs.Tree.{trees}
use Rattle.yv_lint.specs.Definitions.{own_prefix}
use Rattle.yv_lint.proofs.PlaceLists.{block_uses, child_uses, earlier_more, found_all, found_more, next_uses, start_uses}
use Rattle.yv_lint.proofs.file.File.add_block.Goals as goal

pub add-requires-clause-block : goal.add-requires-clause-block
add-requires-clause-block c = block_uses (own_prefix c.args.self.now.root.now) c.args.self.now.uses 0 c.end-end.result c.args.self.now.root.now.head c.args.self.now.root.now.children c.args.self.now.uses_so c.end-end.ensures

pub add-requires-clause-number : goal.add-requires-clause-number
add-requires-clause-number c =
    let is : c.child-item.result ≡ get_or (trees c.args.self.now.root.now.children) c.loop-child.child-index c.child-item.result = rw (← c.children-child-items.ensures) c.child-item.is in
    let lt : c.loop-child.child-index < length (trees c.args.self.now.root.now.children) = rw (← c.children-child-items.ensures) c.loop-child-test.true in
    child_uses (own_prefix c.args.self.now.root.now) c.args.self.now.uses (trees c.args.self.now.root.now.children) c.loop-child.child-index c.child-item.result c.loop-child.next lt is c.loop-child.invariant.next

pub loop-child-init : goal.loop-child-init
loop-child-init c = record {
  adds = sym (append-nil _);
  earlier = c.none-earlier.ensures;
  next = start_uses (own_prefix c.args.self.now.root.now) c.args.self.now.uses 0 c.args.self.now.root.now.head c.args.self.now.root.now.children c.args.self.now.uses_so;
}

pub loop-child-preserved : goal.loop-child-preserved
loop-child-preserved c =
    let is : c.child-item.result ≡ get_or (trees c.args.self.now.root.now.children) c.loop-child.child-index c.child-item.result = rw (← c.children-child-items.ensures) c.child-item.is in
    let lt : c.loop-child.child-index < length (trees c.args.self.now.root.now.children) = rw (← c.children-child-items.ensures) c.loop-child-test.true in
    record {
      adds = found_more c.args.self.now c.args.self.now.root.now true (trees c.args.self.now.root.now.children) c.loop-child.child-index c.child-item.result _ _ _ lt is c.loop-child.invariant.adds (c.in_ok-add.ensures (take c.loop-child.child-index (trees c.args.self.now.root.now.children)) c.loop-child.invariant.earlier);
      earlier = earlier_more (trees c.args.self.now.root.now.children) c.loop-child.child-index c.child-item.result _ lt is (c.note.ensures (take c.loop-child.child-index (trees c.args.self.now.root.now.children)) c.loop-child.invariant.earlier);
      next = next_uses (own_prefix c.args.self.now.root.now) c.args.self.now.uses (trees c.args.self.now.root.now.children) c.loop-child.child-index c.child-item.result c.loop-child.next c.end-next.result lt is c.end-next.ensures c.loop-child.invariant.next;
    }

pub returns : goal.returns
returns c =
    let end : length (trees c.args.self.now.root.now.children) ≤ c.loop-child.child-index = rw (← c.children-child-items.ensures) c.loop-child-test.false in
    found_all c.args.self.now c.args.self.now.root.now true c.args.self.now.root.now.children c.loop-child.child-index _ _ end c.loop-child.invariant.adds
