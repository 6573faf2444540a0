use Rattle.std.proofs.Common.{◌≡◌, ◌<◌, ◌≤◌, false, get_or, length, take, sym, ◌∙◌, ap, arith}
use Rattle.std.proofs.lemmas.List.{append-nil}
use Rattle.yv_text_statement.specs.Tree.{count, forest, trees}
use Rattle.yv_link_scopes.proofs.Listing.{fewer, forest-trees}
use Rattle.yv_lint.specs.Definitions.{own_prefix}
use Rattle.yv_lint.proofs.PlaceLists.{block_uses, child_uses, earlier_more, end_after, found_all, found_bare, found_more, found_whole, next_uses, start_uses}
use Rattle.yv_lint.proofs.file.File.+add.Goals as goal

pub overflow_add-start : goal.overflow_add-start
overflow_add-start t c =
    let at = c.end-end.ensures ∙ end_after (own_prefix c.args.self.now.root.now) c.args.self.now.uses c.args.number c.args.place.now.statement.now.head c.args.place.now.statement.now.children c.requires.number in
    omega (arith, at, c.end-end.type_inv)

pub add-requires : goal.add-requires
add-requires t c =
    let is : c.child-item.result ≡ get_or (trees c.args.place.now.statement.now.children) c.loop-child.child-index c.child-item.result = rw (← c.children-child-items.ensures) c.child-item.is in
    let lt : c.loop-child.child-index < length (trees c.args.place.now.statement.now.children) = rw (← c.children-child-items.ensures) c.loop-child-test.true in
    let small : count c.child-item.result.children < count (forest (trees c.args.place.now.statement.now.children)) = fewer (trees c.args.place.now.statement.now.children) c.loop-child.child-index c.child-item.result lt is in (
      (let e = ap count (forest-trees c.args.place.now.statement.now.children) in omega (arith, c.decreases, small, e)),
      (
        block_uses (own_prefix c.args.self.now.root.now) c.args.self.now.uses c.args.number c.end-end.result c.args.place.now.statement.now.head c.args.place.now.statement.now.children c.requires.number c.end-end.ensures,
        child_uses (own_prefix c.args.self.now.root.now) c.args.self.now.uses (trees c.args.place.now.statement.now.children) c.loop-child.child-index c.child-item.result c.loop-child.next lt is c.loop-child.invariant.next,
      ),
    )

pub loop-child-init : goal.loop-child-init
loop-child-init t c = record {
  adds = sym (append-nil _);
  earlier = c.none-earlier.ensures;
  next = start_uses (own_prefix c.args.self.now.root.now) c.args.self.now.uses c.args.number c.args.place.now.statement.now.head c.args.place.now.statement.now.children c.requires.number;
}

pub loop-child-preserved : goal.loop-child-preserved
loop-child-preserved t c =
    let is : c.child-item.result ≡ get_or (trees c.args.place.now.statement.now.children) c.loop-child.child-index c.child-item.result = rw (← c.children-child-items.ensures) c.child-item.is in
    let lt : c.loop-child.child-index < length (trees c.args.place.now.statement.now.children) = rw (← c.children-child-items.ensures) c.loop-child-test.true in
    record {
      adds = found_more c.args.self.now c.args.place.now.statement.now false (trees c.args.place.now.statement.now.children) c.loop-child.child-index c.child-item.result _ _ _ lt is c.loop-child.invariant.adds (c.in_ok-add.ensures (take c.loop-child.child-index (trees c.args.place.now.statement.now.children)) c.loop-child.invariant.earlier);
      earlier = earlier_more (trees c.args.place.now.statement.now.children) c.loop-child.child-index c.child-item.result _ lt is (c.note.ensures (take c.loop-child.child-index (trees c.args.place.now.statement.now.children)) c.loop-child.invariant.earlier);
      next = next_uses (own_prefix c.args.self.now.root.now) c.args.self.now.uses (trees c.args.place.now.statement.now.children) c.loop-child.child-index c.child-item.result c.loop-child.next c.end-next.result lt is c.end-next.ensures c.loop-child.invariant.next;
    }

pub returns : goal.returns
returns t c = λ before h.
    let end : length (trees c.args.place.now.statement.now.children) ≤ c.loop-child.child-index = rw (← c.children-child-items.ensures) c.loop-child-test.false in
    found_whole c.args.self.now c.args.place.now.parent.now c.args.place.now.statement.now c.args.place.now.is_top before _ _ _
    (sym c.is_extended.ensures ∙ c.if-is_extended.false)
    (c.in_ok-add_those.ensures before h)
    (found_all c.args.self.now c.args.place.now.statement.now false c.args.place.now.statement.now.children c.loop-child.child-index _ _ end c.loop-child.invariant.adds)

pub returns-then-is_extended : goal.returns-then-is_extended
returns-then-is_extended t c = λ before h.
    found_bare c.args.self.now c.args.place.now.parent.now c.args.place.now.statement.now c.args.place.now.is_top before _ (sym c.is_extended.ensures ∙ c.if-is_extended.true)
