use Rattle.std.proofs.Common.{◌≡◌, ◌≤◌, ◌+◌, [], ◌∷◌, ◌++◌, Some, length, reverse, sym, ◌∙◌, ap, subst, arith, length-append}
use Rattle.yv_expand_rounds.specs.Tree.{AreInOrder}
use Rattle.yv_expand_rounds.specs.Groups.{Groups}
use Rattle.yv_expand_rounds.specs.InnerTreeList.{groups_in, under}
use Rattle.yv_expand_rounds.proofs.GroupRemoval.{fresh_start, fresh_top, fresh_step, completes_start, completes_step, completes_all, fewer_left, no_items_in}
use Rattle.yv_expand_rounds.proofs.Depths.{no_deeper_start, no_deeper_step, depth_on_top}
use Rattle.yv_expand_rounds.proofs.tree_list.list.Goals as goal

pub loop-row-init : goal.loop-row-init
loop-row-init c =
    let whole : Groups = groups_in c.args.groups.now.items in
    let order : AreInOrder c.args.labels.now whole 0 c.deref.result.now = subst (λ l. AreInOrder c.args.labels.now whole 0 l) (sym c.deref.ensures.value) c.take_group-top.ensures.takes in
    record {
      fresh = λ once. fresh_start c.args.labels.now whole _ c.new-stack.result.items _ c.deref.result.now once order c.take_group-top.ensures.others c.new-stack.ensures.items c.in_ok-put.ensures;
      completes = λ once. completes_start c.args.labels.now whole c.new-stack.result.items _ _ c.deref.result.now order c.new-stack.ensures.items c.in_ok-put.ensures c.in_ok-rows.ensures.items;
      shallow = no_deeper_start c.new-stack.result.items _ c.deref.result.now c.in_ok-rows.rows.items c.new-stack.ensures.items c.in_ok-put.ensures;
    }

pub loop-row-smaller : goal.loop-row-smaller
loop-row-smaller c =
    let rest : Groups = groups_in c.loop-row.groups.items in
    let order : AreInOrder c.args.labels.now rest (c.in-Some.row.number + 1) c.deref-in-Some.result.now =
    subst (λ l. AreInOrder c.args.labels.now rest (c.in-Some.row.number + 1) l) (sym c.deref-in-Some.ensures.value) c.take_below-below.ensures.takes in
    fewer_left c.args.labels.now c.loop-row.stack.items c.pop.new.self.items c.put-in-Some.new.stack.items c.in-Some.row (Some c.in-Some.row.number) (c.in-Some.row.depth + 1) rest
    (groups_in c.take_below-below.new.groups.items) (c.in-Some.row.number + 1) c.deref-in-Some.result.now c.in-Some.ensures.items order
    c.take_below-below.ensures.others c.in_ok-put-2.ensures

pub loop-row-preserved : goal.loop-row-preserved
loop-row-preserved c =
    let whole : Groups = groups_in c.args.groups.now.items in
    let rest : Groups = groups_in c.loop-row.groups.items in
    let order : AreInOrder c.args.labels.now rest (c.in-Some.row.number + 1) c.deref-in-Some.result.now =
    subst (λ l. AreInOrder c.args.labels.now rest (c.in-Some.row.number + 1) l) (sym c.deref-in-Some.ensures.value) c.take_below-below.ensures.takes in
    let put : c.put-in-Some.new.stack.items ≡ c.pop.new.self.items ++ reverse (under (Some c.in-Some.row.number) (c.in-Some.row.depth + 1) c.deref-in-Some.result.now) =
    c.in_ok-put-2.ensures in
    record {
      fresh = λ once. fresh_step c.args.labels.now whole rest (groups_in c.take_below-below.new.groups.items) c.loop-row.stack.items c.pop.new.self.items
          c.put-in-Some.new.stack.items c.in-Some.row (c.in-Some.row.depth + 1) c.deref-in-Some.result.now c.in-Some.ensures.items order
          c.take_below-below.ensures.others put (c.loop-row.invariant.fresh once);
      completes = λ once. completes_step c.args.labels.now whole rest c.loop-row.stack.items c.pop.new.self.items c.put-in-Some.new.stack.items c.loop-row.rows.items
          c.push.new.self.items c.in-Some.row c.deref-in-Some.result.now c.in-Some.ensures.items order
          (fresh_top whole rest c.loop-row.stack.items c.pop.new.self.items c.in-Some.row c.in-Some.ensures.items (c.loop-row.invariant.fresh once))
          put c.in_ok-push.ensures.items (c.loop-row.invariant.completes once);
      shallow = no_deeper_step c.loop-row.rows.items c.push.new.self.items c.loop-row.stack.items c.pop.new.self.items c.put-in-Some.new.stack.items c.in-Some.row
          c.deref-in-Some.result.now c.in-Some.ensures.items c.in_ok-push.ensures.items put c.loop-row.invariant.shallow;
    }

pub returns : goal.returns
returns c = λ once.
    let none : length c.loop-row.stack.items ≡ 0 = omega (arith, c.in_default.ensures.cases) in
    completes_all c.args.labels.now _ c.loop-row.stack.items c.loop-row.rows.items (no_items_in c.loop-row.stack.items none) (c.loop-row.invariant.completes once)

pub overflow_add-row : goal.overflow_add-row
overflow_add-row c =
    let top : c.in-Some.row.depth ≤ length c.loop-row.rows.items + 1 =
    depth_on_top (length c.loop-row.rows.items + 1) c.loop-row.stack.items c.pop.new.self.items c.in-Some.row c.in-Some.ensures.items c.loop-row.invariant.shallow in
    let longer : length c.push.new.self.items ≡ length c.loop-row.rows.items + 1 =
    ap length c.in_ok-push.ensures.items ∙ length-append c.loop-row.rows.items (c.in-Some.row ∷ []) in
    omega (arith, top, longer, c.push.new.self.ok.0, c.push.new.self.ok.1, c.push.new.self.small)
