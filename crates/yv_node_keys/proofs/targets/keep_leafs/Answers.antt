use Rattle.std.proofs.Common.{◌==◌, ℕ, Some, cond, sym, ap, ◌∙◌}
use Rattle.yv_node_keys.specs.InnerTargets.{HasLeafs, lists_at}
use Rattle.yv_node_keys.proofs.NumberTables.{empty_leafs, kept_more, kept_none, none_there, put_number, right_more}
use Rattle.yv_node_keys.proofs.targets.keep_leafs.Goals as goal

pub returns-then-is_empty-2-clause-up_to : goal.returns-then-is_empty-2-clause-up_to
returns-then-is_empty-2-clause-up_to c = λ rows has before.
    kept_none (lists_at c.args.lists.now) (HasLeafs rows) c.args.list.0 before
    (empty_leafs rows c.args.list.0 c.args.leafs (none_there c.args.leafs.keys (sym c.is_empty.ensures ∙ c.if-is_empty.true)) (none_there c.args.leafs.uniques (sym c.is_empty-then-is_empty.ensures ∙ c.if-is_empty-2.true)) has)

pub returns-clause-up_to : goal.returns-clause-up_to
returns-clause-up_to c = λ rows has before.
    kept_more (lists_at c.args.lists.now) (HasLeafs rows) c.args.list.0 before (lists_at c.insert.new.self) (Some c.args.leafs)
    (λ k. put_number c.args.lists.now c.insert.new.self c.number.result c.args.leafs c.in_ok-insert.ensures.updates k ∙ ap (λ (m : ℕ). cond (m == k) (Some c.args.leafs) (lists_at c.args.lists.now k)) c.number.ensures) has

pub returns-clause-right : goal.returns-clause-right
returns-clause-right c = λ rows has before.
    right_more (lists_at c.args.lists.now) (lists_at c.insert.new.self) (HasLeafs rows) c.args.list.0 c.args.leafs
    (λ k. put_number c.args.lists.now c.insert.new.self c.number.result c.args.leafs c.in_ok-insert.ensures.updates k ∙ ap (λ (m : ℕ). cond (m == k) (Some c.args.leafs) (lists_at c.args.lists.now k)) c.number.ensures) has before
