use Rattle.std.proofs.Common.{◌≡◌, ◌<◌, ◌≤◌, ◌||◌, get_or, length, sym, ◌∙◌, ap, subst, arith}
use Rattle.yv_text_statement.specs.Tree.{count, forest, trees}
use Rattle.yv_link_scopes.specs.Rows.{is_extended}
use Rattle.yv_lint.specs.InnerUsed.{Adds}
use Rattle.yv_lint.specs.Used.{keyword_prefix}
use Rattle.yv_link_scopes.proofs.Listing.{fewer, forest-trees}
use Rattle.yv_lint.proofs.PrefixSets.{block_done, child_more, whole_statement}
use Rattle.yv_lint.proofs.prefixes.Prefixes.+add_statement.Goals as goal
use Rattle.yv_lint.proofs.prefixes.Prefixes.+add_statement.Goals.{then-within, else-within}

pub add_statement-requires : goal.add_statement-requires
add_statement-requires t c =
    let is : c.child-item.result ≡ get_or (trees c.args.statement.now.children) c.loop-child.child-index c.child-item.result = rw (← c.children-child-items.ensures) c.child-item.is in
    let small : count c.child-item.result.children < count (forest (trees c.args.statement.now.children)) = fewer (trees c.args.statement.now.children) c.loop-child.child-index c.child-item.result (rw (← c.children-child-items.ensures) c.loop-child-test.true) is in
    (let e = ap count (forest-trees c.args.statement.now.children) in omega (arith, c.decreases, small, e), tt)

pub loop-child-preserved : goal.loop-child-preserved
loop-child-preserved t c =
    let is : c.child-item.result ≡ get_or (trees c.args.statement.now.children) c.loop-child.child-index c.child-item.result = rw (← c.children-child-items.ensures) c.child-item.is in
    child_more c.if-within.below (trees c.args.statement.now.children) c.loop-child.child-index c.child-item.result _ _ _ (rw (← c.children-child-items.ensures) c.loop-child-test.true) is c.loop-child.invariant c.in_ok-add_statement.ensures

pub returns : goal.returns
returns t c =
    let extended = is_extended c.args.statement.now.head.keyword in
    let below : c.if-within.below ≡ (c.args.within || extended) = elim c.if-within.branch [
      | then-within w ↦ w.below-is ∙ w.if-within.true ∙ sym (ap (λ b. b || extended) w.if-within.true)
      | else-within w ↦ w.below-is ∙ w.is_extended-below.ensures ∙ sym (ap (λ b. b || extended) w.if-within.false)
    ] in
    let end : length (trees c.args.statement.now.children) ≤ c.loop-child.child-index = rw (← c.children-child-items.ensures) c.loop-child-test.false in
    whole_statement c.args.within c.if-within.below c.args.statement.now.head c.args.statement.now.children _ _ _ _ below
    (subst (λ k. Adds c.args.self.now c.add_keyword.new.self (keyword_prefix k)) c.keyword.ensures c.in_ok-add_keyword.ensures)
    c.in_ok-add_argument.ensures
    (block_done c.if-within.below c.args.statement.now.children c.loop-child.child-index _ _ end c.loop-child.invariant)
