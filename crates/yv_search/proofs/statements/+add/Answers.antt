use Rattle.std.proofs.Common.{◌≡◌, ◌<◌, ◌++◌, ◌||◌, Bool, List, true, false, map, sym, ◌∙◌, ap, arith, refl, get_or}
use Rattle.yv_text_statement.specs.Tree.{Tree, Then, End, trees, forest, count}
use Rattle.yv_link_scopes.specs.Rows.{is_extended}
use Rattle.yv_link_scopes.proofs.Listing.{next_of, end_of, fewer, forest-trees}
use Rattle.yv_search.specs.Statements.{places_in, is_lendable}
use Rattle.yv_search.specs.InnerEdges.{place}
use Rattle.yv_search.proofs.PlaceListing.{lists_step, lists_end, listed_whole, listed_bare, pushed_place}
use Rattle.yv_search.proofs.statements.+add.Goals as goal
use Rattle.yv_search.proofs.statements.+add.Goals.{then-lent, else-lent}

pub add-requires : goal.add-requires
add-requires t c =
    let is : c.child-item.result ≡ get_or (trees c.args.statement.now.children) c.loop-child.child-index c.child-item.result = rw (← c.children-child-items.ensures) c.child-item.is in
    let small : count c.child-item.result.children < count (forest (trees c.args.statement.now.children)) = fewer (trees c.args.statement.now.children) c.loop-child.child-index c.child-item.result (rw (← c.children-child-items.ensures) c.loop-child-test.true) is in
    (let e = ap count (forest-trees c.args.statement.now.children) in omega (arith, c.decreases, small, e), tt)

pub loop-child-init : goal.loop-child-init
loop-child-init t c = record { completes = refl }

pub loop-child-preserved : goal.loop-child-preserved
loop-child-preserved t c =
    let ts : List Tree = trees c.args.statement.now.children in
    let is : c.child-item.result ≡ get_or ts c.loop-child.child-index c.child-item.result = rw (← c.children-child-items.ensures) c.child-item.is in
    let after = next_of ts c.loop-child.child-index c.child-item.result (rw (← c.children-child-items.ensures) c.loop-child-test.true) is in
    lists_step c.child-item.result.head c.child-item.result.children c.loop-child.invariant after c.in_ok-add.ensures

pub returns : goal.returns
returns t c =
    let ts : List Tree = trees c.args.statement.now.children in
    let lendable : Bool = is_lendable c.args.statement.now.head.keyword in
    let lent : c.if-lent.lent ≡ (c.args.lent || lendable) =
    elim c.if-lent.branch [
      | then-lent w ↦ w.lent-is ∙ w.if-lent.true ∙ sym (ap (λ b. b || lendable) w.if-lent.true)
      | else-lent w ↦ w.lent-is ∙ w.is_lendable-lent.ensures ∙ sym (ap (λ b. b || lendable) w.if-lent.false)
    ] in
    let end = end_of ts c.loop-child.child-index (rw (← c.children-child-items.ensures) c.loop-child-test.false) in
    let block : map place c.loop-child.list.items ≡ map place c.push.new.self.items ++ places_in (c.args.lent || lendable) c.args.statement.now.children =
    lists_end c.loop-child.invariant end
    ∙ ap (λ f. map place c.push.new.self.items ++ places_in c.if-lent.lent f) (forest-trees c.args.statement.now.children)
    ∙ ap (λ b. map place c.push.new.self.items ++ places_in b c.args.statement.now.children) lent in
    listed_whole c.args.lent c.args.statement.now.head c.args.statement.now.children (map place c.args.list.now.items) (map place c.push.new.self.items) (map place c.loop-child.list.items)
    (sym c.is_extended.ensures ∙ c.if-is_extended.false) (pushed_place _ _ _ c.in_ok-push.ensures.items) block

pub returns-then-is_extended : goal.returns-then-is_extended
returns-then-is_extended t c =
    let bare : is_extended c.args.statement.now.head.keyword ≡ true = sym c.is_extended.ensures ∙ c.if-is_extended.true in
    listed_bare c.args.lent c.args.statement.now.head c.args.statement.now.children (map place c.args.list.now.items) bare
