use Rattle.std.proofs.Common.{◌≡◌, ◌∙◌, ◌++◌, List, [], sym, ap, map, Some}
use Rattle.std.specs.List.{slice_get, cons_option}
use Rattle.std.proofs.lemmas.List.{append-nil}
use Rattle.yv_text_statement.specs.Tree.{Tree, trees}
use Rattle.yv_search.specs.InnerWants.{want}
use Rattle.yv_search.proofs.ListSteps.{get_same}
use Rattle.yv_search.proofs.WantSteps.{want_more}
use Rattle.yv_search.proofs.wants.add_wants.Goals as goal
use Rattle.yv_search.proofs.wants.add_wants.Goals.{in-Some+in_ok-push, in_default}

pub loop-statement-preserved : goal.loop-statement-preserved
loop-statement-preserved c =
    let ss : List Tree = trees c.args.root.now.children in
    let at : slice_get ss c.loop-statement.statement-index ≡ Some c.statement-item.result = get_same c.children-statement-items.result.now ss c.loop-statement.statement-index c.statement-item.result c.children-statement-items.ensures c.loop-statement-test.true c.statement-item.is in
    elim c.match-branch-2.branch [
      | in-Some+in_ok-push w ↦ rw w.list-is (want_more c.args.root.now ss c.loop-statement.statement-index c.statement-item.result (map want c.args.list.now.items) c.loop-statement.list.items w.push.new.self.items c.in_ok-found.field-0 at c.loop-statement.invariant c.in_ok-found.ensures (w.in_ok-push.ensures.items ∙ ap (λ o. c.loop-statement.list.items ++ cons_option o []) (sym w.in-Some.is)))
      | in_default w ↦ rw w.list-is (want_more c.args.root.now ss c.loop-statement.statement-index c.statement-item.result (map want c.args.list.now.items) c.loop-statement.list.items c.loop-statement.list.items c.in_ok-found.field-0 at c.loop-statement.invariant c.in_ok-found.ensures (sym (ap (λ o. c.loop-statement.list.items ++ cons_option o []) w.in_default.is ∙ append-nil c.loop-statement.list.items)))
    ]
