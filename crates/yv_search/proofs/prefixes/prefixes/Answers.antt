use Rattle.std.proofs.Common.{◌≡◌, ◌∙◌, List, Bool, Option, Some, sym, ap, subst, if◌then◌else◌}
use Rattle.std.specs.List.{slice_get}
use Rattle.yv_text_statement.specs.Tree.{Tree, trees}
use Rattle.yv_search.specs.InnerModules.{row_at, lookup}
use Rattle.yv_search.specs.InnerPrefixes.{row_of}
use Rattle.yv_search.proofs.ListSteps.{get_same}
use Rattle.yv_search.proofs.TableSteps.{own_first, no_own, row_more, rows_mean}
use Rattle.yv_search.proofs.prefixes.prefixes.Goals as goal
use Rattle.yv_search.proofs.prefixes.prefixes.Goals.{then-is_link+in_ok-add_prefix-2, else-is_link}

pub loop-statement-preserved : goal.loop-statement-preserved
loop-statement-preserved c = λ q.
    let ss : List Tree = trees c.args.root.now.children in
    let s : Tree = c.statement-item.result in
    let at : slice_get ss c.loop-statement.statement-index ≡ Some s = get_same c.children-statement-items.result.now ss c.loop-statement.statement-index s c.children-statement-items.ensures c.loop-statement-test.true c.statement-item.is in
    elim c.if-is_link.branch [
      | then-is_link+in_ok-add_prefix-2 w ↦ rw w.table-is (row_more (lookup c.args.modules.now) c.args.root.now ss c.loop-statement.statement-index s q (row_at c.loop-statement.table q) (row_at w.add_prefix-then-is_link.new.prefixes q) at (c.loop-statement.invariant q)
          (w.in_ok-add_prefix-2.ensures q ∙ ap (λ (b : Bool). if b then row_of (lookup c.args.modules.now) (row_at c.loop-statement.table q) s q else row_at c.loop-statement.table q) (sym w.if-is_link.true ∙ c.is_link.ensures)))
      | else-is_link w ↦ rw w.table-is (row_more (lookup c.args.modules.now) c.args.root.now ss c.loop-statement.statement-index s q (row_at c.loop-statement.table q) (row_at c.loop-statement.table q) at (c.loop-statement.invariant q)
          (ap (λ (b : Bool). if b then row_of (lookup c.args.modules.now) (row_at c.loop-statement.table q) s q else row_at c.loop-statement.table q) (sym w.if-is_link.false ∙ c.is_link.ensures)))
    ]
