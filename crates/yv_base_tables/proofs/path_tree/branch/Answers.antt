use Rattle.std.proofs.Common.{◌++◌, ◌∷◌, [], ℕ, List, ◌∙◌, ap, sym}
use Rattle.std.specs.declared.alloc.Global.{Global}
use Rattle.std.specs.declared.vec.Vec.{Vec}
use Rattle.yv_base_tables.proofs.Rows.{row_at, row_set, rows_left}
use Rattle.yv_base_tables.proofs.path_tree.branch.Goals as goal

pub returns-in_ok-push-clause-here : goal.returns-in_ok-push-clause-here
returns-in_ok-push-clause-here c = λ less.
    let rows : List (Vec ℕ Global) = c.args.branches.now in
    let row : Vec ℕ Global = c.index-branches-front.result in
    let is = c.index-branches-front.is in
    row_set rows c.push.new.self c.args.front less ∙ c.in_ok-push.ensures.items
    ∙ ap (λ (l : List ℕ). l ++ c.args.path ∷ []) (sym (ap (λ (v : Vec ℕ Global). v.items) is) ∙ sym (row_at rows row c.args.front less is))

pub returns-in_ok-push-clause-others : goal.returns-in_ok-push-clause-others
returns-in_ok-push-clause-others c = rows_left c.args.branches.now c.push.new.self c.args.front
