use Rattle.std.proofs.Common.{◌∙◌, ℕ, List, ap, sym, subst}
use Rattle.std.specs.declared.alloc.Global.{Global}
use Rattle.std.specs.declared.vec.Vec.{Vec}
use Rattle.yv_base_tables.specs.Fronts.{StandsIn}
use Rattle.yv_base_tables.specs.InnerTree.{branches_in}
use Rattle.yv_base_tables.proofs.Rows.{no_row, row_at}
use Rattle.yv_base_tables.proofs.path_tree.PathTree.branches.Goals as goal

pub returns-in-Some-clause-all : goal.returns-in-Some-clause-all
returns-in-Some-clause-all c = λ paths step path is on.
    let found = c.in-Some.ensures.lookup in
    subst (λ (l : List ℕ). StandsIn l path)
    (ap (λ (l : List (Vec ℕ Global)). branches_in l c.args.front) (sym c.deref.ensures.value) ∙ row_at c.deref.result.now c.in-Some.branches.now c.args.front found.3.0 found.1
    ∙ sym c.deref-in-Some.ensures.value)
    (is.all_branches c.args.front step path on)

pub returns-in-None-clause-all : goal.returns-in-None-clause-all
returns-in-None-clause-all c = λ paths step path is on.
    let found = c.in-None.ensures.lookup in
    subst (λ (l : List ℕ). StandsIn l path)
    (ap (λ (l : List (Vec ℕ Global)). branches_in l c.args.front) (sym c.deref.ensures.value) ∙ no_row c.deref.result.now c.args.front found.3)
    (is.all_branches c.args.front step path on)
