use Rattle.std.proofs.Common.{◌++◌, ◌∷◌, [], ◌+◌, ℕ, List, ap, arith, sym, subst, ◌∙◌}
use Rattle.yv_base_tables.specs.Fronts.{HaveFronts}
use Rattle.yv_expand_rounds.specs.declared.arrivals.Arrival.{Arrival}
use Rattle.yv_expand_rounds.proofs.PathArrivals.{AreClosed, IsDeep, all_arrive, closed_all, closed_deepest, deep_first, deep_more, root}
use Rattle.yv_expand_rounds.proofs.augmentation.Augmentation.walk_all.Goals as goal
use Rattle.yv_expand_rounds.proofs.augmentation.Augmentation.walk_all.Goals.{else-loop-test, then-loop-test+then-followed-len}

pub loop-init : goal.loop-init
loop-init c = λ labels st all is tree.
    deep_first labels st.groups c.args.limit all c.args.start c.push.new.self.items
    (c.in_ok-push.ensures.items ∙ ap (λ l. l ++ root labels st.groups c.args.limit all c.args.start ∷ []) c.new-arrivals.ensures.items) (c.paths_have_fronts.ensures all c.args.paths.now tree)

pub loop-preserved : goal.loop-preserved
loop-preserved c = λ labels st all is tree.
    let found : List Arrival = c.loop.arrivals.items in
    subst (λ (n : ℕ). IsDeep labels st.groups c.args.limit all c.args.start (c.loop.counter + 1) n c.deepen.new.found.items) (sym c.in_ok-followed.ensures.count)
    (deep_more labels st.groups c.args.limit all c.args.start c.loop.counter c.loop.followed found c.deepen.new.found.items
    (c.loop.invariant labels st all is tree) (c.in_ok-followed.ensures.finds labels st.groups all is.places tree))

pub returns : goal.returns
returns c = λ labels st all is tree.
    let found : List Arrival = c.loop.arrivals.items in
    let deep = c.loop.invariant labels st all is tree in
    let fronts : HaveFronts all = c.paths_have_fronts.ensures all c.args.paths.now tree in
    let closed : AreClosed labels st.groups c.args.limit all c.args.start found = elim c.loop-test.branch [
      | else-loop-test w ↦
          closed_deepest labels st.groups c.args.limit all c.args.start c.loop.counter c.loop.followed found deep
          (λ path steps at. let most = c.deepest-end.ensures.most all path steps tree at in let t = w.loop-test.false in omega (arith, most, t))
      | then-loop-test+then-followed-len w ↦
          closed_all labels st.groups c.args.limit all c.args.start c.loop.counter c.loop.followed found deep
          (let same = w.if-followed-len.true in let n = w.len.ensures in omega (arith, same, n))
    ] in
    all_arrive labels st.groups c.args.limit all c.args.start c.loop.counter c.loop.followed found fronts deep closed
