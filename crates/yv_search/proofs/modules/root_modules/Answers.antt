use Rattle.std.proofs.Common.{◌≡◌, ◌∙◌, refl, sym, ap, Some}
use Rattle.std.specs.List.{slice_get}
use Rattle.std.specs.Option.{option_map}
use Rattle.yv_search.specs.InnerNames.{has}
use Rattle.yv_search.proofs.ListSteps.{get_same}
use Rattle.yv_search.proofs.NameSteps.{root_more, root_same}
use Rattle.yv_search.proofs.modules.root_modules.Goals as goal
use Rattle.yv_search.proofs.modules.root_modules.Goals.{in-Some+in_ok-add, in_default}

pub loop-root-preserved : goal.loop-root-preserved
loop-root-preserved c = λ q.
    let at : slice_get c.args.roots.now c.loop-root.root-index ≡ Some c.root-item.result = get_same c.args.roots.now c.args.roots.now c.loop-root.root-index c.root-item.result refl c.loop-root-test.true c.root-item.is in
    elim c.match-root_module.branch [
      | in-Some+in_ok-add w ↦ rw w.names-is (root_more c.args.roots.now c.loop-root.root-index c.root-item.result w.in-Some.name.now q (has c.loop-root.names q) (has w.add.new.self q) at
          (sym (ap (option_map (λ t. t.now)) w.in-Some.is) ∙ c.root_module.ensures) (c.loop-root.invariant q) (w.in_ok-add.ensures q))
      | in_default w ↦ rw w.names-is (root_same c.args.roots.now c.loop-root.root-index c.root-item.result q (has c.loop-root.names q) at
          (sym (ap (option_map (λ t. t.now)) w.in_default.is) ∙ c.root_module.ensures) (c.loop-root.invariant q))
    ]
