use Rattle.std.proofs.Common.{◌≡◌, ◌<◌, ◌+◌, ℕ, List, Some, length, take, sym, ◌∙◌, ap, arith}
use Rattle.std.proofs.lemmas.List.{length-take, take_more}
use Rattle.yv_base_tables.proofs.PathTreeGrowth.{after_err}
use Rattle.yv_base_tables.proofs.path_tree.PathTree.add.Goals as goal

pub loop-place-preserved : goal.loop-place-preserved
loop-place-preserved c = λ paths is.
    let steps : List ℕ = c.args.steps.now in
    let i : ℕ = c.loop-place.place in
    let less : i < length steps = omega (arith, c.loop-place-test.true) in
    let deep : i + 1 ≡ length (take i steps) + 1 = omega (arith, length-take i steps, less) in
    let before = c.loop-place.invariant paths is in
    let after = c.in_ok-path.ensures.adds before.all (take i steps) before.tree before.at deep in
    record {
      all = after.all;
      tree = after.tree;
      kept = λ path some there. after.kept path some (before.kept path some there);
      at = after.at ∙ ap Some (sym (take_more steps i 0 less));
    }

pub returns-in_err-path : goal.returns-in_err-path
returns-in_err-path c = λ paths is.
    let before = c.loop-place.invariant paths is in
    after_err _ c.from_residual.result c.from_residual.ensures.0 (record {
      all = before.all;
      tree = c.in_err-path.ensures.keeps before.all (take c.loop-place.place c.args.steps.now) before.tree before.at;
      kept = before.kept;
    })
