use Rattle.std.proofs.Common.{◌≡◌, ◌<◌, ◌≤◌, ◌∙◌, ◌∷◌, [], ℕ, List, Some, length, get_or, map, ap, arith}
use Rattle.std.specs.List.{slice_get}
use Rattle.std.proofs.lemmas.List.{take_all}
use Rattle.yv_expand_refines.specs.declared.targets.RefineTarget.{RefineTarget}
use Rattle.yv_expand_uses.specs.Paths.{path_in}
use Rattle.yv_expand_uses.specs.InnerPlan.{whole_in}
use Rattle.yv_expand_uses.specs.RefineTargets.{refines_in}
use Rattle.yv_expand_uses.specs.Spots.{Whole}
use Rattle.yv_expand_uses.proofs.TargetLists.{aimed_more, aims_more}
use Rattle.yv_expand_uses.proofs.plan.Plan.targets_of_uses.Goals as goal

pub loop-refine-init : goal.loop-refine-init
loop-refine-init c = record {
  all = [] ∷ [];
  tree = c.in_ok-paths.ensures;
  refines = ap (map (λ (a : RefineTarget). a.refine)) c.in_ok-refine_targets.ensures.items;
  each = ap (map (λ (a : RefineTarget). slice_get ([] ∷ []) a.path)) c.in_ok-refine_targets.ensures.items;
}

pub loop-refine-preserved : goal.loop-refine-preserved
loop-refine-preserved c =
    let w : Whole = whole_in c.args.self.now in
    let refines : List ℕ = refines_in w.rows c.args.statement in
    let items : List ℕ = c.refines_in-refines.result.now in
    let told : items ≡ refines = c.refines_in-refines.ensures in
    let i : ℕ = c.loop-refine.refine-index in
    let less : i < length refines = (let size = ap length told in omega (arith, size, c.loop-refine-test.true)) in
    let refine : ℕ = get_or items i 0 in
    let is : refine ≡ get_or refines i 0 = ap (λ (l : List ℕ). get_or l i 0) told in
    let a : RefineTarget = record { refine = refine; path = c.in_ok-path.path } in
    let before = c.loop-refine.invariant in
    let added = c.in_ok-path.ensures before.all before.tree in
    let path : List ℕ = path_in w c.args.module_file refine in
    let steps : c.deref.result.now ≡ path = c.deref.ensures.value ∙ c.in_ok-steps.ensures in
    record {
      all = added.all;
      tree = added.tree;
      refines = aims_more refines i c.loop-refine.refine_targets.items c.push.new.self.items a less is c.in_ok-push.ensures.items before.refines;
      each = aimed_more refines (path_in w c.args.module_file) i c.loop-refine.refine_targets.items c.push.new.self.items a before.all added.all less added.kept
          (added.at ∙ ap Some (steps ∙ ap (path_in w c.args.module_file) is)) c.in_ok-push.ensures.items before.each;
    }

pub returns : goal.returns
returns c =
    let w : Whole = whole_in c.args.self.now in
    let refines : List ℕ = refines_in w.rows c.args.statement in
    let i : ℕ = c.loop-refine.refine-index in
    let past : length refines ≤ i = (let size = ap length c.refines_in-refines.ensures in omega (arith, size, c.loop-refine-test.false)) in
    let whole = take_all i refines past in
    let are = c.loop-refine.invariant in
    record {
      all = are.all;
      tree = are.tree;
      refine_targets = record { refines = are.refines ∙ whole; each = are.each ∙ ap (map (λ k. Some (path_in w c.args.module_file k))) whole };
    }
