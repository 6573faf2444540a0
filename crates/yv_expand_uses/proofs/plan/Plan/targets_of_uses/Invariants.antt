use Rattle.std.proofs.Common.{◌≡◌, Some, map, take, List, ℕ}
use Rattle.std.specs.List.{slice_get}
use Rattle.yv_link_scopes.specs.Views.{rows_in}
use Rattle.yv_base_tables.specs.InnerTree.{IsPathTree}
use Rattle.yv_expand_uses.specs.Paths.{path_in}
use Rattle.yv_expand_uses.specs.InnerPlan.{whole_in}
use Rattle.yv_expand_uses.specs.RefineTargets.{refines_in}
use Rattle.yv_expand_uses.proofs.plan.Plan.targets_of_uses.Given as goal

abbrev pub invariant-loop-refine : goal.invariant-loop-refine
invariant-loop-refine l = record {
  all : List (List ℕ);
  tree : IsPathTree all l.paths;
  refines : map (λ a. a.refine) l.refine_targets.items ≡ take l.refine-index (refines_in (rows_in l.self.rows.now) l.statement);
  each : map (λ a. slice_get all a.path) l.refine_targets.items
      ≡ map (λ k. Some (path_in (whole_in l.self) l.module_file k)) (take l.refine-index (refines_in (rows_in l.self.rows.now) l.statement));
}
