use Rattle.std.proofs.Common.{◌≡◌, ℕ, map, take}
use Rattle.std.specs.List.{slice_get}
use Rattle.yv_expand_uses.specs.Paths.{path_in}
use Rattle.yv_expand_uses.specs.Spots.{own_module_file}
use Rattle.yv_expand_uses.specs.InnerPlan.{whole_in}
use Rattle.yv_link_scopes.specs.Views.{files_in, rows_in}
use Rattle.yv_expand_uses.proofs.plan.Plan.module_paths.Given as goal

abbrev pub invariant-loop-augment : goal.invariant-loop-augment
invariant-loop-augment l =
    map (λ (a : ℕ). path_in (whole_in l.self) (own_module_file (files_in l.self.rows.now) (slice_get (rows_in l.self.rows.now) a)) a) (take l.augment-index l.self.augments.now)
    ≡ map (λ p. p.items) l.paths.items
