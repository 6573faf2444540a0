use Rattle.std.proofs.Common.{◌≡◌, ℕ, List, Option, map}
use Rattle.yv_text_statement.specs.Order.{Among, IsLeast}
use Rattle.yv_link_scopes.specs.Views.{lent_in}
use Rattle.yv_expand_rounds.specs.declared.row.ItemRow.{ItemRow}
use Rattle.yv_expand_uses.specs.declared.spot.Spot.{Spot}
use Rattle.yv_expand_refines.specs.Targets.{meaning_of}
use Rattle.yv_expand_changes.specs.Refusals.{IsThere, IsWrong}
use Rattle.yv_expand_changes.specs.InnerAlike.{ways_of}
use Rattle.yv_expand_changes.proofs.refusals.least_of.Given as goal

abbrev pub invariant-loop-refine_target : goal.invariant-loop-refine_target
invariant-loop-refine_target l =
    (spots : List Spot) (targets : List (Option ℕ)) (tree : List ItemRow) (item : ℕ) → l.ways ≡ ways_of spots targets → IsThere tree item
    → IsLeast (Among (map (meaning_of item targets) l.refine_targets) (λ place x. IsWrong (lent_in l.rows) spots tree x) l.refine_target-index) l.least
