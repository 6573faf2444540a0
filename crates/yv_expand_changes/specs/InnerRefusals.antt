-- Only private clauses cite this: the items of the final tree as a set, and what is wrong with the
-- refines of copies that are alike.
use Rattle.std.specs.Prelude.{◌≡◌, ℕ, true, List, length, map, if◌then◌else◌, Option, Some, None, slice_get}
use Rattle.std.specs.declared.alloc.Global.{Global}
use Rattle.std.specs.declared.vec.Vec.{Vec}
use Rattle.std.specs.BTreeSet.{BTreeSet, contains}
use Rattle.std.specs.Ordering.{nat_cmp}
use Rattle.yv_text_statement.specs.Order.{IsLeast, refusal_at}
use Rattle.yv_text_statement.specs.declared.refusal.Code.{Code}
use Rattle.yv_text_statement.specs.declared.refusal.Code.TheVariants as code
use Rattle.yv_text_statement.specs.declared.refusal.Refusal.{Refusal}
use Rattle.yv_link_scopes.specs.Files.{Files}
use Rattle.yv_link_scopes.specs.Rows.{Row}
use Rattle.yv_expand_rounds.specs.declared.row.ItemRow.{ItemRow}
use Rattle.yv_expand_uses.specs.declared.spot.Spot.{Spot}
use Rattle.yv_expand_refines.specs.Targets.{targets_at, meaning_of}
use Rattle.yv_expand_refines.specs.declared.targets.RefineTarget.{RefineTarget}
use Rattle.yv_expand_changes.specs.Refusals.{BadRefines, IsThere}
use Rattle.yv_expand_changes.specs.InnerAlike.{is_fit_at, ways_of}
use Rattle.yv_expand_changes.specs.declared.refusals.Judgement.{Judgement}
use Rattle.yv_expand_changes.specs.declared.ways.Way.{Way}

-- these are the numbers of the items of the final tree
pub record AreItems (items : BTreeSet ℕ) (tree : List ItemRow) : Type 0 where
  pub there : (item : ℕ) → contains nat_cmp items item ≡ true → IsThere tree item
  pub all : (item : ℕ) → IsThere tree item → contains nat_cmp items item ≡ true

-- what is wrong with a refine at copies that agree on where its path leads, if anything is
abbrev pub code_at : Files → (refine : ℕ) → Option Way → Option Code
code_at files refine None = Some code.RefineTarget
code_at files refine (Some w) =
    if is_fit_at files w.statement refine then None else Some code.BadRefine

-- the refusal of a statement with which this is wrong
abbrev pub refusal_of_code : Option Code → Option Row → Option Refusal
refusal_of_code None row = None
refusal_of_code (Some c) None = None
refusal_of_code (Some c) (Some r) = Some (refusal_at c r.file r.head)

-- the least refusal of the refines of each copy that is there and agrees on these ways
abbrev pub IsLeastOf : Files → List RefineTarget → List (Option Way) → Option Refusal → Type 0
IsLeastOf files refine_targets ways least =
    (spots : List Spot) (targets : List (Option ℕ)) (tree : List ItemRow) (item : ℕ)
    → ways ≡ ways_of spots targets → IsThere tree item
    → IsLeast (BadRefines files spots (map (meaning_of item targets) refine_targets) tree) least

-- what was judged of the refines of a uses
abbrev pub IsJudged : Files → List RefineTarget → Option Judgement → Type 0
IsJudged files refine_targets None = Unit {0}
IsJudged files refine_targets (Some j) = IsLeastOf files refine_targets j.ways.items j.least

-- what was judged of those at each place
pub record AreJudged (files : Files) (refine_targets : List (Vec RefineTarget Global))
    (judged : List (Option Judgement)) : Type 0 where
  pub each : length judged ≡ length refine_targets
  pub are : (place : ℕ) (j : Option Judgement) → slice_get judged place ≡ Some j
      → IsJudged files (targets_at refine_targets place) j
