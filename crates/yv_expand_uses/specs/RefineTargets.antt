-- What refines mean (RFC 7950, sections 6.5 and 7.13.2).
use Rattle.std.specs.Prelude.{◌≡◌, ℕ, List, [], map, if◌then◌else◌, Option, Some, None}
use Rattle.std.specs.Option.{option_and_then}
use Rattle.yv_link_scopes.specs.Rows.{Row}
use Rattle.yv_base_tables.specs.Families.{numbers_at}
use Rattle.yv_expand_rounds.specs.declared.end.End.{End}
use Rattle.yv_expand_rounds.specs.declared.end.End.TheVariants.{Node, Start}
use Rattle.yv_expand_rounds.specs.declared.label.Label.{Label}
use Rattle.yv_expand_rounds.specs.Paths.{path_end}
use Rattle.yv_expand_rounds.specs.Turns.{State}
use Rattle.yv_expand_refines.specs.Targets.{RefineMeaning}
use Rattle.yv_expand_refines.specs.declared.targets.Refinements.{Refinements}
use Rattle.yv_expand_uses.specs.Paths.{path_in}
use Rattle.yv_expand_statements.specs.Kinds.{is_uses}
use Rattle.yv_expand_uses.specs.Spots.{Whole}
use Rattle.yv_expand_uses.specs.declared.spot.Spot.{Spot}
use Rattle.yv_expand_statements.specs.StatementBlocks.{is_refine}

-- for each refine the block in which it is
abbrev pub refine_places : List Row → List (Option ℕ)
refine_places rows = map (λ r. if is_refine r then Some r.scope else None) rows

-- the refines of a block, in order
abbrev pub refines_in : List Row → (block : ℕ) → List ℕ
refines_in rows block = numbers_at (refine_places rows) block

-- a case that is left out isn't a node
abbrev pub node_at : End → Option ℕ
node_at (Node i) = Some i
node_at _ = None

-- the node that a refine of a uses means, among what the uses gives: what its own augments give is
-- nowhere yet
abbrev pub node_meant : Whole → List Label → Spot → (end refine : ℕ) → State → Option ℕ
node_meant w labels s end refine st =
    option_and_then node_at
    (path_end labels st.groups end (path_in w s.module_file refine) (Start s.group))

-- what those of the item of this number mean, if it is a uses, when all items after it have entered
abbrev pub refined_at : Whole → List Label → Spot → (number end : ℕ) → State → List RefineMeaning
refined_at w labels s number end st =
    if is_uses s.label.kind
    then map (λ k. record { item = number; refine = k; target = node_meant w labels s end k st })
    (refines_in w.rows s.statement)
    else []

-- the same refine targets at the same places, and the same copies
pub record SameRefinements (old new : Refinements) : Type 0 where
  pub refine_targets : new.refine_targets.items ≡ old.refine_targets.items
  pub uses : new.uses.items ≡ old.uses.items
