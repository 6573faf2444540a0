-- Only private clauses cite this: where a path leads.
use Rattle.std.specs.Prelude.{ℕ, List, Option}
use Rattle.std.specs.Option.{option_and_then}
use Rattle.yv_expand_rounds.specs.declared.end.End.TheVariants.{Start}
use Rattle.yv_expand_rounds.specs.declared.label.Label.{Label}
use Rattle.yv_expand_rounds.specs.Paths.{path_end}
use Rattle.yv_expand_rounds.specs.Turns.{State}
use Rattle.yv_expand_uses.specs.RefineTargets.{node_at}

-- the node to which a path leads from a group
abbrev pub target_of_path : List Label → State → (end group : ℕ) → List ℕ → Option ℕ
target_of_path labels st end group path =
    option_and_then node_at (path_end labels st.groups end path (Start group))
