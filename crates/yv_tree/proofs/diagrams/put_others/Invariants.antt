use Rattle.std.proofs.Common.{[], ◌∷◌, take}
use Rattle.yv_base_streams.specs.Pages.{Adds}
use Rattle.yv_tree.specs.Lines.{behind_each}
use Rattle.yv_tree.proofs.diagrams.put_others.Given as goal

-- the first diagrams were put
abbrev pub invariant-loop-diagram : goal.invariant-loop-diagram
invariant-loop-diagram g l =
    Adds (behind_each (10 ∷ []) (take l.diagram-index l.diagrams)) (g.P.Paper.output l.initial.page l.initial.paper) (g.P.Paper.output l.page l.paper)
