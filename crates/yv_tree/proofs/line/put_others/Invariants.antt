use Rattle.std.proofs.Common.{codes, map, take}
use Rattle.yv_base_streams.specs.Pages.{Adds}
use Rattle.yv_tree.specs.Lines.{behind_each, key_name}
use Rattle.yv_tree.proofs.line.put_others.Given as goal

-- the first names were put
abbrev pub invariant-loop-key : goal.invariant-loop-key
invariant-loop-key g l =
    Adds (behind_each (codes " ") (map key_name (take l.key-index l.keys))) (g.P.Paper.output l.initial.page l.initial.paper) (g.P.Paper.output l.page l.paper)
