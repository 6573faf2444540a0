use Rattle.std.proofs.Common.{codes, map, take}
use Rattle.yv_base_streams.specs.Pages.{Adds}
use Rattle.yv_tree.specs.Lines.{behind_each, shown_piece}
use Rattle.yv_tree.proofs.line.put_pieces.Given as goal

-- the first pieces were put
abbrev pub invariant-loop-piece : goal.invariant-loop-piece
invariant-loop-piece g l =
    Adds (behind_each (codes "/") (map (shown_piece l.module_file) (take l.piece-index l.pieces))) (g.P.Paper.output l.initial.page l.initial.paper) (g.P.Paper.output l.page l.paper)
