use Rattle.std.proofs.Common.{map, drop, sym, ◌∙◌, ap, ◌+◌}
use Rattle.std.specs.List.{concat}
use Rattle.std.specs.Str.{bytes_eq}
use Rattle.yv_lint.proofs.Pieces.{pieces_none, pieces_some}
use Rattle.yv_lint.proofs.file_names.is_made_of.Goals as goal

pub returns-in-None : goal.returns-in-None
returns-in-None c =
    sym (pieces_none c.loop-piece.rest.now c.args.pieces.now c.loop-piece.piece-index _ c.loop-piece-test.true c.in-None.ensures.cases) ∙ c.loop-piece.invariant

pub loop-piece-preserved : goal.loop-piece-preserved
loop-piece-preserved c =
    ap (λ text. bytes_eq text (concat (map (λ p. p.now) (drop (c.loop-piece.piece-index + 1) c.args.pieces.now)))) c.in-Some.ensures.cases.1
    ∙ sym (pieces_some c.loop-piece.rest.now c.args.pieces.now c.loop-piece.piece-index _ c.loop-piece-test.true c.in-Some.ensures.cases.0) ∙ c.loop-piece.invariant
