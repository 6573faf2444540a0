use Rattle.std.proofs.Common.{◌-◌, length, refl, arith}
use Rattle.yv_tree.proofs.Blanks.{blanks_step}
use Rattle.yv_tree.proofs.line.put_blanks.Goals as goal

pub loop-left-preserved : goal.loop-left-preserved
loop-left-preserved g c =
    let piece = c.blanks_within-piece.result.now in
    record {
      within = omega (arith, c.loop-left.invariant.within);
      put = blanks_step c.args.blanks c.loop-left.left (c.loop-left.left - length piece) piece
          (g.P.Paper.output c.args.page.now c.args.paper.now) (g.P.Paper.output c.loop-left.page c.loop-left.paper) (g.P.Paper.output c.put.new.page c.put.new.self)
          c.loop-left.invariant.within c.blanks_within-piece.ensures.within c.blanks_within-piece.ensures.blanks refl c.loop-left.invariant.put c.put.ensures;
    }
