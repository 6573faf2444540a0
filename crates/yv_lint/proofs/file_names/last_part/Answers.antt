use Rattle.std.proofs.Common.{◌∙◌, arith}
use Rattle.yv_lint.proofs.Cuts.{slash_step, byte_step}
use Rattle.yv_lint.proofs.file_names.last_part.Goals as goal
use Rattle.yv_lint.proofs.file_names.last_part.Goals.{then-byte-eq47, else-byte-eq47}

pub loop-i-preserved : goal.loop-i-preserved
loop-i-preserved c = elim c.if-byte-eq47.branch [
  | then-byte-eq47 w ↦ rw w.start-is (record { within = omega arith; same = slash_step c.args.path.now c.loop-i.start c.loop-i.i (omega arith) w.if-byte-eq47.true ∙ c.loop-i.invariant.same })
  | else-byte-eq47 w ↦ rw w.start-is (record { within = omega arith; same = byte_step c.args.path.now c.loop-i.start c.loop-i.i (omega arith) (omega arith) w.if-byte-eq47.false ∙ c.loop-i.invariant.same })
]
