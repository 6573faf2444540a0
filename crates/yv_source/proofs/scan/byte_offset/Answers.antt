use Rattle.std.proofs.Common.{arith, refl, ◌∙◌}
use Rattle.yv_source.proofs.MachineViews.{length-until}
use Rattle.memchr.specs.Find.{is_byte}
use Rattle.yv_source.specs.Pieces.{begins}
use Rattle.yv_source.proofs.Until.{found_at}
use Rattle.yv_source.proofs.scan.byte_offset.Goals as goal

pub returns-clause-value : goal.returns-clause-value
returns-clause-value c = c.unwrap_or.ensures ∙ found_at (begins c.args.byte) (is_byte c.args.byte) c.args.bytes.now (λ b rest. refl) c.memchr.result c.memchr.ensures

pub returns-clause-within : goal.returns-clause-within
returns-clause-within c =
    let is = c.unwrap_or.ensures ∙ found_at (begins c.args.byte) (is_byte c.args.byte) c.args.bytes.now (λ b rest. refl) c.memchr.result c.memchr.ensures in
    omega (arith, is, length-until (begins c.args.byte) c.args.bytes.now)
