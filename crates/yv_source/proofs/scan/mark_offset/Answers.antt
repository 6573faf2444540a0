use Rattle.std.proofs.Common.{arith, refl, ◌∙◌}
use Rattle.yv_source.proofs.MachineViews.{length-until}
use Rattle.memchr.specs.Find.{is_byte2}
use Rattle.yv_source.specs.Inner.Scan.{begins_mark}
use Rattle.yv_source.proofs.Until.{found_at}
use Rattle.yv_source.proofs.scan.mark_offset.Goals as goal

pub returns-clause-value : goal.returns-clause-value
returns-clause-value c = c.unwrap_or.ensures ∙ found_at begins_mark (is_byte2 34 92) c.args.bytes.now (λ b rest. refl) c.memchr2.result c.memchr2.ensures

pub returns-clause-within : goal.returns-clause-within
returns-clause-within c =
    let is = c.unwrap_or.ensures ∙ found_at begins_mark (is_byte2 34 92) c.args.bytes.now (λ b rest. refl) c.memchr2.result c.memchr2.ensures in
    omega (arith, is, length-until (begins_mark) c.args.bytes.now)
