use Rattle.std.proofs.Common.{◌≡◌, length, refl, arith}
use Rattle.std.proofs.lemmas.Option.{slice_get_read}
use Rattle.yv_text_statement.proofs.Least.{least_more}
use Rattle.yv_schema.specs.Refusals.{BadFile}
use Rattle.yv_schema.proofs.conformance.first_bad_file.Goals as goal

pub loop-number-preserved : goal.loop-number-preserved
loop-number-preserved c =
    let at_file = slice_get_read c.args.files.now _ c.loop-number.number c.index-files-number.result refl c.loop-number-test.true c.index-files-number.is in
    least_more c.args.files.now BadFile c.loop-number.number c.index-files-number.result _ _ _ at_file c.lesser-best.ensures c.loop-number.invariant c.bad_file-here.ensures

pub returns : goal.returns
returns c =
    let all : c.loop-number.number ≡ length c.args.files.now = omega arith in
    rw (← all) c.loop-number.invariant
