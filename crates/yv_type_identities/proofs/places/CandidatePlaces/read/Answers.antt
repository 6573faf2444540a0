use Rattle.std.proofs.Common.{length, refl, arith}
use Rattle.std.proofs.lemmas.Option.{slice_get_read}
use Rattle.yv_type_identities.proofs.NumbersByPlace.{placed_none, placed_more, placed_all}
use Rattle.yv_type_identities.proofs.places.CandidatePlaces.read.Goals as goal

pub loop-number-init : goal.loop-number-init
loop-number-init c = placed_none c.args.candidates.now c.new-places.result c.new-places.ensures

pub loop-number-preserved : goal.loop-number-preserved
loop-number-preserved c =
    placed_more c.args.candidates.now c.loop-number.number c.index-candidates-number.result c.loop-number.places c.add.new.self (slice_get_read c.args.candidates.now (length c.args.candidates.now) c.loop-number.number c.index-candidates-number.result refl c.loop-number-test.true c.index-candidates-number.is) c.in_ok-add.ensures c.loop-number.invariant

pub returns : goal.returns
returns c = placed_all c.args.candidates.now c.loop-number.number c.loop-number.places (omega (arith, c.loop-number-test.false, c.loop-number.auto.number-end)) c.loop-number.invariant
