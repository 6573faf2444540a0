use Rattle.yv_type_identities.proofs.NumbersByPlace.{numbers_more}
use Rattle.yv_type_identities.proofs.places.CandidatePlaces.numbers.Goals as goal

pub loop-key-preserved : goal.loop-key-preserved
loop-key-preserved c =
    numbers_more c.args.self.now c.args.keys.now c.loop-key.key-index c.loop-key.numbers.items c.at.result.now c.extend_from_slice.new.self.items c.loop-key-test.true c.at.ensures c.in_ok-extend_from_slice.ensures.items c.loop-key.invariant
