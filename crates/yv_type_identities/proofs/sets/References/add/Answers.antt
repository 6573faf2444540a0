use Rattle.yv_type_identities.proofs.PlaceSets.{added}
use Rattle.yv_type_identities.proofs.sets.References.add.Goals as goal

pub returns : goal.returns
returns c = added c.args.self.now.set c.insert.new.self c.args.identity c.in_ok-insert.ensures.updates
