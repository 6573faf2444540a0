use Rattle.std.proofs.Common.{◌∙◌, Some, ap, cond}
use Rattle.yv_type_identities.specs.InnerRuns.{number_at}
use Rattle.yv_type_identities.proofs.PlaceSets.{test_is}
use Rattle.yv_type_identities.proofs.identity_places.IdentityPlaces.keep.Goals as goal

pub returns-clause-keeps : goal.returns-clause-keeps
returns-clause-keeps c = λ t other.
    c.in_ok-insert.ensures.updates.0 (other.file, other.offset)
    ∙ ap (λ b. cond b (Some c.args.number) (number_at c.args.self.now other)) (test_is c.args.place.file other.file c.args.place.offset other.offset)
