use Rattle.std.proofs.Common.{refl}
use Rattle.std.proofs.lemmas.Option.{slice_get_read}
use Rattle.yv_expand_changes.proofs.properties.known_at.Goals as goal

pub returns-in-Some : goal.returns-in-Some
returns-in-Some c =
    c.requires c.args.number c.in-Some.said.now
    (slice_get_read c.args.each.now _ c.args.number c.in-Some.said.now refl c.in-Some.ensures.lookup.3.0 (c.in-Some.ensures.lookup.3.1 c.in-Some.said.now))
