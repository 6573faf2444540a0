use Rattle.std.proofs.Common.{refl, rules}
use Rattle.std.proofs.lemmas.Option.{slice_get_read}
use Rattle.yv_values.proofs.numbered_members.stands_after.Goals as goal

pub returns-in-Some : goal.returns-in-Some
returns-in-Some c = λ t h. (
  c.in-Some.entry.now,
  slice_get_read c.args.members.now _ _ c.in-Some.entry.now refl c.in-Some.ensures.lookup.3.0 c.in-Some.ensures.lookup.1,
  search rules,
)
