use Rattle.std.proofs.Common.{sym}
use Rattle.yv_values.proofs.Keys.{within_found, none_kept}
use Rattle.yv_values.proofs.index.Index.is_within.Goals as goal

pub returns-in-Some : goal.returns-in-Some
returns-in-Some c =
    rw (← c.self.view_is, ← c.as_key.ensures) (within_found c.as_key.result.now c.self.inside.places.entries c.in-Some.places.now c.is_within.result c.args.first c.args.last c.self.invariant (sym c.in-Some.ensures.value) c.is_within.ensures)

pub returns-in-None : goal.returns-in-None
returns-in-None c =
    rw (← c.self.view_is, ← c.as_key.ensures) (λ t. absurd (cc), λ h. absurd (none_kept c.as_key.result.now c.self.inside.places.entries h.0 (sym c.in-None.ensures.value) h.1))
