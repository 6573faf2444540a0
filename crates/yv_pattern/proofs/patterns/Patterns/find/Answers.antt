use Rattle.std.proofs.Common.{sym, ◌∙◌}
use Rattle.yv_pattern.proofs.Sources.{absent, found}
use Rattle.yv_pattern.proofs.patterns.Patterns.find.Goals as goal

pub returns-in_ok-clone-in-Some : goal.returns-in_ok-clone-in-Some
returns-in_ok-clone-in-Some c =
    let h = found (λ p. p.value) c.args.source.now c.self.inside.built.entries c.in-Some.pattern.now c.self.invariant (sym c.in-Some.ensures.value) in
    (c.in_ok-clone-in-Some.ensures.cases ∙ h.0, rw (← c.self.view_is) h.1)

pub returns-in-None : goal.returns-in-None
returns-in-None c = rw (← c.self.view_is) (absent c.args.source.now c.self.inside.built.entries (sym c.in-None.ensures.value))
