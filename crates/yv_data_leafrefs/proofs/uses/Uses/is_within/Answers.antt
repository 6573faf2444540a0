use Rattle.std.proofs.Common.{◌≡◌, ◌∙◌, ap, sym, []}
use Rattle.yv_data_leafrefs.specs.Findings.{places_in, places_of, Uses}
use Rattle.yv_data_leafrefs.proofs.uses.Uses.is_within.Goals as goal

pub returns-in-Some : goal.returns-in-Some
returns-in-Some c =
    let same : places_of c.args.self.now c.args.target.0 ≡ c.in-Some.places.now =
    ap (λ (es : Uses). places_of es c.args.target.0) (sym c.self.view_is) ∙ ap places_in (sym c.in-Some.ensures.value) in
    rw same c.is_within.ensures

pub returns-in-None : goal.returns-in-None
returns-in-None c =
    let same : places_of c.args.self.now c.args.target.0 ≡ [] =
    ap (λ (es : Uses). places_of es c.args.target.0) (sym c.self.view_is) ∙ ap places_in (sym c.in-None.ensures.value) in
    rw same (λ t. absurd (cc), λ h. absurd h.1)
