use Rattle.std.proofs.Common.{◌≡◌, ◌∙◌, ap, sym, []}
use Rattle.yv_data_leafrefs.specs.Findings.{Indexes, index_of, pairs_in}
use Rattle.yv_data_leafrefs.proofs.targets.Targets.within_or_among.Goals as goal

pub returns-in-Some-clause-finds : goal.returns-in-Some-clause-finds
returns-in-Some-clause-finds c =
    let same : index_of c.args.self.now c.args.target.0 ≡ c.in-Some.index.now =
    ap (λ (es : Indexes). index_of es c.args.target.0) (sym c.self.view_is) ∙ ap pairs_in (sym c.in-Some.ensures.value) in
    rw same c.within_or_among.ensures.finds

pub returns-in-None-clause-finds : goal.returns-in-None-clause-finds
returns-in-None-clause-finds c =
    let same : index_of c.args.self.now c.args.target.0 ≡ [] =
    ap (λ (es : Indexes). index_of es c.args.target.0) (sym c.self.view_is) ∙ ap pairs_in (sym c.in-None.ensures.value) in
    rw same (rw c.new-none.ensures at c.within_or_among-in-None.ensures.finds)
