use Rattle.std.proofs.Common.{◌≡◌, ◌∙◌, List, Some, ap, sym, subst}
use Rattle.std.proofs.lemmas.Option.{same_Some, slice_get-get_or}
use Rattle.yv_expand_rounds.specs.declared.arrivals.Arrival.{Arrival}
use Rattle.yv_expand_rounds.specs.Arrivals.{AreArrivals}
use Rattle.yv_base_tables.specs.InnerTree.{IsPathTree}
use Rattle.yv_expand_uses.specs.declared.refine_targets.UsesTargets.{UsesTargets}
use Rattle.yv_expand_uses.proofs.refine_targets.RefineTargets.paths_that_lead.Goals as goal

pub returns : goal.returns
returns c = λ labels st all aimed is at tree.
    let found : UsesTargets = c.index.result.now in
    let here : found ≡ aimed = same_Some found aimed (sym (slice_get-get_or c.args.self.now.aimed.items c.args.number found c.requires ∙ ap Some (sym c.index.ensures)) ∙ at) in
    let are = c.in_ok-arrivals.ensures labels st all is (subst (λ (a : UsesTargets). IsPathTree all a.paths) (sym here) tree) in
    c.read.ensures labels st c.args.end c.args.group all
    (subst (λ (l : List Arrival). AreArrivals labels st.groups c.args.end c.args.group all l) (sym c.deref.ensures.value) are)
