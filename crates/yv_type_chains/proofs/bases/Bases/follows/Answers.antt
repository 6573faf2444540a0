use Rattle.std.proofs.Common.{◌≡◌, sym, ◌∙◌, ap}
use Rattle.yv_base_tables.specs.Slots.{at}
use Rattle.yv_type_chains.proofs.bases.Bases.follows.Goals as goal

pub returns : goal.returns
returns c files t d =
    let same : c.get.result ≡ at c.args.self.now.follows.items c.args.number = c.get.ensures ∙ ap (λ xs. at xs c.args.number) c.deref.ensures.value in
    (λ e. (t.followed c.args.number d).0 (sym same ∙ e), λ h. same ∙ (t.followed c.args.number d).1 h)
