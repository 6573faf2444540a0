use Rattle.std.proofs.Common.{◌≡◌, sym, ◌∙◌, ap}
use Rattle.std.proofs.lemmas.Bool.{false≢true}
use Rattle.yv_base_tables.specs.Slots.{at}
use Rattle.yv_type_chains.proofs.draft.Draft.edges.Goals as goal

pub returns-in_ok-list : goal.returns-in_ok-list
returns-in_ok-list c =
    let same : c.get-followed.result ≡ at c.args.self.now.follows.items c.args.number = c.get-followed.ensures ∙ ap (λ xs. at xs c.args.number) c.deref.ensures.value in
    record {
      members = λ is. absurd (false≢true (sym c.if-is_kind.false ∙ c.is_kind.ensures ∙ is));
      followed = λ out j. (λ h. sym same ∙ (c.in_ok-list.ensures j).0 h, λ e. (c.in_ok-list.ensures j).1 (same ∙ e));
    }
