use Rattle.std.proofs.Common.{◌≡◌, ap, sym, ◌∙◌}
use Rattle.std.specs.List.{slice_get}
use Rattle.std.proofs.lemmas.Option.{none-some, same_Some}
use Rattle.yv_expand_rounds.specs.InnerGroups.{displaced_item}
use Rattle.yv_expand_rounds.specs.Paths.{first_named}
use Rattle.yv_expand_rounds.proofs.FirstNodeLemmas.{keeps_but, node_named}
use Rattle.yv_expand_rounds.proofs.group.Group.displaced_node.Goals as goal

pub returns-in-Some : goal.returns-in-Some
returns-in-Some c = λ members is n i was.
    keeps_but c.args.labels.now members c.args.item n i c.displaced_item.result
    (λ named.
    let same : c.in-Some.name ≡ n =
    same_Some c.in-Some.name n (sym c.in-Some.is ∙ c.node_name.ensures ∙ node_named (slice_get c.args.labels.now c.args.item) n named) in
    c.displaced_item.ensures
    ∙ ap (λ o. displaced_item c.args.labels.now o c.args.item)
    (c.first.ensures members is ∙ ap (λ m. first_named c.args.labels.now m members) same))
    was

pub returns-in-None : goal.returns-in-None
returns-in-None c = λ members is n i was.
    keeps_but c.args.labels.now members c.args.item n i _
    (λ named. absurd (none-some n (sym c.in-None.is ∙ c.node_name.ensures ∙ node_named (slice_get c.args.labels.now c.args.item) n named)))
    was
