use Rattle.std.proofs.Common.{[], set, ◌∙◌, ap}
use Rattle.std.proofs.lemmas.List.{map-set}
use Rattle.yv_expand_rounds.specs.declared.group.Group.{Group}
use Rattle.yv_expand_rounds.specs.InnerTreeList.{groups_in}
use Rattle.yv_expand_rounds.proofs.tree_list.take_group.Goals as goal

pub returns-clause-others : goal.returns-clause-others
returns-clause-others c =
    map-set (λ (g : Group). g.members.items) c.args.groups.now.items c.args.group c.replace-taken.new.dest
    ∙ ap (λ ms. set (groups_in c.args.groups.now.items) c.args.group ms)
    (ap (λ (g : Group). g.members.items) c.replace-taken.ensures.after ∙ (c.new-2.ensures []).members_are)
