use Rattle.std.proofs.Common.{◌≡◌, ◌∙◌, List, subst, sym}
use Rattle.yv_expand_rounds.specs.declared.label.Label.{Label}
use Rattle.yv_expand_rounds.specs.Groups.{Groups}
use Rattle.yv_expand_rounds.specs.Tree.{AreRows}
use Rattle.yv_expand_rounds.specs.InnerTreeList.{StandAtMostOnce, groups_in}
use Rattle.yv_expand_rounds.proofs.GroupMembers.{are_members}
use Rattle.yv_expand_rounds.proofs.GroupRemoval.{stand_at_most_once}
use Rattle.yv_expand_rounds.proofs.augmentation.Augmentation.into_rows.Goals as goal

pub returns : goal.returns
returns c = λ labels st is stand.
    let same : groups_in c.args.self.places.groups.items ≡ st.groups =
    are_members labels st.groups c.args.self.places.groups.items is.places.groups_are in
    subst (λ (ls : List Label). AreRows ls st.groups c.in_ok-rows.rows.items) (c.deref.ensures.value ∙ is.places.labels_are)
    (subst (λ (gs : Groups). AreRows c.deref.result.now gs c.in_ok-rows.rows.items) same
    (c.in_ok-rows.ensures (subst StandAtMostOnce (sym same) (stand_at_most_once _ st.groups stand))))
