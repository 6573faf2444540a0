use Rattle.std.proofs.Common.{[], sym, ◌∙◌, ap, subst}
use Rattle.yv_expand_rounds.specs.declared.group.Group.{Group}
use Rattle.yv_expand_rounds.specs.InnerGroups.{IsGroup}
use Rattle.yv_expand_rounds.proofs.GroupMembers.{shifted_by}
use Rattle.yv_expand_rounds.proofs.FollowedPaths.{moved_keeps_first}
use Rattle.yv_expand_rounds.proofs.places.ItemPlaces.shift.Goals as goal

pub returns-clause-state : goal.returns-clause-state
returns-clause-state c = λ labels groups old. record {
  labels_are = old.labels_are;
  groups_are = shifted_by labels c.deref.result.now groups c.args.self.now.groups.items c.args.from c.args.to
      c.index_mut.result.now c.replace-moving.new.dest c.index_mut-2.result.now c.join.new.self c.deref-2.result.now
      (c.deref.ensures.value ∙ old.labels_are) old.groups_are c.requires.from c.requires.to c.requires.other
      c.index_mut.ensures.value
      (subst (λ (x : Group). IsGroup labels [] x) (sym c.replace-moving.ensures.after) (c.new.ensures labels))
      c.index_mut-2.ensures.value
      (c.deref-2.ensures.value ∙ ap (λ (x : Group). x.members.items) c.replace-moving.ensures.value)
      c.in_ok-displaced.ensures.state;
}

pub returns-clause-keeps : goal.returns-clause-keeps
returns-clause-keeps c = λ labels groups old.
    moved_keeps_first labels c.deref.result.now groups c.args.self.now.groups.items c.args.from c.args.to
    c.index_mut.result.now c.replace-moving.new.dest c.index_mut-2.result.now c.deref-2.result.now
    (c.deref.ensures.value ∙ old.labels_are) old.groups_are c.requires.from c.requires.to c.requires.other
    c.index_mut.ensures.value c.index_mut-2.ensures.value
    (c.deref-2.ensures.value ∙ ap (λ (x : Group). x.members.items) c.replace-moving.ensures.value)
    c.in_ok-displaced.displaced.items c.in_ok-displaced.ensures.displaces
