use Rattle.std.proofs.Common.{◌∷◌, [], ◌∙◌, arith}
use Rattle.yv_expand_rounds.proofs.GroupMembers.{on_err, other_items, same_items}
use Rattle.yv_expand_rounds.proofs.places.ItemPlaces.enter.Goals as goal

pub returns-in_err-push-clause-keeps : goal.returns-in_err-push-clause-keeps
returns-in_err-push-clause-keeps c = λ labels groups old.
    on_err c.from_residual.result (record {
      labels_are = old.labels_are;
      groups_are = same_items labels c.deref.result.now groups c.args.self.now.groups.items c.args.group c.index_mut.result.now c.push.new.self
          (c.deref.ensures.value ∙ old.labels_are) old.groups_are (omega (arith, c.if-group-len.true, c.len.ensures, c.args.self.now.groups.ok.0)) c.index_mut.ensures.value c.in_err-push.ensures.keeps;
    })

pub returns-in_ok-push-clause-state : goal.returns-in_ok-push-clause-state
returns-in_ok-push-clause-state c = λ labels groups old. record {
  labels_are = old.labels_are;
  groups_are = other_items labels c.deref.result.now groups c.args.self.now.groups.items c.args.group c.index_mut.result.now c.push.new.self (c.args.item ∷ [])
      (c.deref.ensures.value ∙ old.labels_are) old.groups_are (omega (arith, c.if-group-len.true, c.len.ensures, c.args.self.now.groups.ok.0)) c.index_mut.ensures.value c.in_ok-push.ensures.state;
}
