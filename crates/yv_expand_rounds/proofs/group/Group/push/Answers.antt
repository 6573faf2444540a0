use Rattle.std.proofs.Common.{◌≡◌, ℕ, List, ◌++◌, ◌∷◌, [], ◌∙◌, ap, sym, subst}
use Rattle.yv_expand_rounds.proofs.DescendingMembers.{descend_more}
use Rattle.yv_expand_rounds.specs.InnerGroups.{Descend, IsBelowLast}
use Rattle.yv_expand_rounds.proofs.group.Group.push.Goals as goal

pub returns-clause-state : goal.returns-clause-state
returns-clause-state c = λ members old. record {
  members_are =
      c.in_ok-push.ensures.items ∙ ap (λ v. v.items ++ c.args.item ∷ []) c.note.ensures.members
      ∙ ap (λ l. l ++ c.args.item ∷ []) (c.reserve.ensures.items ∙ old.members_are);
  named = c.in_ok-note.ensures.notes members (record {
    members_are = c.reserve.ensures.items ∙ old.members_are;
    named = old.named;
    descend = old.descend;
  });
  descend = λ is.
      let kept : List ℕ = c.args.self.now.members.items in
      let before : c.note.new.self.members.items ≡ kept = ap (λ v. v.items) c.note.ensures.members ∙ c.reserve.ensures.items in
      let was : Descend members = old.descend (sym c.note.ensures.descends ∙ c.descends_to-self.ensures.so_far is) in
      let below : IsBelowLast members c.args.item =
      subst (λ (ms : List ℕ). IsBelowLast ms c.args.item) (before ∙ old.members_are) (c.descends_to-self.ensures.last is) in
      descend_more members c.args.item was below;
}
