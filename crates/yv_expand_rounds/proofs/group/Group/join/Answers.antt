use Rattle.std.proofs.Common.{◌≤◌, ℕ, List, ◌++◌, ◌∷◌, [], take, get_or, Option, append-nil, inl, ap, length, subst, sym, ◌∙◌, arith}
use Rattle.std.proofs.lemmas.List.{take_all}
use Rattle.yv_expand_rounds.specs.InnerGroups.{IsGroup, Keep, KeepBut, firsts}
use Rattle.yv_expand_rounds.proofs.GroupMembers.{joined_more}
use Rattle.yv_expand_rounds.proofs.DisplacedNodes.{keep_none, keep_one}
use Rattle.yv_expand_rounds.proofs.group.Group.join.Goals as goal
use Rattle.yv_expand_rounds.proofs.group.Group.join.Goals.{in_default, in-Some+in_ok-push}

pub loop-item-init : goal.loop-item-init
loop-item-init c = record {
  state = λ members is. subst (λ (ms : List ℕ). IsGroup c.args.labels.now ms c.args.self.now) (sym (append-nil members)) is;
  keeps = λ members is. subst (λ (ms : List ℕ). Keep (firsts c.args.labels.now members) (firsts c.args.labels.now ms) c.new-displaced.result.items) (sym (append-nil members)) (λ n i e. inl e);
}

pub loop-item-preserved : goal.loop-item-preserved
loop-item-preserved c =
    let labels = c.args.labels.now in
    let so_far : List ℕ = take c.loop-item.item-index c.args.items.now in
    let item : ℕ = get_or c.args.items.now c.loop-item.item-index 0 in
    record {
      state = λ members old.
          subst (λ (ms : List ℕ). IsGroup labels ms c.add.new.self)
          (joined_more members c.args.items.now c.loop-item.item-index 0 c.loop-item-test.true)
          (c.in_ok-node.ensures.state (members ++ so_far) (c.loop-item.invariant.state members old));
      keeps = λ members old.
          let first : ℕ → Option ℕ = firsts labels members in
          let before : ℕ → Option ℕ = firsts labels (members ++ so_far) in
          let now : ℕ → Option ℕ = firsts labels ((members ++ so_far) ++ item ∷ []) in
          let kept : Keep first before c.loop-item.displaced.items = c.loop-item.invariant.keeps members old in
          let added : KeepBut before now c.in_ok-node.field-0 =
          c.in_ok-node.ensures.displaces (members ++ so_far) (c.loop-item.invariant.state members old) in
          subst (λ (ms : List ℕ). Keep first (firsts labels ms) c.match-branch-2.displaced.items)
          (joined_more members c.args.items.now c.loop-item.item-index 0 c.loop-item-test.true)
          (elim c.match-branch-2.branch [
            | in-Some+in_ok-push w ↦
                subst (λ (gone : List ℕ). Keep first now gone) (sym (ap (λ v. v.items) w.displaced-is ∙ w.in_ok-push.ensures.items))
                (keep_one first before now c.loop-item.displaced.items w.in-Some.node kept (subst (λ (o : Option ℕ). KeepBut before now o) w.in-Some.is added))
            | in_default w ↦
                subst (λ (gone : List ℕ). Keep first now gone) (sym (ap (λ v. v.items) w.displaced-is))
                (keep_none first before now c.loop-item.displaced.items kept (subst (λ (o : Option ℕ). KeepBut before now o) w.in_default.is added))
          ]);
    }

pub returns-clause-state : goal.returns-clause-state
returns-clause-state c = λ members old.
    let items : List ℕ = c.args.items.now in
    let past : length items ≤ c.loop-item.item-index = omega (arith, c.loop-item-test.false) in
    subst (λ (ms : List ℕ). IsGroup c.args.labels.now (members ++ ms) c.loop-item.self) (take_all c.loop-item.item-index items past)
    (c.loop-item.invariant.state members old)

pub returns-clause-displaces : goal.returns-clause-displaces
returns-clause-displaces c = λ members old.
    let items : List ℕ = c.args.items.now in
    let past : length items ≤ c.loop-item.item-index = omega (arith, c.loop-item-test.false) in
    subst (λ (ms : List ℕ). Keep (firsts c.args.labels.now members) (firsts c.args.labels.now (members ++ ms)) c.loop-item.displaced.items)
    (take_all c.loop-item.item-index items past)
    (c.loop-item.invariant.keeps members old)
