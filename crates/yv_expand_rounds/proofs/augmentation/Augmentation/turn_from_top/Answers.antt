use Rattle.std.proofs.Common.{◌≡◌, ℕ, List, Bool, Option, length, subst}
use Rattle.yv_expand_rounds.specs.declared.end.End.{End}
use Rattle.yv_expand_rounds.specs.declared.end.End.TheVariants as end
use Rattle.yv_expand_rounds.specs.Groups.{Groups}
use Rattle.yv_expand_rounds.specs.Paths.{path_end}
use Rattle.yv_expand_rounds.specs.Turns.{resolve}
use Rattle.yv_expand_rounds.specs.InnerHiddenNodes.{Updates}
use Rattle.yv_expand_rounds.specs.InnerPendingPaths.{StillLead}
use Rattle.yv_expand_rounds.proofs.PendingPaths.{still_lead}
use Rattle.yv_expand_rounds.proofs.augmentation.Augmentation.turn_from_top.Goals as goal

pub returns-clause-others : goal.returns-clause-others
returns-clause-others c = λ labels st is closed are.
    let e : Option End = c.in_ok-end.end in
    let before : List Bool = c.args.hidden.now.marks.items in
    let after : List Bool = c.update.new.self.marks.items in
    let new : Groups = (resolve labels c.args.number e st).groups in
    let end_is : e ≡ path_end labels st.groups (length labels) c.args.path.now (end.Start 0) = c.in_ok-end.ensures.end labels st is are in
    let updates : Updates new before after e c.in_ok-applied.displaced.items =
    subst (λ (gone : List ℕ). Updates new before after e gone) c.deref.ensures.value
    (c.in_ok-update.ensures labels new (c.in_ok-applied.ensures.state labels st is).places) in
    subst (λ (o : Option End). StillLead labels st.groups (resolve labels c.args.number o st).groups before after) end_is
    (still_lead labels c.args.number e st before after c.in_ok-applied.displaced.items closed (c.in_ok-applied.ensures.keeps labels st is) updates)

pub returns-clause-trail : goal.returns-clause-trail
returns-clause-trail c = λ labels st is closed are.
    (returns-clause-others c labels st is closed are).lead c.args.path.now c.follow_on.new.trail.ends.items (c.in_ok-end.ensures.trail labels st is are)
