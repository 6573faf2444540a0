use Rattle.std.proofs.Common.{refl, sym, ap, ◌∙◌, subst, Option}
use Rattle.std.proofs.lemmas.Bool.{false≢true}
use Rattle.yv_node_content.specs.Kinds.{is_operation_or_notification}
use Rattle.yv_node_leafrefs.specs.Above as above
use Rattle.yv_node_leafrefs.specs.Above.{IsInside}
use Rattle.yv_node_leafrefs.proofs.AncestorPlaces.{inside_by_parent, outside_at_top}
use Rattle.yv_node_leafrefs.proofs.above.is_inside.Goals as goal

pub returns-then-is_operation_or_notification : goal.returns-then-is_operation_or_notification
returns-then-is_operation_or_notification c rows n at known =
    (λ h. above.here c.args.node.now at (ap is_operation_or_notification (sym c.kind.ensures) ∙ sym c.is_operation_or_notification.ensures ∙ c.if-is_operation_or_notification.true), λ i. refl)

pub returns-in-None : goal.returns-in-None
returns-in-None c rows n at known =
    let plain = ap is_operation_or_notification (sym c.kind.ensures) ∙ sym c.is_operation_or_notification.ensures ∙ c.if-is_operation_or_notification.false in
    (λ h. absurd (false≢true h), λ i. absurd (outside_at_top rows n c.args.node.now at plain (sym c.parent_of.ensures ∙ c.in-None.is) i))

pub returns-in-Some : goal.returns-in-Some
returns-in-Some c rows n at known =
    let p = c.in-Some.number in
    let plain = ap is_operation_or_notification (sym c.kind.ensures) ∙ sym c.is_operation_or_notification.ensures ∙ c.if-is_operation_or_notification.false in
    let up = sym c.parent_of.ensures ∙ c.in-Some.is in
    let both = known p (c.requires.behind p up) in (
      λ h. above.further c.args.node.now at (subst (λ (o : Option _). IsInside rows o) (sym up) (both.0 h)),
      λ i. both.1 (subst (λ (o : Option _). IsInside rows o) up (inside_by_parent rows n c.args.node.now at plain i)),
    )
