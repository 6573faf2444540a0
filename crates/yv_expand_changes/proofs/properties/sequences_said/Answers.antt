use Rattle.std.proofs.Common.{◌≡◌, ◌<◌, ◌∙◌, List, ap, sym, length, arith}
use Rattle.yv_link_scopes.specs.Views.{lent_in}
use Rattle.yv_expand_refines.specs.Changes.{sequence_at}
use Rattle.yv_node_properties.specs.Marks.{over}
use Rattle.yv_node_properties.specs.declared.properties.StatedProperties.{StatedProperties}
use Rattle.yv_expand_changes.specs.InnerProperties.{said_by_refines}
use Rattle.yv_expand_changes.specs.InnerSequences.{known_of}
use Rattle.yv_expand_changes.proofs.RefineSequences.{known_before, known_more, said_on}
use Rattle.yv_expand_changes.proofs.properties.sequences_said.Goals as goal

pub loop-sequence-preserved : goal.loop-sequence-preserved
loop-sequence-preserved c =
    let files = lent_in c.args.rows.now in
    let sequences = c.args.changes.now.sequences in
    let n = c.loop-sequence.sequence in
    let link = c.link-link.result in
    let law = c.the_last_statement_stands.ensures in
    let lt : n < length sequences = omega (arith, c.loop-sequence-test.true, c.count-sequence-end.ensures) in
    let front : c.known_of-front.result ≡ said_by_refines files (sequence_at sequences link.front) =
    c.known_of-front.ensures ∙ ap (λ (known : List StatedProperties). known_of known link.front c.nothing.result) c.deref.ensures.value
    ∙ known_before (said_by_refines files) sequences c.loop-sequence.said.items n link.front c.nothing.result (c.nothing.ensures ∙ sym (law.none files))
    c.link-link.ensures.before c.loop-sequence.invariant in
    known_more (said_by_refines files) sequences n c.over.result c.loop-sequence.said.items c.push.new.self.items lt
    (c.over.ensures
    ∙ ap (λ (s : StatedProperties). over s c.known_of-front.result) c.last_said-run.ensures
    ∙ ap (over (said_by_refines files link.run.now)) front
    ∙ said_on files (law.none files) (law.more files) (sequence_at sequences link.front) link.run.now
    ∙ ap (said_by_refines files) (sym c.link-link.ensures.sequence))
    c.in_ok-push.ensures.items c.loop-sequence.invariant
