use Rattle.std.proofs.Common.{◌≡◌, ◌∙◌, List, ap, subst, sym}
use Rattle.std.proofs.lemmas.Option.{slice_get-get_or}
use Rattle.yv_link_scopes.specs.Views.{lent_in}
use Rattle.yv_expand_refines.specs.Changes.{sequence_at}
use Rattle.yv_node_properties.specs.declared.properties.StatedProperties.{StatedProperties}
use Rattle.yv_expand_changes.specs.InnerProperties.{AreSaid, said_by_refines}
use Rattle.yv_expand_changes.specs.InnerSequences.{known_of}
use Rattle.yv_expand_changes.proofs.RefineSequences.{known_all, said_of_next}
use Rattle.yv_expand_changes.proofs.properties.said_of_all.Goals as goal

pub sequences_said-requires : goal.sequences_said-requires
sequences_said-requires c =
    subst (λ (each : List StatedProperties). AreSaid (lent_in c.args.rows.now) each) (sym {A = List StatedProperties} c.deref.ensures.value) c.in_ok-each.ensures

pub said_of-requires : goal.said_of-requires
said_of-requires c =
    subst (λ (each : List StatedProperties). AreSaid (lent_in c.args.rows.now) each) (sym {A = List StatedProperties} c.deref-in-loop-number-2.ensures.value) c.in_ok-each.ensures

pub loop-number-preserved : goal.loop-number-preserved
loop-number-preserved c =
    let files = lent_in c.args.rows.now in
    let sequences = c.args.changes.now.sequences in
    let later : c.known_of-later.result ≡ said_by_refines files (sequence_at sequences c.sequence.result) =
    c.known_of-later.ensures ∙ ap (λ (known : List StatedProperties). known_of known c.sequence.result c.nothing.result) (c.deref-in-loop-number.ensures.value ∙ c.in_ok-known.ensures)
    ∙ known_all (said_by_refines files) sequences c.sequence.result c.nothing.result (c.nothing.ensures ∙ sym (c.the_last_statement_stands.ensures.none files)) in
    said_of_next files c.args.items.now c.args.changes.now c.sequence.result c.loop-number.number _ c.said_of.result c.loop-number.said.items c.push.new.self.items
    (slice_get-get_or c.args.items.now c.loop-number.number _ c.loop-number-test.true) (c.said_of.ensures (sequence_at sequences c.sequence.result) later)
    c.sequence.ensures.place c.in_ok-push.ensures.items c.loop-number.invariant
