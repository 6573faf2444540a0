use Rattle.std.proofs.Common.{◌≡◌, ◌++◌, ◌∙◌, ap, arith, map, subst, string_bytes}
use Rattle.std.proofs.lemmas.List.{take_all}
use Rattle.yv_base_streams.specs.Files.{file_of}
use Rattle.yv_note_findings.specs.Notes.{AreNotes}
use Rattle.yv_note_findings.proofs.NoteLines.{next_note, none}
use Rattle.yv_note_findings.proofs.notes.notes_on.Goals as goal

pub loop-finding-init : goal.loop-finding-init
loop-finding-init c = none (map file_of c.args.inputs.now) (string_bytes c.new-text.result) c.new-text.ensures.bytes

pub loop-finding-preserved : goal.loop-finding-preserved
loop-finding-preserved c =
    let pushed : string_bytes c.push_str.new.self ≡ string_bytes c.loop-finding.text ++ string_bytes c.in_ok-note.note =
    c.in_ok-push_str.ensures.bytes ∙ ap (λ t. string_bytes c.loop-finding.text ++ t) c.as_str.ensures.value in
    next_note (map file_of c.args.inputs.now) c.args.findings.now c.loop-finding.finding-index _ (string_bytes c.loop-finding.text) (string_bytes c.push_str.new.self) (string_bytes c.in_ok-note.note)
    c.loop-finding-test.true c.loop-finding.invariant c.in_ok-note.ensures pushed

pub returns : goal.returns
returns c =
    subst (λ fs. AreNotes (map file_of c.args.inputs.now) fs (string_bytes c.loop-finding.text)) (take_all c.loop-finding.finding-index c.args.findings.now (omega (arith, c.loop-finding-test.false))) c.loop-finding.invariant
