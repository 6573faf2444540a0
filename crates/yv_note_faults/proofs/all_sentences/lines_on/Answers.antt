use Rattle.std.proofs.Common.{rules, ap, map, sym, ◌∙◌, Some, string_bytes}
use Rattle.std.specs.Option.{option_map}
use Rattle.std.proofs.lemmas.Option.{slice_get-get_or, slice_get-map}
use Rattle.yv_note_faults.proofs.Lines.{next_line}
use Rattle.yv_note_faults.proofs.all_sentences.lines_on.Goals as goal

pub loop-number-preserved : goal.loop-number-preserved
loop-number-preserved c =
    let here = slice_get-get_or c.args.faults.now c.loop-number.number c.index-faults-number.result c.loop-number-test.true ∙ ap Some (sym c.index-faults-number.is) in
    next_line c.args.document.now.name.now (map (λ f. f.now) c.args.faults.now) c.loop-number.number c.index-faults-number.result.now (string_bytes c.loop-number.text) (string_bytes c.push_str.new.self)
    (string_bytes c.in_ok-line.line) (slice_get-map (λ f. f.now) c.args.faults.now c.loop-number.number ∙ ap (option_map (λ f. f.now)) here) c.loop-number.invariant c.in_ok-line.ensures (search rules)
