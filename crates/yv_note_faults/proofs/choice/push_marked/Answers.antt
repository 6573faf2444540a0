use Rattle.std.proofs.Common.{ap, map, sym, ◌∙◌, Some}
use Rattle.std.specs.Option.{option_map}
use Rattle.std.proofs.lemmas.Option.{slice_get-get_or}
use Rattle.yv_note_faults.proofs.Marks.{step}
use Rattle.yv_note_faults.proofs.choice.push_marked.Goals as goal

pub loop-number-preserved : goal.loop-number-preserved
loop-number-preserved c =
    let here = slice_get-get_or c.args.faults.now c.loop-number.number c.index-faults-number.result c.loop-number-test.true ∙ ap Some (sym c.index-faults-number.is) in
    step c.args.most c.args.mark c.args.faults.now c.args.marks.now c.loop-number.number c.index-faults-number.result (map (λ f. f.now) c.args.those.now.items) _ (map (λ f. f.now) c.loop-number.those.items) _
    here c.has_mark.result c.has_mark.ensures.has c.has_mark.ensures.lacks c.in_ok-push_if.ensures c.loop-number.invariant
