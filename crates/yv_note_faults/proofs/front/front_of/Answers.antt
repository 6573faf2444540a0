use Rattle.std.proofs.Common.{◌≡◌, ◌++◌, List, ap, take, drop, sym, ◌∙◌}
use Rattle.std.proofs.lemmas.List.{take-append-drop}
use Rattle.std.proofs.lemmas.Result.{IfOk-weaker}
use mathlib.Core.List.{map-append}
use Rattle.yv_data_faults.specs.Part.{part_of, steps_of}
use Rattle.yv_data_faults.specs.declared.path.Part.{Part}
use Rattle.yv_note_faults.specs.Line.{short, whole}
use Rattle.yv_note_faults.proofs.front.front_of.Goals as goal

pub returns-then-left_out-eq0 : goal.returns-then-left_out-eq0
returns-then-left_out-eq0 c = IfOk-weaker c.line.result _ _ (λ text is. whole is) c.line.ensures

pub returns-else-left_out-eq0 : goal.returns-else-left_out-eq0
returns-else-left_out-eq0 c =
    let n = c.left_out-left_out.result in
    let parts = c.args.path.now in
    IfOk-weaker c.shortened_line.result _ _
    (λ text is. short (steps_of (take n parts)) (steps_of (drop n parts))
    (sym c.requires ∙ ap steps_of (sym (take-append-drop n parts)) ∙ map-append part_of (take n parts) (drop n parts)) is)
    c.shortened_line.ensures
