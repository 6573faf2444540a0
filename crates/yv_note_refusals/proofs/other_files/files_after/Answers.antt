use Rattle.std.proofs.Common.{◌∙◌, ◌+◌, ◌-◌, ap, arith, length, map, drop, sym}
use Rattle.std.proofs.lemmas.List.{drop-map, length-drop, take_all}
use Rattle.yv_base_streams.specs.Files.{file_of}
use Rattle.yv_note_refusals.proofs.other_files.files_after.Goals as goal

pub returns-then-next-inputs : goal.returns-then-next-inputs
returns-then-next-inputs c =
    let next = c.args.file + 1 in
    let inputs = c.args.inputs.now in
    ap (λ is. map file_of is) (take_all (length inputs - next) (drop next inputs) (omega (arith, length-drop next inputs)))
    ∙ sym (drop-map file_of next inputs)
