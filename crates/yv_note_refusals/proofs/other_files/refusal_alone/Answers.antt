use Rattle.std.proofs.Common.{◌≡◌, ◌∷◌, [], ap, map, subst}
use Rattle.std.specs.List.{AllZip}
use Rattle.yv_base_streams.specs.Files.{file_of}
use Rattle.yv_source.specs.FileStatements.{IsRead}
use Rattle.yv_note_refusals.proofs.OtherLines.{unfit_if}
use Rattle.yv_note_refusals.proofs.other_files.refusal_alone.Goals as goal

pub returns-in-Ok : goal.returns-in-Ok
returns-in-Ok c =
    let file = file_of c.args.input.now in
    let alone : map file_of c.from_ref.result.now ≡ file ∷ [] = ap (λ is. map file_of is) c.from_ref.ensures.value in
    let each = subst (λ fs. AllZip IsRead fs c.in-Ok.statements.items) alone (c.in-Ok.ensures.reads (map file_of c.from_ref.result.now) c.in_ok-texts.ensures) in
    unfit_if file c.in-Ok.statements.items c.deref.result.now c.first_unfit.result each c.deref.ensures.value c.first_unfit.ensures
