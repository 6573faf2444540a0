use Rattle.std.proofs.Common.{◌≡◌, ◌+◌, ◌++◌, ◌∷◌, [], ◌∙◌, ap, arith, map, refl, subst, sym, take}
use Rattle.std.proofs.lemmas.List.{map-append, take_all, take_more}
use Rattle.yv_base_streams.specs.Files.{file_of}
use Rattle.yv_note_refusals.specs.InnerLines.{HoldsLines}
use Rattle.yv_note_refusals.proofs.OtherLines.{no_files}
use Rattle.yv_note_refusals.proofs.other_files.lines_on.Goals as goal

pub loop-input-init : goal.loop-input-init
loop-input-init c = no_files c.args.phase (record { text = c.new.result; count = 0 }) c.new.ensures.bytes refl

pub loop-input-preserved : goal.loop-input-preserved
loop-input-preserved c =
    let inputs = c.args.inputs.now in
    let at = c.loop-input.input-index in
    let item = c.input-item.result in
    let more : take (at + 1) inputs ≡ take at inputs ++ item ∷ [] = take_more inputs at item c.loop-input-test.true ∙ ap (λ i. take at inputs ++ i ∷ []) (sym c.input-item.is) in
    let files : map file_of (take (at + 1) inputs) ≡ map file_of (take at inputs) ++ file_of item ∷ [] = ap (λ is. map file_of is) more ∙ map-append file_of (take at inputs) (item ∷ []) in
    subst (λ fs. HoldsLines c.args.phase fs c.take.new.self) (sym files) (c.in_ok-take.ensures (map file_of (take at inputs)) c.loop-input.invariant)

pub returns : goal.returns
returns c =
    subst (λ is. HoldsLines c.args.phase (map file_of is) c.loop-input.lines) (take_all c.loop-input.input-index c.args.inputs.now (omega (arith, c.loop-input-test.false))) c.loop-input.invariant
