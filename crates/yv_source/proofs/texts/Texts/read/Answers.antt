use Rattle.std.proofs.Common.{◌≡◌, ◌∙◌, arith, map, refl, subst, List, Some}
use Rattle.std.specs.List.{slice_get}
use Rattle.yv_source.specs.Answer.{IsBadFile}
use Rattle.yv_source.specs.Legal.{IsLegalFile}
use Rattle.yv_base_streams.specs.Files.{File, file_of}
use Rattle.yv_source.proofs.FileReading.{get_view, texts_end, texts_more}
use Rattle.yv_source.proofs.texts.Texts.read.Goals as goal

pub returns-in-Err : goal.returns-in-Err
returns-in-Err c =
    let files : List File = map file_of c.args.inputs.now in
    let f : File = file_of c.index-inputs-number.result in
    let at : slice_get files c.loop-number.number ≡ Some f = get_view file_of c.args.inputs.now c.loop-number.number c.index-inputs-number.result c.loop-number-test.true c.index-inputs-number.is in
    let bad : IsBadFile f.bytes c.in-Err.refusal =
    subst (λ bytes. IsBadFile bytes c.in-Err.refusal) c.as_slice.ensures.value ((c.in-Err.ensures.refuses c.in-Err.refusal).0 refl) in
    let p = texts_end files c.loop-number.texts.items c.loop-number.number f c.in-Err.refusal c.in_ok-in_file-in-Err.field-0 at bad c.in_ok-in_file-in-Err.ensures.value c.loop-number.invariant in
    record {
      each = p.0;
      rest = p.1;
      few = (let long = c.loop-number.invariant.0 in let few = c.in_ok-in_file-in-Err.ensures.few in omega (arith, long, few));
    }

pub loop-number-preserved : goal.loop-number-preserved
loop-number-preserved c =
    let files : List File = map file_of c.args.inputs.now in
    let f : File = file_of c.index-inputs-number.result in
    let at : slice_get files c.loop-number.number ≡ Some f = get_view file_of c.args.inputs.now c.loop-number.number c.index-inputs-number.result c.loop-number-test.true c.index-inputs-number.is in
    let legal : IsLegalFile f.bytes = subst IsLegalFile c.as_slice.ensures.value c.in-Ok.ensures.legal in
    let same : c.new.result ≡ f.bytes = c.new.ensures ∙ c.in-Ok.ensures.text ∙ c.as_slice.ensures.value in
    texts_more files c.loop-number.texts.items c.push.new.self.items c.loop-number.number f c.new.result at (legal, same) c.in_ok-push-in-Ok.ensures.items c.loop-number.invariant
