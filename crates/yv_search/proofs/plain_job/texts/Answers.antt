use Rattle.std.proofs.Common.{◌≡◌, ◌++◌, ℕ, List, [], ◌∷◌, Option, Some, map, take, sym, subst}
use Rattle.std.specs.List.{slice_get}
use Rattle.yv_base_streams.specs.Files.{File, file_of}
use Rattle.yv_source.specs.File.{File as Text}
use Rattle.yv_search.specs.Roots.{HoldsText}
use Rattle.yv_search.specs.InnerPlainJob.{AreTexts}
use Rattle.yv_search.proofs.ListSteps.{get_map, take_next}
use Rattle.yv_search.proofs.FileLists.{texts_more}
use Rattle.yv_search.proofs.plain_job.texts.Goals as goal

pub loop-file-preserved : goal.loop-file-preserved
loop-file-preserved c =
    let fs : List File = map file_of c.args.files.now in
    let f : File = file_of c.file-item.result in
    let at : slice_get fs c.loop-file.file-index ≡ Some f = get_map file_of c.args.files.now c.loop-file.file-index c.file-item.result c.loop-file-test.true c.file-item.is in
    subst (λ (l : List File). AreTexts l c.push.new.self.items) (sym (take_next fs c.loop-file.file-index f at))
    (subst (λ (ts : List (Option Text)). AreTexts (take c.loop-file.file-index fs ++ f ∷ []) ts) (sym c.in_ok-push.ensures.items)
    (texts_more (take c.loop-file.file-index fs) c.loop-file.texts.items f c.in_ok-file_text.field-0 c.loop-file.invariant
    (subst (λ (bs : List ℕ). HoldsText bs c.in_ok-file_text.field-0) c.deref.ensures.value c.in_ok-file_text.ensures)))
