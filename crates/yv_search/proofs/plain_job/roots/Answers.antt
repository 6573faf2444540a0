use Rattle.std.proofs.Common.{◌≡◌, ◌++◌, List, [], ◌∷◌, Option, Some, take, length, refl, sym, subst, arith}
use Rattle.std.specs.List.{slice_get}
use Rattle.std.proofs.lemmas.List.{take_all}
use Rattle.yv_base_streams.specs.Files.{File}
use Rattle.yv_text_statement.specs.Tree.{Tree}
use Rattle.yv_search.specs.PlainJob.{AreRoots}
use Rattle.yv_search.proofs.ListSteps.{get_same, take_next}
use Rattle.yv_search.proofs.FileLists.{HasText, text_at, texts_each, roots_more}
use Rattle.yv_search.proofs.plain_job.roots.Goals as goal

pub loop-text-preserved : goal.loop-text-preserved
loop-text-preserved c = λ files ts.
    let at : slice_get c.args.texts.now c.loop-text.text-index ≡ Some c.text-item.result = get_same c.args.texts.now c.args.texts.now c.loop-text.text-index c.text-item.result refl c.loop-text-test.true c.text-item.is in
    let h : HasText files c.loop-text.text-index c.text-item.result = text_at files c.args.texts.now c.loop-text.text-index c.text-item.result ts at in
    subst (λ (l : List File). AreRoots l c.push.new.self.items) (sym (take_next files c.loop-text.text-index h.file h.at))
    (subst (λ (rs : List (Option Tree)). AreRoots (take c.loop-text.text-index files ++ h.file ∷ []) rs) (sym c.in_ok-push.ensures.items)
    (roots_more (take c.loop-text.text-index files) c.loop-text.roots.items h.file c.in_ok-file_root.field-0 (c.loop-text.invariant files ts) (c.in_ok-file_root.ensures h.file.bytes h.holds)))

pub returns : goal.returns
returns c = λ files ts.
    let each : length files ≡ length c.args.texts.now = texts_each files c.args.texts.now ts in
    subst (λ (l : List File). AreRoots l c.loop-text.roots.items) (take_all c.loop-text.text-index files (omega (arith, each, c.loop-text-test.false))) (c.loop-text.invariant files ts)
