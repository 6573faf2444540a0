use Rattle.std.proofs.Common.{◌≡◌, ◌∙◌, ◌++◌, ℕ, Bool, List, Some, map, length, drop, string_bytes, refl, sym, ap, subst, arith}
use Rattle.std.proofs.lemmas.List.{length-map}
use Rattle.std.specs.List.{slice_get}
use Rattle.yv_base_streams.specs.Files.{File, file_of}
use Rattle.yv_search.specs.InnerRoles.{is_required}
use Rattle.yv_search.specs.PlainJob.{lines_from, line_of}
use Rattle.yv_search.proofs.ListSteps.{get_map}
use Rattle.yv_search.proofs.FileLists.{roots_each, line_more}
use Rattle.yv_search.proofs.plain_job.lines.Goals as goal

pub root_at-root-requires : goal.root_at-root-requires
root_at-root-requires c =
    let each : length (map file_of c.args.files.now) ≡ length c.args.roots.now = roots_each (map file_of c.args.files.now) c.args.roots.now c.requires in
    let same : length (map file_of c.args.files.now) ≡ length c.args.files.now = length-map c.args.files.now file_of in
    omega (arith, c.loop-number-test.true, each, same)

pub loop-number-preserved : goal.loop-number-preserved
loop-number-preserved c =
    let fs : List File = map file_of c.args.files.now in
    let test : List ℕ → Bool = is_required c.args.requirements.now in
    let f : File = file_of c.index-files-number.result in
    let at : slice_get fs c.loop-number.number ≡ Some f = get_map file_of c.args.files.now c.loop-number.number c.index-files-number.result c.loop-number-test.true c.index-files-number.is in
    line_more test c.args.named c.loop-number.number fs c.args.roots.now f c.root_at-root.result.now c.word_for-word.result.now (string_bytes c.loop-number.text) (string_bytes c.add_line.new.text)
    (lines_from test c.args.named 0 fs c.args.roots.now) at c.root_at-root.ensures c.word_for-word.ensures c.loop-number.invariant
    (c.in_ok-add_line.ensures ∙ ap (λ n. string_bytes c.loop-number.text ++ line_of c.word_for-word.result.now n) c.as_str.ensures.value)
