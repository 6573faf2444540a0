use Rattle.std.proofs.Common.{◌≡◌, ◌+◌, Some, length, take, refl, sym, ap, arith}
use Rattle.std.specs.List.{slice_get}
use Rattle.std.proofs.lemmas.List.{take_all}
use Rattle.std.proofs.lemmas.Option.{slice_get_read}
use Rattle.yv_text_statement.specs.Tree.{forest}
use Rattle.yv_text_conditions.specs.Conditions.{count_in}
use Rattle.yv_text_conditions.specs.InnerCounts.{AreCounts, count_of}
use Rattle.yv_text_conditions.proofs.StatementCounts.{both_counted, count_next, same_counts}
use Rattle.yv_text_conditions.proofs.count.passed_over.Goals as goal

pub loop-file-init : goal.loop-file-init
loop-file-init c = record { must = refl; when = refl; path = refl; instance = refl }

pub loop-file-preserved : goal.loop-file-preserved
loop-file-preserved c =
    let files = c.args.files.now in
    let n = c.loop-file.file-index in
    let file = c.file-item.result in
    let at : slice_get files n ≡ Some file = slice_get_read _ _ n file refl (omega arith) c.file-item.is in
    rw c.plus-counts.ensures
    (both_counted (λ has. count_in has (forest (take n files))) (count_of file) (λ has. count_in has (forest (take (n + 1) files)))
    c.loop-file.counts c.in_statement.result (λ has. count_next has files n file at) c.loop-file.invariant c.in_statement.ensures)

pub returns : goal.returns
returns c =
    let files = c.args.files.now in
    let all : c.loop-file.file-index ≡ length files = omega arith in
    let are : AreCounts (λ has. count_in has (forest files)) c.loop-file.counts =
    same_counts (λ has. count_in has (forest (take c.loop-file.file-index files))) (λ has. count_in has (forest files)) c.loop-file.counts
    (λ has. sym (ap (λ ts. count_in has (forest ts)) (take_all c.loop-file.file-index files (omega (arith, all))))) c.loop-file.invariant in
    record { must = are.must; when = are.when; path = are.path; instance = are.instance }
