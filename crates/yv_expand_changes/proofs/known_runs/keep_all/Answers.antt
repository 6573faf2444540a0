use Rattle.std.proofs.Common.{◌++◌, ◌∷◌, [], ℕ, List, Option, length, ap, subst, sym, ◌∙◌, arith, length-append}
use Rattle.yv_expand_changes.specs.InnerAlike.{AreRuns}
use Rattle.yv_expand_changes.specs.InnerLists.{lists_of}
use Rattle.yv_expand_changes.proofs.UsesRuns.{runs_more}
use Rattle.yv_expand_changes.proofs.known_runs.keep_all.Goals as goal

pub loop-run-preserved : goal.loop-run-preserved
loop-run-preserved c =
    let before = c.loop-run.invariant in
    record {
      as_many = ap length c.in_ok-push.ensures.items ∙ omega (arith, before.as_many, length-append c.loop-run.numbers.items (c.in_ok-keep.field-0 ∷ []), length-append c.loop-run.yielded (c.in-Some.run' ∷ []));
      numbers = subst (λ (ns : List (Option ℕ)). AreRuns c.keep.new.changes.runs ns (lists_of (c.loop-run.yielded ++ c.in-Some.run' ∷ []))) (sym {A = List (Option ℕ)} c.in_ok-push.ensures.items)
          (runs_more c.loop-run.changes.runs c.keep.new.changes.runs c.loop-run.numbers.items c.loop-run.yielded c.in_ok-keep.field-0 c.in-Some.run' c.in_ok-keep.ensures.runs before.as_many before.numbers c.in_ok-keep.ensures.number);
      each = c.in_ok-keep.ensures.each ∙ before.each;
      runs = λ number run at. c.in_ok-keep.ensures.runs number run (before.runs number run at);
    }
