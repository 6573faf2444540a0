use Rattle.std.proofs.Common.{◌∷◌, [], length, List, ap, sym, ◌∙◌, arith, length-append, inl, inr}
use Rattle.std.specs.List.{slice_get}
use Rattle.yv_expand_refines.specs.Targets.{targets_at}
use Rattle.yv_expand_changes.specs.declared.known_runs.KnownRuns.{KnownRuns}
use Rattle.yv_expand_changes.proofs.UsesRuns.{known_nothing, pushed}
use Rattle.yv_expand_changes.proofs.item_changes.nothing_known.Goals as goal

pub loop-preserved : goal.loop-preserved
loop-preserved c = record {
  each = ap length c.in_ok-push.ensures.items ∙ omega (arith, c.loop.invariant.each, length-append c.loop.known.items (c.new.result ∷ []));
  are = λ p k at. elim (pushed c.loop.known.items c.new.result k p (ap (λ (l : List KnownRuns). slice_get l p) (sym c.in_ok-push.ensures.items) ∙ at)) [
    | inl h ↦ c.loop.invariant.are p k h
    | inr e ↦ (ap (λ (x : KnownRuns). x.ways.items) (sym e) ∙ c.new.ensures.ways, ap (λ (x : KnownRuns). x.numbers.items) (sym e) ∙ c.new.ensures.numbers)
  ];
}

pub returns : goal.returns
returns c = λ files. record {
  each = omega (arith, c.loop.invariant.each, c.loop-test.false, c.loop.auto.index-end);
  are = λ p k at. (let empty = c.loop.invariant.are p k at in known_nothing files (targets_at c.args.refine_targets.now p) k empty.0 empty.1);
}
