use Rattle.std.proofs.Common.{◌≡◌, ℕ, length, Option, Some, None}
use Rattle.std.specs.List.{slice_get}
use Rattle.yv_expand_changes.specs.declared.refusals.Judgement.{Judgement}
use Rattle.yv_expand_changes.proofs.refusals.nothing_judged.Given as goal

abbrev pub invariant-loop : goal.invariant-loop
invariant-loop l = record {
  each : length l.judged.items ≡ l.index;
  are : (place : ℕ) (j : Option Judgement) → slice_get l.judged.items place ≡ Some j → j ≡ None;
}
