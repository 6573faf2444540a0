use Rattle.std.proofs.Common.{◌≡◌, ◌++◌, true, drop, map}
use Rattle.yv_values.specs.InnerNames.{Ascends}
use Rattle.yv_values.specs.Texts.{are_distinct, choose}
use Rattle.yv_values.specs.Values.{texts}
use Rattle.yv_values.proofs.bits.choose_names.Given as goal

abbrev pub invariant-loop-word : goal.invariant-loop-word
invariant-loop-word l = record {
  same : texts l.found.items ++ choose l.names (map (λ w. w.now) (drop l.word-index l.words)) ≡ choose l.names (map (λ w. w.now) l.words);
  order : Ascends (map (λ w. w.now) (drop l.word-index l.words));
  distinct : are_distinct (map (λ w. w.now) (drop l.word-index l.words)) ≡ true;
}
