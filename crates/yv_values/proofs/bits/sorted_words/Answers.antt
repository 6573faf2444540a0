use Rattle.std.proofs.Common.{ℕ, List, Bor}
use Rattle.std.proofs.lemmas.List.Sorted.{IsPermutation-map}
use Rattle.yv_values.proofs.Order.{ascends}
use Rattle.yv_values.proofs.bits.sorted_words.Goals as goal

pub returns : goal.returns
returns c = (rw (← c.in_ok-words.ensures) (IsPermutation-map (λ (w : Bor (List ℕ)). w.now) _ _ c.in_ok-sort.ensures.permutation), ascends (λ (w : Bor (List ℕ)). w.now) _ c.in_ok-sort.ensures.sorted)
