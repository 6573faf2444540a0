-- A mark in a row of marks.
use Rattle.std.proofs.Common.{◌≡◌, ℕ, ◌<◌, Bool, true, false, ◌||◌, List, length, get_or, set, arith, nat_eq}
use Rattle.std.proofs.lemmas.Grind.{common_steps}

pub marked : (xs : List Bool) (i j : ℕ) → i < length xs → get_or (set xs i true) j false ≡ (nat_eq i j || get_or xs j false)
marked xs i j h = grind (arith, common_steps)
