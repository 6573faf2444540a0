-- A map by numbers, where nothing more was kept at one of them.
use Rattle.std.proofs.Common.{◌≡◌, ℕ, Bool, List, Some, Result, Ok, Err, OnErr, refl}
use Rattle.std.specs.Map.{lookup, set_value}
use Rattle.std.proofs.lemmas.Map.Steps.{set_value_same}

pub same_after : {V X E : Type 0} (r : Result X E) (f : ℕ → Bool) (es : List (ℕ × V)) (old new : V) → lookup f es ≡ Some old → OnErr r (new ≡ old) → OnErr r (set_value f es new ≡ es)
same_after (Ok x) f es old new found same = tt
same_after (Err e) f es old new found same = rw (same, set_value_same f es old found) refl
