-- The refines that change an item, of its sequence.
use Rattle.std.proofs.Common.{◌≡◌, ℕ, List, [], length, get_or, map, Option, None, refl, zero, suc, ◌∷◌}
use Rattle.std.proofs.lemmas.List.{length-map}
use Rattle.yv_expand_refines.specs.Changes.{ChangesView, each, sequence_at}

at_place : (sequences : List (List ℕ)) (of : List (Option ℕ)) (item : ℕ) → get_or (map (sequence_at sequences) of) item [] ≡ sequence_at sequences (get_or of item None)
at_place sequences [] item = refl
at_place sequences (x ∷ xs) zero = refl
at_place sequences (x ∷ xs) (suc item) = at_place sequences xs item

pub each_at : (c : ChangesView) (item : ℕ) → get_or (each c) item [] ≡ sequence_at c.sequences (get_or c.of item None)
each_at c item = at_place c.sequences c.of item

pub length-each : (c : ChangesView) → length (each c) ≡ length c.of
length-each c = length-map c.of (sequence_at c.sequences)
