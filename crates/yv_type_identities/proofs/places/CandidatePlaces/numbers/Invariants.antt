use Rattle.std.proofs.Common.{◌≡◌, ℕ, nat_eq, take}
use Rattle.std.specs.List.{list_any}
use Rattle.yv_type_identities.specs.InnerPlaces.{is_kept}
use Rattle.yv_type_identities.proofs.places.CandidatePlaces.numbers.Given as goal

abbrev pub invariant-loop-key : goal.invariant-loop-key
invariant-loop-key l = (number : ℕ) → list_any (nat_eq number) l.numbers.items ≡ list_any (λ k. is_kept l.self k number) (take l.key-index l.keys)
