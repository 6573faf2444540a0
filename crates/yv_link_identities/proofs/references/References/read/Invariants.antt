use Rattle.std.proofs.Common.{◌≡◌, ℕ, take}
use Rattle.yv_link_scopes.specs.Names.{first_where}
use Rattle.yv_link_identities.specs.References.{is_at}
use Rattle.yv_link_identities.specs.InnerPlaces.{placed_in}
use Rattle.yv_link_identities.proofs.references.References.read.Given as goal

abbrev pub invariant-loop-node : goal.invariant-loop-node
invariant-loop-node l = (f o : ℕ) → placed_in l.places f o ≡ first_where (is_at (record { file = f; offset = o })) (take l.node l.identities)
