use Rattle.std.proofs.Common.{◌≡◌, take}
use Rattle.std.specs.List.{list_any}
use Rattle.yv_link_identities.specs.References.{is_at}
use Rattle.yv_link_identities.specs.declared.references.IdentityRef.{IdentityRef}
use Rattle.yv_type_identities.specs.InnerSets.{has}
use Rattle.yv_type_identities.proofs.keys.set_of.Given as goal

abbrev pub invariant-loop-identity : goal.invariant-loop-identity
invariant-loop-identity l = (place : IdentityRef) → has l.set place ≡ list_any (is_at place) (take l.identity-index l.identities)
