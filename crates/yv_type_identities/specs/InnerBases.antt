-- Only private clauses cite this: the bases of blocks, and keys.
use Rattle.std.specs.Prelude.{◌≡◌, ℕ, true, List, [], Option, None, slice_get, if◌then◌else◌}
use Rattle.std.specs.List.{list_any}
use Rattle.std.specs.Option.{option_map, unwrap_or}
use Rattle.std.specs.declared.vec.Vec.{Vec}
use Rattle.std.specs.declared.alloc.Global.{Global}
use Rattle.yv_link_scopes.specs.Files.{Briefs}
use Rattle.yv_link_scopes.specs.Rows.{Row, name_in}
use Rattle.yv_link_identities.specs.Names.{is_base}
use Rattle.yv_link_identities.specs.References.{reference_of}
use Rattle.yv_link_identities.specs.declared.references.IdentityRef.{IdentityRef}
use Rattle.yv_type_identities.specs.Bases.{IsBelow}
use Rattle.yv_type_identities.specs.InnerSets.{is_key}

-- the base that a statement gives the type in whose block it is
abbrev pub base_of : Briefs → List Row → Row → Option IdentityRef
base_of files rows s = if is_base s then reference_of files rows s.file (name_in s) else None

-- the bases of a block
abbrev pub bases_at : List (Vec IdentityRef Global) → ℕ → List IdentityRef
bases_at lists k = unwrap_or (option_map (λ v. v.items) (slice_get lists k)) []

-- an identity is derived from each base of a key
abbrev pub IsBelowKey : Briefs → List Row → List (ℕ × ℕ) → IdentityRef → Type 0
IsBelowKey files rows key place =
    (base : IdentityRef) → list_any (is_key base) key ≡ true → IsBelow files rows place base
