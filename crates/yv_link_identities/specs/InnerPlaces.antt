-- Inner definitions, which only private clauses and the tables cite: where identities stand first.
use Rattle.std.specs.Prelude.{ℕ, Option, Some, None, if◌then◌else◌}
use Rattle.std.specs.Ordering.{nat_cmp, ordering_then}
use Rattle.std.specs.BTreeMap.{BTreeMap, get_by}
use Rattle.yv_link_identities.specs.References.{is_at}
use Rattle.yv_link_identities.specs.declared.references.IdentityRef.{IdentityRef}
use Rattle.yv_link_identities.specs.declared.references.References.{References}
use Rattle.yv_link_scopes.specs.InnerPlaces.{first_some}

abbrev pub lookup_in : BTreeMap (ℕ × ℕ) ℕ → ℕ → ℕ → Option ℕ
lookup_in m file offset = get_by (λ k. ordering_then (nat_cmp file k.0) (nat_cmp offset k.1)) m

-- the number at an offset of a file
abbrev pub placed_in : References → ℕ → ℕ → Option ℕ
placed_in places = lookup_in places.map

-- the first number of a place is kept
abbrev pub keep_first : (ℕ → ℕ → Option ℕ) → IdentityRef → ℕ → ℕ → ℕ → Option ℕ
keep_first table ref node file offset =
    first_some (table file offset)
    (if is_at (record { file = file; offset = offset }) ref then Some node else None)
