-- Only private clauses cite this: sets of places.
use Rattle.std.specs.Prelude.{ℕ, ◌==◌, ◌&&◌, Bool, true, Option, Some, None}
use Rattle.std.specs.BTreeSet.{BTreeSet, contains}
use Rattle.std.specs.Ordering.{nat_cmp, ordering_then}
use Rattle.yv_link_identities.specs.declared.references.IdentityRef.{IdentityRef}
use Rattle.yv_type_identities.specs.declared.sets.References.{References}

abbrev pub has_key : BTreeSet (ℕ × ℕ) → ℕ → ℕ → Bool
has_key set file offset =
    contains (λ x y. ordering_then (nat_cmp x.0 y.0) (nat_cmp x.1 y.1)) set (file, offset)

abbrev pub has : References → IdentityRef → Bool
has refs place = has_key refs.set place.file place.offset

-- whether a file and an offset are those of a place
abbrev pub is_key : IdentityRef → ℕ × ℕ → Bool
is_key place k = (place.file == k.0) && (place.offset == k.1)

-- what is in a set, or everything where there is none
abbrev pub is_left : Option References → IdentityRef → Bool
is_left None place = true
is_left (Some refs) place = has refs place
