-- References to identities.
use Rattle.std.specs.Prelude.{◌≡◌, ℕ, ◌<◌, ◌==◌, ◌&&◌, ◌↔◌, Bool, List, length, map, Option, Some, slice_get, slice_index}
use Rattle.std.specs.List.{Contains}
use Rattle.std.specs.Option.{option_map, option_and_then}
use Rattle.yv_link_scopes.specs.Names.{first_where}
use Rattle.yv_link_scopes.specs.Files.{Briefs}
use Rattle.yv_link_scopes.specs.Rows.{Row}
use Rattle.yv_link_identities.specs.Names.{is_identity, meaning_of}
use Rattle.yv_link_identities.specs.Derivation.{IsDerivedFrom}
use Rattle.yv_link_identities.specs.declared.references.IdentityRef.{IdentityRef}

-- a statement's file and offset
abbrev pub ref_of : Row → IdentityRef
ref_of r = record { file = r.file; offset = r.head.offset }

-- the references to the statements of these numbers
abbrev pub refs_of : List Row → List ℕ → List (Option IdentityRef)
refs_of rows numbers = map (λ k. option_map ref_of (slice_get rows k)) numbers

-- whether a statement is at the place of a reference
abbrev pub is_at : IdentityRef → IdentityRef → Bool
is_at ref r = (r.file == ref.file) && (r.offset == ref.offset)

-- the number of the identity that a reference means: the first at that offset of that file
abbrev pub number_of : List Row → IdentityRef → Option ℕ
number_of rows ref = first_where (λ r. is_identity r && is_at ref (ref_of r)) rows

-- a reference to the identity that a name means in a file
abbrev pub reference_of : Briefs → List Row → ℕ → List ℕ → Option IdentityRef
reference_of files rows file name =
    option_and_then (λ k. option_map ref_of (slice_get rows k)) (meaning_of files rows file name)

-- the reference means an identity that is derived from that of the other
pub record IsDerived (files : Briefs) (rows : List Row) (identity base : IdentityRef) : Type 0 where
  pub number : ℕ
  pub base_number : ℕ
  pub meant : number_of rows identity ≡ Some number
  pub base_meant : number_of rows base ≡ Some base_number
  pub derived : IsDerivedFrom files rows number base_number

-- numbers ascend
abbrev pub IsAscending : List ℕ → Type 0
IsAscending numbers =
    (i j : ℕ) → i < j → j < length numbers → slice_index numbers i < slice_index numbers j

-- these are all identities that are derived from that of the reference, in the order of the
-- statements
pub record AreDescendants (files : Briefs) (rows : List Row) (base : IdentityRef)
    (refs : List IdentityRef) : Type 0 where
  pub numbers : List ℕ
  pub ascending : IsAscending numbers
  pub exact : (k : ℕ) → Contains numbers k
      ↔ ((b : ℕ) × (number_of rows base ≡ Some b) × IsDerivedFrom files rows k b)
  pub each : map Some refs ≡ refs_of rows numbers
