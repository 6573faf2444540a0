-- What is derived from the bases of an identityref type (RFC 7950, sections 9.10.2 and 7.18.2).
use Rattle.std.specs.Prelude.{◌≡◌, ℕ, true, List, Some, slice_get}
use Rattle.yv_link_scopes.specs.Files.{Briefs}
use Rattle.yv_link_scopes.specs.Rows.{Row, name_in}
use Rattle.yv_link_identities.specs.Names.{is_base}
use Rattle.yv_link_identities.specs.Derivation.{IsDerivedFrom}
use Rattle.yv_link_identities.specs.References.{number_of, ref_of, reference_of}
use Rattle.yv_link_identities.specs.declared.references.IdentityRef.{IdentityRef}

-- a type names a base: one of the base statements in the block of the type statement has a name
-- that means it
pub record NamesBase (files : Briefs) (rows : List Row) (kind : ℕ)
    (base : IdentityRef) : Type 0 where
  pub number : ℕ
  pub statement : Row
  pub stands : slice_get rows number ≡ Some statement
  pub names : is_base statement ≡ true
  pub inside : statement.scope ≡ kind
  pub means : reference_of files rows statement.file (name_in statement) ≡ Some base

-- an identity that is at the place is derived from the base
pub record IsBelow (files : Briefs) (rows : List Row) (place base : IdentityRef) : Type 0 where
  pub number : ℕ
  pub statement : Row
  pub stands : slice_get rows number ≡ Some statement
  pub is_there : ref_of statement ≡ place
  pub base_number : ℕ
  pub base_meant : number_of rows base ≡ Some base_number
  pub derived : IsDerivedFrom files rows number base_number

-- it is derived from every base that the type names
abbrev pub IsBelowAll : Briefs → List Row → ℕ → IdentityRef → Type 0
IsBelowAll files rows kind place =
    (base : IdentityRef) → NamesBase files rows kind base → IsBelow files rows place base
