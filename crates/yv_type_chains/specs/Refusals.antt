-- What is wrong with the types (RFC 7950, sections 7.3.2, 7.4 and 9).
use Rattle.std.specs.Prelude.{◌≡◌, ℕ, ◌&&◌, ◌⊎◌, not, Bool, true, List, length, map, Some, codes, slice_get}
use Rattle.yv_text_statement.specs.Order.{Stands, Among, refusal_at}
use Rattle.yv_text_statement.specs.declared.refusal.Refusal.{Refusal}
use Rattle.yv_text_statement.specs.declared.refusal.Code.TheVariants as code
use Rattle.yv_link_scopes.specs.Files.{Files, Briefs, brief_of}
use Rattle.yv_link_scopes.specs.Rows.{Row, name_in}
use Rattle.yv_link_scopes.specs.RowList.{rows_of}
use Rattle.yv_link_definitions.specs.BuiltIn.{is_built_in}
use Rattle.yv_link_definitions.specs.Refers.{is_type}
use Rattle.yv_type_chains.specs.Kinds.{is_of_built_in, is_foreign, needs, needs_any}
use Rattle.yv_type_chains.specs.Types.{HasKind, is_union}
use Rattle.yv_type_chains.specs.Counts.{HasTooMany}

-- statement c is in the block of k
abbrev pub IsChild : List Row → ℕ → ℕ → Row → Type 0
IsChild rows k c s = (slice_get rows c ≡ Some s) × (s.scope ≡ k)

-- a type that names a typedef
abbrev pub is_derived : Row → Bool
is_derived r = is_type r && not (is_built_in (name_in r))

-- type k doesn't take the substatement: the built-in type to which it leads never does, or only
-- that type itself does
pub data IsMisfit (files : Briefs) (rows : List Row) (k : ℕ) (s : Row) : Type 0 where
  foreign : {kind : List ℕ} → HasKind files rows k kind → is_foreign kind s.head.keyword ≡ true
      → IsMisfit files rows k s
  not_inheritable : {r : Row} → slice_get rows k ≡ Some r → is_derived r ≡ true
      → is_of_built_in s.head.keyword ≡ true → IsMisfit files rows k s

-- Type k has a substatement that it doesn't take, or names a built-in type and lacks what that must
-- have, or it leads to leafref and is a member of a union.
pub data IsBadType (files : Briefs) (rows : List Row) (k : ℕ) (r : Row) : Type 0 where
  misfit : (c : ℕ) {s : Row} → IsChild rows k c s → IsMisfit files rows k s
      → IsBadType files rows k r
  lacks_one : is_type r ≡ true → needs_any (name_in r) ≡ true
      → ((c : ℕ) (s : Row) → IsChild rows k c s → needs (name_in r) s.head.keyword ≡ true → ⊥)
      → IsBadType files rows k r
  leafref_in_union : {u : Row} → HasKind files rows k (codes "leafref")
      → slice_get rows r.scope ≡ Some u → is_union u ≡ true → IsBadType files rows k r

-- what is wrong with the numbered statement
abbrev pub BadRow : Briefs → List Row → ℕ → Row → Refusal → Type 0
BadRow files rows k r f =
    Stands (IsBadType files rows k r) (refusal_at code.BadType r.file r.head) f
    ⊎ Stands (HasTooMany files rows k) (refusal_at code.TooManyMembers r.file r.head) f

-- what is wrong with one of the statements
abbrev pub BadIn : Briefs → List Row → Refusal → Type 0
BadIn files rows f = Among rows (BadRow files rows) (length rows) f

-- what is wrong with the types in files
abbrev pub BadKinds : Files → Refusal → Type 0
BadKinds files f = BadIn (map brief_of files) (rows_of files) f
