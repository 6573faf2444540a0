-- Names of definitions that are used already.
use Rattle.std.specs.Prelude.{◌≡◌, ◌≢◌, ℕ, ◌<◌, Bool, true, false, List, Option, Some, None, if◌then◌else◌}
use Rattle.yv_link_scopes.specs.Files.{has_word}
use Rattle.yv_link_scopes.specs.Rows.{Row, name_in}
use Rattle.yv_link_scopes.specs.Tables.{word_of}
use Rattle.yv_link_scopes.specs.Scopes.{Encloses, IsNamed}
use Rattle.yv_link_scopes.specs.declared.kind.NameKind.{NameKind}
use Rattle.yv_link_scopes.specs.declared.kind.NameKind.TheVariants.{Typedef, Grouping, Feature, Identity, Extension}
use Rattle.yv_link_definitions.specs.BuiltIn.{is_built_in}

-- a statement is a definition of this kind
abbrev pub is_of : NameKind → Row → Bool
is_of kind r = has_word (word_of kind) r.head

-- what a statement defines
abbrev pub kind_defined : Row → Option NameKind
kind_defined r =
    if is_of Feature r then Some Feature
    else if is_of Identity r then Some Identity
    else if is_of Extension r then Some Extension
    else if is_of Typedef r then Some Typedef
    else if is_of Grouping r then Some Grouping
    else None

-- these may be defined in inner blocks
abbrev pub is_scoped : NameKind → Bool
is_scoped Typedef = true
is_scoped Grouping = true
is_scoped kind = false

-- The numbered definition has a name that an earlier one of its kind has in its block (RFC 7950,
-- section 6.2.1), or, if it is a typedef or a grouping, that one has in a block around its own,
-- before or after it (section 5.5), or, if it is a typedef, that a built-in type has (section
-- 7.3).
pub data IsTaken (rows : List Row) (k : ℕ) (r : Row) : Type 0 where
  again : {kind : NameKind} (e : ℕ) → kind_defined r ≡ Some kind → e < k
      → IsNamed kind rows r.scope (name_in r) e → IsTaken rows k r
  outside : {kind : NameKind} {outer : ℕ} (e : ℕ) → kind_defined r ≡ Some kind
      → is_scoped kind ≡ true → outer ≢ r.scope → Encloses rows outer r.scope
      → IsNamed kind rows outer (name_in r) e → IsTaken rows k r
  built_in : kind_defined r ≡ Some Typedef → is_built_in (name_in r) ≡ true → IsTaken rows k r
