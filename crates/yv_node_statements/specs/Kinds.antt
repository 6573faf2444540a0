-- What the `type` statements of files mean: plain types, a default, and what they say as
-- leafrefs (RFC 7950, sections 7.3.4, 7.4 and 9).
use Rattle.std.specs.Prelude.{◌≡◌, ◌⊎◌, ℕ, List, [], Option, Some, None, codes}
use Rattle.yv_text_statement.specs.Selection.{ModuleChoice}
use Rattle.yv_link_scopes.specs.Files.{Files}
use Rattle.yv_link_scopes.specs.RowList.{rows_of}
use Rattle.yv_link_definitions.specs.References.{number_at}
use Rattle.yv_type_enums.specs.Types.{Truth}
use Rattle.yv_values.specs.Types.{Plain}
use Rattle.yv_types.specs.Defaults.{IsDefault}
use Rattle.yv_types.specs.Referrals.{IsReferring}
use Rattle.yv_types.specs.Spaces.{Space}
use Rattle.yv_text_statement.specs.TextInFile.{TextInFile}
use Rattle.yv_types.specs.declared.leafref_path.TypeLeafref.{TypeLeafref}

-- the plain types of the `type` statement at an offset of a file
abbrev pub Kinds : Type 0
Kinds = ℕ → ℕ → List Plain

-- these are the plain types of the numbered statement; no types, where it has none
abbrev pub IsKind : Files → ModuleChoice → Truth → ℕ → List Plain → Type 0
IsKind files choice truth k ps =
    Space files truth choice k ps
    ⊎ (((qs : List Plain) → Space files truth choice k qs → ⊥) × (ps ≡ []))

-- these are the plain types of the statement of this number; no types, where there is no statement
abbrev pub IsKindOf : Files → ModuleChoice → Truth → Option ℕ → List Plain → Type 0
IsKindOf files choice truth None ps = ps ≡ []
IsKindOf files choice truth (Some k) ps = IsKind files choice truth k ps

-- the plain types of all `type` statements of these files, where this is chosen of them and these
-- conditions hold
abbrev pub AreKinds : Files → ModuleChoice → Truth → Kinds → Type 0
AreKinds files choice truth kinds =
    (file offset : ℕ) → IsKindOf files choice truth
    (number_at (rows_of files) (codes "type") file offset) (kinds file offset)

-- the default that the `type` statement at an offset of a file has by its typedefs
abbrev pub TypeDefaults : Type 0
TypeDefaults = ℕ → ℕ → Option TextInFile

-- the defaults of all `type` statements of these files
abbrev pub AreTypeDefaults : Files → TypeDefaults → Type 0
AreTypeDefaults files defaults =
    (file offset : ℕ) → IsDefault files (number_at (rows_of files) (codes "type") file offset)
    (defaults file offset)

-- what the `type` statement at an offset of a file says as a leafref
abbrev pub TypeReferrals : Type 0
TypeReferrals = ℕ → ℕ → Option TypeLeafref

-- what all `type` statements of these files say so
abbrev pub AreTypeReferrals : Files → TypeReferrals → Type 0
AreTypeReferrals files referrals =
    (file offset : ℕ) → IsReferring files (number_at (rows_of files) (codes "type") file offset)
    (referrals file offset)

-- what `type` statements mean
pub record TypeMeanings : Type 0 where
  pub kinds : Kinds
  pub defaults : TypeDefaults
  pub referrals : TypeReferrals

-- this is what the `type` statements of these files mean
pub record AreTyped (files : Files) (choice : ModuleChoice) (truth : Truth)
    (typing : TypeMeanings) : Type 0 where
  pub kinds : AreKinds files choice truth typing.kinds
  pub defaults : AreTypeDefaults files typing.defaults
  pub referrals : AreTypeReferrals files typing.referrals
