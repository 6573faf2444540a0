-- What the names of types and groupings mean where they are used (RFC 7950, sections 5.5, 7.4 and
-- 7.13).
use Rattle.std.specs.Prelude.{◌≡◌, ℕ, ◌&&◌, not, Bool, true, false, List, Some, None, codes, slice_get}
use Rattle.yv_link_scopes.specs.Files.{Briefs, has_word}
use Rattle.yv_link_scopes.specs.Rows.{Row, name_in}
use Rattle.yv_link_scopes.specs.Scopes.{MeansIn}
use Rattle.yv_link_scopes.specs.declared.kind.NameKind.{NameKind}
use Rattle.yv_link_scopes.specs.declared.kind.NameKind.TheVariants.{Typedef, Grouping}
use Rattle.yv_link_definitions.specs.BuiltIn.{is_built_in}

-- a statement is a `type`
abbrev pub is_type : Row → Bool
is_type r = has_word (codes "type") r.head

-- a statement is a `uses`
abbrev pub is_uses : Row → Bool
is_uses r = has_word (codes "uses") r.head

-- a type that isn't built-in names a typedef, and a uses names a grouping
abbrev pub names_definition : NameKind → Row → Bool
names_definition Typedef r = is_type r && not (is_built_in (name_in r))
names_definition Grouping r = is_uses r
names_definition kind r = false

-- the numbered statement names a definition of the kind, and there is none
abbrev pub IsUnknown : Briefs → List Row → NameKind → ℕ → Row → Type 0
IsUnknown files rows kind k r =
    (names_definition kind r ≡ true) × MeansIn files rows kind k (name_in r) None

-- it names definition d of the kind
pub record Refers (files : Briefs) (rows : List Row) (kind : NameKind) (k d : ℕ) : Type 0 where
  pub statement : Row
  pub at : slice_get rows k ≡ Some statement
  pub names : names_definition kind statement ≡ true
  pub means : MeansIn files rows kind k (name_in statement) (Some d)

-- what the type or the uses of a number means
abbrev pub RefersTo : Briefs → List Row → ℕ → ℕ → Type 0
RefersTo files rows k d = (kind : NameKind) × Refers files rows kind k d
