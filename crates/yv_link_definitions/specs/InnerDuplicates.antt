-- Only private clauses cite this: where the name of a definition is besides.
use Rattle.std.specs.Prelude.{◌≢◌, ℕ, ◌<◌, List}
use Rattle.yv_link_scopes.specs.Rows.{Row, name_in}
use Rattle.yv_link_scopes.specs.Scopes.{Encloses, IsNamed}
use Rattle.yv_link_scopes.specs.declared.kind.NameKind.{NameKind}

-- before it in its block
abbrev pub HasBefore : NameKind → List Row → ℕ → Row → Type 0
HasBefore kind rows k r = (e : ℕ) × (e < k) × IsNamed kind rows r.scope (name_in r) e

-- in a block around its own
abbrev pub HasAround : NameKind → List Row → Row → Type 0
HasAround kind rows r =
    (outer : ℕ) × (outer ≢ r.scope) × Encloses rows outer r.scope × (e : ℕ)
    × IsNamed kind rows outer (name_in r) e
