-- Which identities are derived from which.
use Rattle.std.specs.Prelude.{ℕ, List}
use Rattle.yv_link_scopes.specs.Files.{Briefs}
use Rattle.yv_link_scopes.specs.Rows.{Row}
use Rattle.yv_link_identities.specs.Names.{HasBase}

-- an identity is derived from the bases that it names, and from all that these are derived from; so
-- from itself only on a cycle (RFC 7950, section 7.18.2)
pub data IsDerivedFrom (files : Briefs) (rows : List Row) : ℕ → ℕ → Type 0 where
  directly : {i b : ℕ} → HasBase files rows i b → IsDerivedFrom files rows i b
  further : {i b c : ℕ} → HasBase files rows i b → IsDerivedFrom files rows b c
      → IsDerivedFrom files rows i c
