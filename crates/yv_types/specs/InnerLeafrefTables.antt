-- Inner definitions, which only private clauses and the table cite: what types say as leafrefs, by
-- number.
use Rattle.std.specs.Prelude.{ℕ, List, Option}
use Rattle.yv_base_tables.specs.Slots.{at}
use Rattle.yv_link_scopes.specs.Files.{Files}
use Rattle.yv_types.specs.Referrals.{HasReferral}
use Rattle.yv_types.specs.declared.leafref_path.TypeLeafref.{TypeLeafref}

-- the table has what these types say
abbrev pub AreFound : Files → (ℕ → Type 0) → List (Option TypeLeafref) → Type 0
AreFound files Those found = (k : ℕ) → Those k → HasReferral files k (at found k)
