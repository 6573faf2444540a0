-- What is known of the types of files as leafrefs, where they were read.
use Rattle.std.specs.Prelude.{ℕ, Option}
use Rattle.yv_link_scopes.specs.Files.{Files}
use Rattle.yv_base_tables.specs.Sparse.{at}
use Rattle.yv_types.specs.Referrals.{HasReferral}
use Rattle.yv_types.specs.declared.leafref_types.LeafrefTypes.{LeafrefTypes}
use Rattle.yv_types.specs.declared.leafref_path.TypeLeafref.{TypeLeafref}

-- what the numbered type says
abbrev pub found_in : LeafrefTypes → ℕ → Option TypeLeafref
found_in types k = at types.found k

-- this is what the types of these files say; how, only the readers ask
pub record AreLeafrefTypes (files : Files) (types : LeafrefTypes) : Type 0 where
  pub each : (k : ℕ) → HasReferral files k (found_in types k)
