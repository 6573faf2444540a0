-- What is known of units that were read.
use Rattle.std.specs.Prelude.{◌≡◌, ℕ, ◌<◌, List, length, map, slice_index_or}
use Rattle.yv_link_scopes.specs.Files.{Files, Briefs, brief_of}
use Rattle.yv_link_scopes.specs.Rows.{Row}
use Rattle.yv_link_scopes.specs.RowList.{rows_of}
use Rattle.yv_expand_statements.specs.Units.{saturate}
use Rattle.yv_expand_statements.specs.Weigh.{Weighs}
use Rattle.yv_expand.specs.declared.weights.Units.{Units}

-- each statement takes a number of units, which is known saturated
abbrev pub AreWeights : Briefs → List Row → List ℕ → Type 0
AreWeights files rows weights = (k : ℕ) → k < length rows
    → (n : ℕ) × Weighs files rows k n × (slice_index_or weights k 0 ≡ saturate n)

-- these are the units of these files; how, only the reader asks
pub record AreUnits (files : Files) (units : Units) : Type 0 where
  pub weights : AreWeights (map brief_of files) (rows_of files) units.weights.items
