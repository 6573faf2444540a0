-- Inner definitions: how a `Plan` keeps what is known of statements. Public clauses cite `IsPlan`
-- and `whole_in` alone.
use Rattle.std.specs.Prelude.{◌≡◌, ℕ, ◌<◌, List, length, Some, None, slice_get, slice_index_or}
use Rattle.std.specs.Option.{unwrap_or}
use Rattle.yv_base_tables.specs.Families.{by_place}
use Rattle.yv_link_scopes.specs.Files.{Briefs, module_file_at}
use Rattle.yv_link_scopes.specs.Views.{files_in, rows_in}
use Rattle.yv_expand_paths.specs.PathTables.{AreNames, ArePaths}
use Rattle.yv_expand_uses.specs.AugmentOrder.{giving_places, ordinal, place_of}
use Rattle.yv_expand_uses.specs.Spots.{Whole}
use Rattle.yv_expand_uses.specs.RefineTargets.{refine_places}
use Rattle.yv_expand_uses.specs.AugmentOrder.{augment_places}
use Rattle.yv_expand_uses.specs.declared.plan.Plan.{Plan}

-- for each file that of its module; a file past the last is its own
abbrev pub AreModuleFiles : Briefs → List ℕ → Type 0
AreModuleFiles files module_files =
    (n : ℕ) → unwrap_or (slice_get module_files n) n ≡ module_file_at files n

abbrev pub whole_in : Plan → Whole
whole_in plan = record {
  files = files_in plan.rows.now;
  rows = rows_in plan.rows.now;
  augments = plan.augments.now;
  items = length plan.items.now;
}

pub record IsPlan (plan : Plan) : Type 0 where
  pub module_files : AreModuleFiles (files_in plan.rows.now) plan.module_files.items
  pub names : AreNames (rows_in plan.rows.now) plan.names
  pub paths : ArePaths (files_in plan.rows.now) (rows_in plan.rows.now) plan.paths
  pub places : plan.places.items ≡ giving_places (rows_in plan.rows.now)
  pub giving : plan.giving
      ≡ by_place (giving_places (rows_in plan.rows.now)) (length (rows_in plan.rows.now))
  pub within : (a block : ℕ)
      → slice_get (giving_places (rows_in plan.rows.now)) a ≡ Some (Some block)
      → block < length (rows_in plan.rows.now)
  pub ordinals : (a : ℕ)
      → slice_index_or plan.ordinals.items a 0 ≡ ordinal (rows_in plan.rows.now) a
  pub modules : (a : ℕ) → a < length (rows_in plan.rows.now)
      → slice_index_or plan.modules.items a None ≡ place_of plan.augments.now a
  pub blocks : plan.blocks
      ≡ by_place (augment_places (rows_in plan.rows.now)) (length (rows_in plan.rows.now))
  pub refines : plan.refines
      ≡ by_place (refine_places (rows_in plan.rows.now)) (length (rows_in plan.rows.now))
  pub refines_nested : (a block : ℕ)
      → slice_get (refine_places (rows_in plan.rows.now)) a ≡ Some (Some block)
      → block < length (rows_in plan.rows.now)
  pub nested : (a block : ℕ)
      → slice_get (augment_places (rows_in plan.rows.now)) a ≡ Some (Some block)
      → block < length (rows_in plan.rows.now)
