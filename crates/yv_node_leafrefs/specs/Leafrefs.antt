-- What is known of leafrefs that were read; how, only the readers ask.
use Rattle.std.specs.Prelude.{◌≡◌, ◌↔◌, ◌<◌, ◌^◌, ℕ, length, Some, None}
use Rattle.std.specs.List.{slice_index_or}
use Rattle.yv_text_statement.specs.Order.{IsLeast}
use Rattle.yv_node_leafrefs.specs.Schema.{Schema}
use Rattle.yv_node_leafrefs.specs.Targets.{RefersTo}
use Rattle.yv_node_leafrefs.specs.Bad.{BadLeafrefs}
use Rattle.yv_node_leafrefs.specs.declared.leafrefs.Leafrefs.{Leafrefs}

-- these are the leafrefs of a schema tree
pub record AreLeafrefs (s : Schema) (l : Leafrefs) : Type 0 where
  pub few : length s.rows < 2 ^ 32
  pub each : length l.targets.items ≡ length s.rows
  pub exact : (n target : ℕ) → (slice_index_or l.targets.items n None ≡ Some target)
      ↔ RefersTo s n target
  pub wrong : IsLeast (BadLeafrefs s) l.fault
