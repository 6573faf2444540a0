-- A schema tree whose leafrefs are resolved: the values of each have the types of its target (RFC
-- 7950, section 9.9).
use Rattle.std.specs.Prelude.{◌≡◌, ℕ, ◌<◌, length, None}
use Rattle.yv_text_statement.specs.Order.{IsLeast}
use Rattle.yv_text_statement.specs.declared.refusal.Refusal.{Refusal}
use Rattle.yv_nodes.specs.Numbers.{rows_from}
use Rattle.yv_nodes.specs.Tree.{Forest}
use Rattle.yv_nodes.specs.NodeTypes.{typed_from, types_at}
use Rattle.yv_node_leafrefs.specs.Schema.{Schema}
use Rattle.yv_node_leafrefs.specs.Targets.{HasTypesOf}
use Rattle.yv_node_leafrefs.specs.Bad.{BadLeafrefs}

-- these are the trees of a schema with its leafrefs resolved
pub record IsResolved (s : Schema) (stated resolved : Forest) : Type 0 where
  pub rows : s.rows ≡ rows_from 0 stated
  pub origin : ℕ → ℕ
  pub each : (n : ℕ) → n < length s.rows → HasTypesOf s n (origin n)
  pub is : resolved ≡ typed_from (λ n. types_at s.rows (origin n)) 0 stated

-- the tree of a schema: with its leafrefs resolved where nothing is wrong with them, and
-- else as it is stated, since it is refused
pub data IsTyped (s : Schema) (stated : Forest) : Forest → Type 0 where
  with_targets : {tree : Forest} → IsLeast (BadLeafrefs s) None → IsResolved s stated tree
      → IsTyped s stated tree
  with_refusal : {f : Refusal} → BadLeafrefs s f → IsTyped s stated stated
