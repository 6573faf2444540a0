-- Only private clauses cite this: what is at hand before a diagram is drawn.
use Rattle.std.specs.Prelude.{◌≡◌, ℕ, List, All}
use Rattle.yv_nodes.specs.declared.node.NodeId.{NodeId}
use Rattle.yv_nodes.specs.Rows.{AreTrees, Module, Rows, root}
use Rattle.yv_schema_tables.specs.Sound.{IsChild}
use Rattle.yv_tree.specs.Diagram.{tops}
use Rattle.yv_tree.specs.declared.sections.Part.{Part}
use Rattle.yv_tree.specs.declared.sections.Part.TheVariants.{Data, Rpcs, Notifications}

-- the nodes of a module at the top that belong to a part, in order
pub record AreTops (s : Rows) (own : ℕ) (part : Part) (cs : List NodeId) : Type 0 where
  pub all : cs ≡ tops s own part
  pub children : All (IsChild s root) cs
  pub trees : AreTrees s cs

-- the modules of a schema, and the nodes of each part
pub record AreReady (s : Rows) (own : ℕ) (modules : List Module)
    (data_nodes rpcs notifications : List NodeId) : Type 0 where
  pub known : modules ≡ s.modules
  pub data_tops : AreTops s own Data data_nodes
  pub rpc_tops : AreTops s own Rpcs rpcs
  pub notification_tops : AreTops s own Notifications notifications
