-- Only a private invariant cites this: the tables of a schema that a validator holds.
use Rattle.std.specs.Prelude.{ℕ, List, Option}
use Rattle.yv_nodes.specs.Rows.{Rows}
use Rattle.yv_data_quiet.specs.Quiet.{AreKnown}
use Rattle.yv_data_quiet.specs.Runs.{HasRuns}
use Rattle.yv_data_quiet.specs.declared.runs.RunTable.{RunTable}

-- what is known of its nodes, and the runs among their children, are this schema's
pub record AreTables (s : Rows) (known : List (Option ℕ)) (runs : RunTable) : Type 0 where
  pub nodes : AreKnown s known
  pub children : HasRuns s runs
