-- A way down a schema: steps to a node, as a command line writes them.
use Rattle.std.specs.Prelude.{ℕ, List, Option}

-- a step to a node: its module, where the step gives one, and its name
pub record Step : Type 0 where
  pub «module» : Option (List ℕ)
  pub name : List ℕ
