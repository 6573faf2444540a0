-- What is asked of tree diagrams.
use Rattle.std.specs.Prelude.{ℕ, List, Bool, Option}
use Rattle.yv_tree_drawing.specs.Steps.{Step}

-- how many levels of nodes are drawn, all where there is no number; the way to the node below which
-- nodes are shown, without a step where all are; and whether types begin in columns
pub record DrawingAsked : Type 0 where
  pub depth : Option ℕ
  pub below : List Step
  pub columns : Bool

-- the names of modules, in the order of their diagrams; how many files were named, which come
-- before the others; and the drawing of each diagram
pub record TreeAsked : Type 0 where
  pub modules : List (List ℕ)
  pub named_files : ℕ
  pub drawing : DrawingAsked
