-- The statements from which schema nodes come.
use Rattle.std.specs.Prelude.{ℕ}
use Rattle.yv_expand_statements.specs.declared.origin.Origin.{Origin}
use Rattle.yv_expand_statements.specs.declared.origin.Origin.TheVariants.{Statement, Input, Output}

-- the number of the statement: the one that gives the node, or the operation that does not write
-- its input or output
abbrev pub number_of : Origin → ℕ
number_of (Statement k) = k
number_of (Input k) = k
number_of (Output k) = k
