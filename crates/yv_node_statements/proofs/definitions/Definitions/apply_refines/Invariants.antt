use Rattle.std.proofs.Common.{◌≡◌, drop}
use Rattle.yv_node_statements.specs.InnerChanges.{apply_statements}
use Rattle.yv_node_statements.specs.Context.{files_in}
use Rattle.yv_node_statements.proofs.definitions.Definitions.apply_refines.Given as goal

-- with the changes of the refines behind, the definition has all
abbrev pub invariant-loop-refine : goal.invariant-loop-refine
invariant-loop-refine l = apply_statements (files_in l.self) (drop l.refine-index l.refines) l.definition ≡ apply_statements (files_in l.self) l.refines l.initial.definition
