use Rattle.std.proofs.Common.{◌≡◌, ◌<◌, ℕ, None}
use Rattle.yv_expand_statements.specs.declared.origin.Origin.TheVariants as origin
use Rattle.yv_node_statements.specs.Context.{files_in, typing_in}
use Rattle.yv_node_statements.specs.Definitions.{leafref_of}
use Rattle.yv_schema.proofs.leafrefs.has_leafrefs.Given as goal

-- those before this one define none
abbrev pub invariant-loop-number : goal.invariant-loop-number
invariant-loop-number l = (k : ℕ) → k < l.number → leafref_of (typing_in l.definitions) (files_in l.definitions) (origin.Statement k) ≡ None
