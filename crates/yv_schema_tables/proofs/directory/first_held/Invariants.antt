use Rattle.std.proofs.Common.{◌≡◌, drop}
use Rattle.yv_schema_tables.specs.InnerTables.{first_held}
use Rattle.yv_schema_tables.proofs.directory.first_held.Given as goal

abbrev pub invariant-loop-held : goal.invariant-loop-held
invariant-loop-held l = first_held (drop l.held-index l.nodes) l.member ≡ first_held l.nodes l.member
