use Rattle.std.proofs.Common.{◌≡◌, map, take}
use Rattle.yv_link_scopes.specs.Views.{lent_in}
use Rattle.yv_expand_changes.specs.InnerProperties.{said_by_refines}
use Rattle.yv_expand_changes.proofs.properties.sequences_said.Given as goal

abbrev pub invariant-loop-sequence : goal.invariant-loop-sequence
invariant-loop-sequence l = l.said.items ≡ map (said_by_refines (lent_in l.rows)) (take l.sequence l.changes.sequences)
