use Rattle.std.proofs.Common.{◌≡◌, ◌++◌, drop}
use Rattle.yv_link_scopes.specs.Views.{lent_in}
use Rattle.yv_expand_refines.specs.Changes.{each}
use Rattle.yv_expand_changes.specs.Properties.{said_of_all}
use Rattle.yv_expand_changes.proofs.properties.said_of_all.Given as goal

abbrev pub invariant-loop-number : goal.invariant-loop-number
invariant-loop-number l =
    l.said.items ++ said_of_all (lent_in l.rows) (drop l.number l.items) (drop l.number (each l.changes)) ≡ said_of_all (lent_in l.rows) l.items (each l.changes)
