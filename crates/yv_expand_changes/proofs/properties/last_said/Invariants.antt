use Rattle.std.proofs.Common.{◌≡◌, take}
use Rattle.yv_link_scopes.specs.Views.{lent_in}
use Rattle.yv_node_properties.specs.Marks.{stated_of}
use Rattle.yv_node_properties.specs.Properties.{last_said}
use Rattle.yv_expand_changes.proofs.properties.last_said.Given as goal

abbrev pub invariant-loop-number : goal.invariant-loop-number
invariant-loop-number l = l.said ≡ stated_of (last_said (lent_in l.rows) (take l.number-index l.numbers))
