use Rattle.std.proofs.Common.{◌≡◌, ◌++◌, drop, map}
use Rattle.yv_link_scopes.specs.Files.{brief_of}
use Rattle.yv_link_scopes.specs.Views.{lent_in}
use Rattle.yv_expand_statements.specs.FileOrder.{part_places, places_from}
use Rattle.yv_expand_tree.proofs.file_order.part_places.Given as goal

abbrev pub invariant-loop-file : goal.invariant-loop-file
invariant-loop-file l = l.places.items ++ places_from (map brief_of (lent_in l.rows)) l.file (drop l.file (lent_in l.rows)) ≡ part_places (lent_in l.rows)
