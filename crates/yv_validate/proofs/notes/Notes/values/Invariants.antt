use Rattle.std.proofs.Common.{◌≡◌, drop}
use Rattle.yv_validate.specs.InnerNotes.{noted_at}
use Rattle.yv_validate.specs.Values.{all_values}
use Rattle.yv_validate.proofs.NoteGrowth.{behind}
use Rattle.yv_data_quiet.proofs.Leafs.{named_leafs}
use Rattle.yv_validate.proofs.notes.Notes.values.Given as goal

-- the values so far, and those of the leafs that are left
abbrev pub invariant-loop-leaf : goal.invariant-loop-leaf
invariant-loop-leaf l =
    behind l.tuple (all_values (noted_at l.schema l.self) (named_leafs (drop l.leaf-index l.leafs)))
    ≡ all_values (noted_at l.schema l.self) (named_leafs l.leafs)
