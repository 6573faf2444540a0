use Rattle.std.proofs.Common.{◌≡◌, All, length, map, take}
use Rattle.yv_link_scopes.specs.Views.{files_in, rows_in}
use Rattle.yv_note_statements.specs.Entries.{MarkRoots, kind_of, row_of}
use Rattle.yv_note_statements.proofs.entry.entries.Given as goal

abbrev pub invariant-loop-number : goal.invariant-loop-number
invariant-loop-number l =
    (map row_of l.entries.items ≡ take l.number (rows_in l.rows))
    × (All (λ entry. entry.kind ≡ kind_of (row_of entry)) l.entries.items
    × (MarkRoots (length (files_in l.rows)) l.entries.items
    × (length l.entries.items ≡ l.number)))
