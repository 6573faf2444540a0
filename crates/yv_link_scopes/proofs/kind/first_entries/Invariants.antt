use Rattle.std.proofs.Common.{◌≡◌, ℕ, List, map, take}
use Rattle.yv_link_scopes.specs.Tables.{table_of, first_of}
use Rattle.yv_link_scopes.specs.Rows.{row}
use Rattle.yv_link_scopes.proofs.kind.first_entries.Given as goal

abbrev pub invariant-loop-number : goal.invariant-loop-number
invariant-loop-number l = (s : ℕ) (n : List ℕ) → table_of l.places s n ≡ first_of l.kind (take l.number (map row l.entries)) s n
