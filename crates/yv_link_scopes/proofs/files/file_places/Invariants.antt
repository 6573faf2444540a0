use Rattle.std.proofs.Common.{◌≡◌, ℕ, List, map, take}
use Rattle.yv_link_scopes.specs.Tables.{table_of}
use Rattle.yv_link_scopes.specs.Files.{file_named, brief}
use Rattle.yv_link_scopes.proofs.files.file_places.Given as goal

abbrev pub invariant-loop-number : goal.invariant-loop-number
invariant-loop-number l = (name : List ℕ) → table_of l.places 0 name ≡ file_named (take l.number (map brief l.files)) name
