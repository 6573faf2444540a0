use Rattle.std.proofs.Common.{◌≡◌, ◌+◌, map, string_bytes, string_cmp, take, All}
use Rattle.std.specs.List.Sorted.{IsSorted}
use Rattle.yv_folders.specs.Paths.{HasListed, path_count}
use Rattle.yv_folders.proofs.folder_list.list_folders.Given as goal

abbrev pub invariant-loop-name : goal.invariant-loop-name
invariant-loop-name g l =
    (map (λ f. string_bytes f.name) l.folders.items ≡ map string_bytes (take l.name-index l.names))
    × (path_count l.folders.items + l.room ≡ 65536)
    × All HasListed l.folders.items
    × All (λ f. IsSorted string_cmp f.paths.items) l.folders.items
