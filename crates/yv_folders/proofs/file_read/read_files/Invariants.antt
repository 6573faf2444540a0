use Rattle.std.proofs.Common.{◌≡◌, length, map, string_bytes, take}
use Rattle.yv_base_streams.specs.Files.{file_of}
use Rattle.yv_folders.proofs.file_read.read_files.Given as goal

abbrev pub invariant-loop-place : goal.invariant-loop-place
invariant-loop-place g l =
    (length l.inputs.items ≡ l.place)
    × (map (λ i. (file_of i).name) l.inputs.items ≡ map string_bytes (take l.place l.names))
