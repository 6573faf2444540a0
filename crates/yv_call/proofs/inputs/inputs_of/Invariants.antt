use Rattle.std.proofs.Common.{◌≡◌, length, map, string_bytes, take}
use Rattle.yv_base_streams.specs.Files.{file_of}
use Rattle.yv_call.specs.GivenFiles.{files_named}
use Rattle.yv_call.proofs.inputs.inputs_of.Given as goal

abbrev pub invariant-loop-place : goal.invariant-loop-place
invariant-loop-place l = record {
  files : map file_of l.inputs.items
      ≡ files_named (map string_bytes (take l.place l.names))
      (map (λ f. f.now) (take l.place l.files));
  each : length l.inputs.items ≡ l.place;
}
