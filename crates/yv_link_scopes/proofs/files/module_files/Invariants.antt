use Rattle.std.proofs.Common.{◌≡◌, ℕ, ◌<◌, length, get_or, map}
use Rattle.yv_link_scopes.specs.Files.{brief, module_file_at}
use Rattle.yv_link_scopes.proofs.files.module_files.Given as goal

abbrev pub invariant-loop-number : goal.invariant-loop-number
invariant-loop-number l = record {
  each : length l.module_files.items ≡ l.number;
  module_file : (k : ℕ) → k < l.number → get_or l.module_files.items k 0 ≡ module_file_at (map brief l.files) k;
}
