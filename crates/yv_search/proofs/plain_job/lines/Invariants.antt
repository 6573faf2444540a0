use Rattle.std.proofs.Common.{◌≡◌, ◌++◌, map, drop, string_bytes}
use Rattle.yv_base_streams.specs.Files.{file_of}
use Rattle.yv_search.specs.PlainJob.{lines_from}
use Rattle.yv_search.specs.InnerRoles.{is_required}
use Rattle.yv_search.proofs.plain_job.lines.Given as goal

abbrev pub invariant-loop-number : goal.invariant-loop-number
invariant-loop-number l = string_bytes l.text ++ lines_from (is_required l.requirements) l.named l.number (drop l.number (map file_of l.files)) (drop l.number l.roots) ≡ lines_from (is_required l.requirements) l.named 0 (map file_of l.files) l.roots
