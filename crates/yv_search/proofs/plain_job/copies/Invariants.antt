use Rattle.std.proofs.Common.{◌≡◌, map, take, string_bytes}
use Rattle.yv_search.proofs.plain_job.copies.Given as goal

abbrev pub invariant-loop-name : goal.invariant-loop-name
invariant-loop-name l = map string_bytes l.names.items ≡ take l.name-index (map string_bytes l.given)
