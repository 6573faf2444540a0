use Rattle.std.proofs.Common.{◌≡◌, ◌≤◌, ◌+◌, ◌-◌, false, vec_len}
use Rattle.std.specs.Io.KnownBytes.{Consumes}
use Rattle.yv_base_streams.specs.Stream.{stream_inner, stream_interrupts, has_failed}
use Rattle.yv_base_streams.proofs.stream.read_up_to.Given as goal

abbrev pub invariant-loop-bytes : goal.invariant-loop-bytes
invariant-loop-bytes g l = record {
  works : has_failed l.reader ≡ false;
  within : vec_len l.bytes ≤ l.limit;
  given : Consumes (g.R.Read.remaining (stream_inner l.initial.reader)) (g.R.Read.remaining (stream_inner l.reader)) l.bytes.items;
}

abbrev pub decreases-loop-bytes : goal.decreases-loop-bytes
decreases-loop-bytes g l = (l.limit - vec_len l.bytes) + (1001 - stream_interrupts l.reader)
