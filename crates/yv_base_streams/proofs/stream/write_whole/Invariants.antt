use Rattle.std.proofs.Common.{◌≡◌, ◌≤◌, ◌+◌, ◌-◌, false, length, take}
use Rattle.std.specs.Io.KnownBytes.{Appends}
use Rattle.yv_base_streams.specs.Stream.{stream_inner, stream_interrupts, has_failed}
use Rattle.yv_base_streams.proofs.stream.write_whole.Given as goal

abbrev pub invariant-loop-written : goal.invariant-loop-written
invariant-loop-written g l = record {
  works : has_failed l.writer ≡ false;
  within : l.written ≤ length l.bytes;
  held : Appends (g.W.Write.contents (stream_inner l.initial.writer)) (g.W.Write.contents (stream_inner l.writer)) (take l.written l.bytes);
}

abbrev pub decreases-loop-written : goal.decreases-loop-written
decreases-loop-written g l = (length l.bytes - l.written) + (1001 - stream_interrupts l.writer)
