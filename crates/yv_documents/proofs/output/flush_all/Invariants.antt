use Rattle.std.proofs.Common.{◌≡◌, ◌-◌, false}
use Rattle.std.specs.Io.KnownBytes.{Keeps}
use Rattle.yv_base_streams.specs.Stream.{stream_inner, stream_interrupts, has_failed}
use Rattle.yv_documents.proofs.output.flush_all.Given as goal

abbrev pub invariant-loop-writer : goal.invariant-loop-writer
invariant-loop-writer g l = record {
  works : has_failed l.writer ≡ false;
  kept : Keeps (g.W.Write.contents (stream_inner l.initial.writer)) (g.W.Write.contents (stream_inner l.writer));
}

abbrev pub decreases-loop-writer : goal.decreases-loop-writer
decreases-loop-writer g l = 1001 - stream_interrupts l.writer
