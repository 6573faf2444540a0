use Rattle.std.proofs.Common.{◌≤◌, ◌-◌, length, take}
use Rattle.yv_base_streams.specs.Stream.{has_failed, stream_failures, stream_inner}
use Rattle.yv_base_streams.specs.Pages.{Adds, output_of}
use Rattle.yv_base_streams.proofs.page.Page.put.Given as goal

abbrev pub invariant-loop-count : goal.invariant-loop-count
invariant-loop-count g l = record {
  within : l.count ≤ length l.bytes;
  paged : Adds (take l.count l.bytes) (output_of (g.W.Write.contents (stream_inner l.initial.writer)) (has_failed l.initial.writer) (stream_failures l.initial.writer) l.initial.self)
      (output_of (g.W.Write.contents (stream_inner l.writer)) (has_failed l.writer) (stream_failures l.writer) l.self);
}

abbrev pub decreases-loop-count : goal.decreases-loop-count
decreases-loop-count g l = length l.bytes - l.count
