use Rattle.std.proofs.Common.{flat_map, take}
use Rattle.yv_base_streams.specs.Stream.{has_failed, stream_failures, stream_inner}
use Rattle.yv_base_streams.specs.Pages.{Adds, output_of}
use Rattle.yv_data_faults.specs.Flaw.{Flaw}
use Rattle.yv_documents.specs.InnerReply.{fault_result}
use Rattle.yv_documents.proofs.json_reply.put_faults.Given as goal

abbrev pub invariant-loop-fault : goal.invariant-loop-fault
invariant-loop-fault g l =
    Adds (flat_map (λ (f : Flaw). fault_result l.name l.line f) (take l.fault-index l.faults))
    (output_of (g.W.Write.contents (stream_inner l.initial.writer)) (has_failed l.initial.writer) (stream_failures l.initial.writer) l.initial.page)
    (output_of (g.W.Write.contents (stream_inner l.writer)) (has_failed l.writer) (stream_failures l.writer) l.page)
