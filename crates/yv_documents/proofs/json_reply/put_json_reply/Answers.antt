use Rattle.yv_documents.specs.InnerReply.{fault_result}
use Rattle.yv_documents.proofs.ReplyLemmas.{adds_both}
use Rattle.yv_documents.proofs.json_reply.put_json_reply.Goals as goal

pub returns : goal.returns
unfolding fault_result
returns g c = adds_both _ _ _ _ _ c.put_faults.ensures c.put_document_line.ensures
