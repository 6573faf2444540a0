use Rattle.yv_documents.specs.InnerReply.{fault_result}
use Rattle.yv_documents.proofs.json_reply.put_result.Goals as goal

pub returns : goal.returns
unfolding fault_result
returns g c = c.put_fault_line.ensures
