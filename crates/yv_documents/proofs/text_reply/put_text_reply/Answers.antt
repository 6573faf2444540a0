use Rattle.yv_batch.specs.Label.{label_of}
use Rattle.yv_documents.proofs.ReplyLemmas.{adds_as, adds_both, reply_added}
use Rattle.yv_documents.proofs.text_reply.put_text_reply.Goals as goal

pub returns : goal.returns
returns g c =
    adds_as _ _ _ _ (reply_added (label_of c.args.name.now c.args.line) c.args.reply.now.faults.now c.args.reply.now.verdict _ c.cost_in.ensures)
    (adds_both _ _ _ _ _ c.put_label_faults.ensures (adds_both _ _ _ _ _ c.put_label_verdict.ensures c.put_cost.ensures))
