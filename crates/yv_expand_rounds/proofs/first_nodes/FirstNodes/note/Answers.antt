use Rattle.yv_expand_rounds.proofs.FirstNodeLemmas.{are_first_more, are_first_still}
use Rattle.yv_expand_rounds.proofs.GroupMembers.{on_err}
use Rattle.yv_expand_rounds.proofs.first_nodes.FirstNodes.note.Goals as goal

pub returns-in_err-note_item-clause-keeps : goal.returns-in_err-note_item-clause-keeps
returns-in_err-note_item-clause-keeps c = λ items are.
    on_err c.from_residual.result
    (are_first_still c.args.labels.now items c.args.self.now c.note_item.new.self are c.in_err-note_item.ensures.stay)

pub returns-clause-notes : goal.returns-clause-notes
returns-clause-notes c = λ items are.
    are_first_more c.args.labels.now items c.args.item c.args.self.now c.note_item.new.self are c.in_ok-note_item.ensures.names
