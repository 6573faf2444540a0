use Rattle.std.proofs.Common.{drop, map}
use Rattle.yv_note_faults.specs.Sentences.{marked_faults}
use Rattle.yv_note_faults.proofs.Marks.{LeavesMarked}
use Rattle.yv_note_faults.proofs.choice.push_marked.Given as goal

abbrev pub invariant-loop-number : goal.invariant-loop-number
invariant-loop-number l =
    LeavesMarked l.most (map (λ f. f.now) l.fn.those.items) (marked_faults l.mark l.faults l.marks) (map (λ f. f.now) l.those.items)
    (marked_faults l.mark (drop l.number l.faults) (drop l.number l.marks))
