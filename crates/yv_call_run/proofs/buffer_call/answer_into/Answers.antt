use Rattle.std.proofs.Common.{ap, List, ℕ, map, refl, Bor, ◌++◌, ◌∷◌, [], codes}
use Rattle.yv_call_run.specs.BufferCalls.{fills, refuses, stops}
use Rattle.yv_call_run.specs.Calls.{CallInput}
use Rattle.yv_call_run.proofs.buffer_call.answer_into.Goals as goal

-- what parts hold
abbrev held : List (Bor (List ℕ)) → List (List ℕ)
held parts = map (λ (part : Bor (List ℕ)). part.now) parts

pub returns-in-Ok-Some : goal.returns-in-Ok-Some
returns-in-Ok-Some c = λ b words word_ends files file_ends documents document_ends.
    let given : CallInput = record {
      words = held c.deref.result.now;
      files = held c.deref-in-Ok-Some.result.now;
      documents = held c.deref-in-Ok-Some-2.result.now;
    } in
    let has = (rw c.in-Ok-Some.field-0-is at c.in-Ok-Some.ensures) b words word_ends files file_ends documents document_ends in
    fills given
    (has given (ap held c.deref.ensures.value) (ap held c.deref-in-Ok-Some.ensures.value)
    (ap held c.deref-in-Ok-Some-2.ensures.value))
    (c.fill.ensures given refl refl refl)

pub returns-in-Ok-None : goal.returns-in-Ok-None
returns-in-Ok-None c = λ b words word_ends files file_ends documents document_ends.
    refuses ((rw c.in-Ok-None.field-0-is at c.in-Ok-None.ensures) b words word_ends files file_ends documents document_ends)
    c.put_line.ensures.status c.put_line.ensures.output c.put_line.ensures.note
    c.put_line.ensures.fills

pub returns-in-Err : goal.returns-in-Err
returns-in-Err c = λ b words word_ends files file_ends documents document_ends.
    stops (codes "yangcheck: out of memory" ++ 10 ∷ []) c.put_line-in-Err.ensures.status
    c.put_line-in-Err.ensures.output c.put_line-in-Err.ensures.note c.put_line-in-Err.ensures.fills
