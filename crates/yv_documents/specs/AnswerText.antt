-- What an answer to documents says of each, and after them.
use Rattle.std.specs.Prelude.{ℕ, List}
use Rattle.yv_batch.specs.AskedDocument.{AskedDocument}
use Rattle.yv_documents.specs.AskedText.{asked_text, asked_total}
use Rattle.yv_documents.specs.DocumentLines.{asked_level}
use Rattle.yv_documents.specs.declared.answer.DocumentAnswer.{DocumentAnswer}

-- what is written of a document, as one of the answer's kind and against its schema
abbrev pub answer_text : {N : Type 0} → DocumentAnswer N → AskedDocument → List ℕ
answer_text a = asked_text a.output a.kind a.validator

-- what is written after documents
abbrev pub answer_total : {N : Type 0} → DocumentAnswer N → (valid count : ℕ) → List ℕ
answer_total a = asked_total a.output.form

-- how good a document is
abbrev pub answer_level : {N : Type 0} → DocumentAnswer N → AskedDocument → ℕ
answer_level a = asked_level a.kind a.validator
