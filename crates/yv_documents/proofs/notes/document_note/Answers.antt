use Rattle.std.proofs.Common.{string_bytes}
use Rattle.yv_documents.proofs.NoteLemmas.{notes_not_json}
use Rattle.yv_documents.proofs.notes.document_note.Goals as goal

pub returns-in-NotJson : goal.returns-in-NotJson
returns-in-NotJson c = λ read.
    rw c.in-NotJson.is (notes_not_json string_bytes c.args.source.now.bytes.now c.why_not_json.result c.why_not_json.ensures.why c.why_not_json.ensures.json (rw c.in-NotJson.is at read))
