use Rattle.std.proofs.Common.{arith, ◌≤◌, ◌<◌, sym}
use Rattle.serde_json.specs.View.{view}
use Rattle.yv_documents.specs.Document.{document_limit}
use Rattle.yv_validate.specs.Size.{size}
use Rattle.yv_documents.proofs.DocumentLemmas.{reading_large, reading_none, reading_wide, reading_held}
use Rattle.yv_documents.proofs.document.read_document.Goals as goal

pub returns-then-bytes-gt-MOST_BYTES-clause-reads :
    goal.returns-then-bytes-gt-MOST_BYTES-clause-reads
returns-then-bytes-gt-MOST_BYTES-clause-reads c = sym (reading_large c.args.bytes.now (omega arith))

pub returns-in_default-clause-reads : goal.returns-in_default-clause-reads
returns-in_default-clause-reads c =
    reading_none c.args.bytes.now (omega arith) (rw c.in_default.is at c.in_ok-value.ensures.value)

pub returns-then-size-gt-MOST_PARTS-clause-reads : goal.returns-then-size-gt-MOST_PARTS-clause-reads
returns-then-size-gt-MOST_PARTS-clause-reads c =
    let wide : document_limit < size (view c.in-Some.value) = omega (arith, c.size.ensures) in
    reading_wide c.args.bytes.now (view c.in-Some.value) (omega arith) (rw c.in-Some.is at c.in_ok-value.ensures.value) wide

pub returns-clause-reads : goal.returns-clause-reads
returns-clause-reads c =
    let fits : size (view c.in-Some.value) ≤ document_limit = omega (arith, c.size.ensures) in
    reading_held c.args.bytes.now (view c.in-Some.value) (omega arith) (rw c.in-Some.is at c.in_ok-value.ensures.value) fits
