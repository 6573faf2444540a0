use Rattle.std.proofs.Common.{◌≡◌, ◌∙◌, ℕ, List, ap, refl, sym, subst, take, IfSome}
use Rattle.std.specs.Io.KnownBytes.{Appends}
use Rattle.yv_base_streams.specs.Stream.{stream_inner}
use Rattle.yv_batch.specs.AskedDocument.{Read, asked_of, reading_of}
use Rattle.yv_batch.specs.Level.{level_number}
use Rattle.yv_batch.specs.declared.level.Level.{Level}
use Rattle.yv_documents.proofs.ReplyLemmas.{faults_read, level_of_said, text_said, verdict_read}
use Rattle.yv_documents.proofs.answer.DocumentAnswerAnswer.write.Goals as goal

pub returns-in_ok-findings-in-Read-clause-level : goal.returns-in_ok-findings-in-Read-clause-level
returns-in_ok-findings-in-Read-clause-level g c =
    let s = c.args.self.now in
    let a = asked_of c.args.name.now c.args.document.now in
    let given = c.as_slice-bytes.result.now in
    let got : reading_of c.args.document.now.content ≡ Read given = ap reading_of c.in-Read.is ∙ ap Read (sym c.as_slice-bytes.ensures.value) in
    let judged = verdict_read s.output.measures s.kind s.validator a.fetched given c.reply.result.verdict got (c.reply.ensures.verdict ∙ c.in_ok-findings-in-Read.ensures.verdict) in
    let good = level_of_said s.output.measures s.kind s.validator a.fetched c.reply.result.verdict _ judged refl in
    subst (λ (n : ℕ). IfSome c.write_reply-level.result (λ (l : Level). level_number l ≡ n)) good c.write_reply-level.ensures.level

pub returns-in_ok-findings-in-Read-clause-ends : goal.returns-in_ok-findings-in-Read-clause-ends
returns-in_ok-findings-in-Read-clause-ends g c =
    let s = c.args.self.now in
    let a = asked_of c.args.name.now c.args.document.now in
    let given = c.as_slice-bytes.result.now in
    let got : reading_of c.args.document.now.content ≡ Read given = ap reading_of c.in-Read.is ∙ ap Read (sym c.as_slice-bytes.ensures.value) in
    let judged = verdict_read s.output.measures s.kind s.validator a.fetched given c.reply.result.verdict got (c.reply.ensures.verdict ∙ c.in_ok-findings-in-Read.ensures.verdict) in
    let faulty = faults_read s.kind s.validator a.fetched given c.reply.result.faults.now got (c.reply.ensures.faults ∙ c.in_ok-findings-in-Read.ensures.faults) in
    let said = text_said s.output.form s.output.measures s.kind s.validator a c.reply.result.faults.now c.reply.result.verdict faulty judged in
    let old = g.W.Write.contents (stream_inner c.args.writer.now) in
    let new = g.W.Write.contents (stream_inner c.write_reply-level.new.writer) in
    subst (λ (t : List ℕ). IfSome c.write_reply-level.result (λ (l : Level). Appends old new t)) said c.write_reply-level.ensures.ends

pub returns-in_ok-findings-in-Read-clause-part : goal.returns-in_ok-findings-in-Read-clause-part
returns-in_ok-findings-in-Read-clause-part g c =
    let s = c.args.self.now in
    let a = asked_of c.args.name.now c.args.document.now in
    let given = c.as_slice-bytes.result.now in
    let got : reading_of c.args.document.now.content ≡ Read given = ap reading_of c.in-Read.is ∙ ap Read (sym c.as_slice-bytes.ensures.value) in
    let judged = verdict_read s.output.measures s.kind s.validator a.fetched given c.reply.result.verdict got (c.reply.ensures.verdict ∙ c.in_ok-findings-in-Read.ensures.verdict) in
    let faulty = faults_read s.kind s.validator a.fetched given c.reply.result.faults.now got (c.reply.ensures.faults ∙ c.in_ok-findings-in-Read.ensures.faults) in
    let said = text_said s.output.form s.output.measures s.kind s.validator a c.reply.result.faults.now c.reply.result.verdict faulty judged in
    let old = g.W.Write.contents (stream_inner c.args.writer.now) in
    let new = g.W.Write.contents (stream_inner c.write_reply-level.new.writer) in
    subst (λ (t : List ℕ). (n : ℕ) × Appends old new (take n t)) said c.write_reply-level.ensures.part
