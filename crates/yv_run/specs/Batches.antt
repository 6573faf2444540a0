-- What a run over many documents writes, and how it ends.
use Rattle.std.specs.Prelude.{◌≡◌, ℕ, List, Bool, true, IfOk, IsSomeAnd, string_bytes}
use Rattle.std.specs.Option.{option_map}
use Rattle.std.specs.declared.option.Option.{Option}
use Rattle.std.specs.declared.option.Option.TheVariants.{None}
use Rattle.std.specs.declared.result.Result.TheVariants.{Ok}
use Rattle.yv_text_statement.specs.declared.document_kind.Kind.{Kind}
use Rattle.yv_text_statement.specs.declared.refusal.Refusal.{Refusal}
use Rattle.yv_nodes.specs.Rows.{Rows}
use Rattle.yv_job.specs.Jobs.{Task}
use Rattle.yv_job.specs.declared.job.OutputOptions.{OutputOptions}
use Rattle.yv_base_streams.specs.Files.{File}
use Rattle.yv_batch.specs.Answers.{Answers}
use Rattle.yv_batch.specs.AskedDocument.{AskedDocument}
use Rattle.yv_batch.specs.declared.batch.BatchEnd.{BatchEnd}
use Rattle.yv_batch.specs.declared.batch.BatchEnd.TheVariants as batch
use Rattle.yv_documents.specs.AskedText.{asked_text, asked_total}
use Rattle.yv_documents.specs.DocumentLines.{asked_level}
use Rattle.yv_run.specs.Compiles.{FilesCompile, HasSchema, RefusedAt}
use Rattle.yv_run.specs.Notes.{TellsRefusal}
use Rattle.yv_run.specs.Output.{refusal_printed}
use Rattle.yv_run.specs.Runs.{Writes}
use Rattle.yv_run.specs.Status.{batch_status}
use Rattle.yv_run.specs.declared.status.Status.{Status}
use Rattle.yv_run.specs.declared.status.Status.TheVariants as ended
use Rattle.yv_run.specs.declared.whole_run.RunEnd.{RunEnd}

-- want of memory or a pattern's build stopped the run, before the first document was fetched
abbrev pub StopsBefore : Status → Type 0
StopsBefore ended.Clean = ⊥
StopsBefore ended.Refused = ⊥
StopsBefore ended.BadInput = ⊥
StopsBefore ended.NoMemory = Unit {0}
StopsBefore ended.PatternBuild = Unit {0}
StopsBefore ended.ReadFault = ⊥
StopsBefore ended.WriteFault = ⊥

-- the status is that of something that was found
abbrev pub IsFound : Status → Type 0
IsFound ended.Clean = Unit {0}
IsFound ended.Refused = Unit {0}
IsFound ended.BadInput = Unit {0}
IsFound ended.NoMemory = ⊥
IsFound ended.PatternBuild = ⊥
IsFound ended.ReadFault = ⊥
IsFound ended.WriteFault = ⊥

-- all documents were answered
abbrev pub IsAll : BatchEnd → Type 0
IsAll (batch.All tally) = Unit {0}
IsAll batch.WriteFault = ⊥
IsAll batch.Endless = ⊥

-- Documents of a kind were answered by a schema, and the status is that of the worst of them, or
-- says how far they were answered. If all were, the supply said that there are no more.
pub record AnswersAll (o : OutputOptions) (k : Kind) (s : Rows) (status : Status)
    (is_over : Bool) (unread rest : Option (List AskedDocument)) (old new : Option (List ℕ)) : Type 0 where
  pub end : BatchEnd
  pub answers : Answers (asked_text o k s) (asked_total o.form) (asked_level k s) end unread rest
      old new
  pub ends : status ≡ batch_status end
  pub over : IsAll end → is_over ≡ true

-- A run over many documents that reached the first of them, or the files' refusal: the refusal was
-- written, and the note is about it, unless there was no memory for it; or the documents were
-- answered by the schema of the files, without a note of the run.
pub data RunsAll (task : Task) (files : List File) (run : RunEnd) (is_over : Bool)
    (unread rest : Option (List AskedDocument)) (old new : Option (List ℕ)) : Type 0 where
  refused : (r : Refusal) → FilesCompile task.choice task.limit files (RefusedAt r)
      → Writes (refusal_printed task.output.form files r) run.status old new
      → IfOk run.note
      (λ note. IsSomeAnd (option_map string_bytes note) (TellsRefusal files r))
      → RunsAll task files run is_over unread rest old new
  answered : (s : Rows) → FilesCompile task.choice task.limit files (HasSchema s)
      → AnswersAll task.output task.kind s run.status is_over unread rest old new
      → run.note ≡ Ok None
      → RunsAll task files run is_over unread rest old new
