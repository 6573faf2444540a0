-- Only private clauses cite this: what the parts of a run leave.
use Rattle.std.specs.Prelude.{◌≡◌, ℕ, List, Bool, IfOk, IsSomeAnd, string_bytes}
use Rattle.std.specs.Option.{option_map}
use Rattle.std.specs.declared.option.Option.{Option}
use Rattle.std.specs.Io.KnownBytes.{Consumes}
use Rattle.yv_nodes.specs.Rows.{Rows}
use Rattle.yv_job.specs.Jobs.{CommandAsked}
use Rattle.yv_job.specs.declared.job.OutputForm.{OutputForm}
use Rattle.yv_job.specs.declared.job.OutputOptions.{OutputOptions}
use Rattle.yv_base_streams.specs.Files.{File}
use Rattle.yv_text_statement.specs.declared.refusal.Refusal.{Refusal}
use Rattle.yv_text_statement.specs.declared.refusal.Stop.{Stop}
use Rattle.yv_text_statement.specs.declared.refusal.Stop.TheVariants.{Fault}
use Rattle.yv_text_statement.specs.declared.document_kind.Kind.{Kind}
use Rattle.yv_run.specs.Output.{Gives, data_printed, refusal_printed, schema_printed}
use Rattle.yv_run.specs.PersonNotes.{NotesData}
use Rattle.yv_run.specs.Notes.{NotesSchema, TellsRefusal}
use Rattle.yv_run.specs.Runs.{Writes, schema_read}
use Rattle.yv_run.specs.declared.whole_run.RunEnd.{RunEnd}

-- the note of a run, where there was memory for it, is this
abbrev pub HasNote : (Option (List ℕ) → Type 0) → RunEnd → Type 0
HasNote IsNote ended = IfOk ended.note (λ note. IsNote (option_map string_bytes note))

-- what is said of some bytes was written, which the reader gave, and which are gone from it
pub record RunsData (most : ℕ) (name : List ℕ) (measures : Bool) (k : Kind) (s : Rows) (ended : RunEnd)
    (unread rest old new : Option (List ℕ)) : Type 0 where
  pub given : List ℕ
  pub gives : Gives unread given
  pub consumed : Consumes unread rest given
  pub writes : Writes (data_printed measures k s given) ended.status old new
  pub noted : HasNote (NotesData most name k s given) ended

-- the refusal that stops a compilation was written, and the note is about it
pub record WritesRefusal (f : OutputForm) (files : List File) (stop : Stop) (ended : RunEnd)
    (old new : Option (List ℕ)) : Type 0 where
  pub refusal : Refusal
  pub is : stop ≡ Fault refusal
  pub writes : Writes (refusal_printed f files refusal) ended.status old new
  pub noted : HasNote (λ note. IsSomeAnd note (TellsRefusal files refusal)) ended

-- what was asked of a schema was written
pub record RunsSchema (most : ℕ) (asked : CommandAsked) (o : OutputOptions) (k : Kind) (s : Rows)
    (ended : RunEnd) (unread rest old new : Option (List ℕ)) : Type 0 where
  pub given : List ℕ
  pub gives : Gives unread given
  pub consumed : Consumes unread rest (schema_read asked given)
  pub writes : Writes (schema_printed asked o k s given) ended.status old new
  pub noted : HasNote (NotesSchema most asked k s given) ended
