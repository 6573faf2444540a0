-- What a run takes of a document, and what it writes.
use Rattle.std.specs.Prelude.{◌≡◌, ℕ, List, [], take}
use Rattle.std.specs.declared.option.Option.{Option}
use Rattle.std.specs.Io.KnownBytes.{Appends, Consumes}
use Rattle.yv_job.specs.Jobs.{CommandAsked, Compiles, Draws, Checks, Task}
use Rattle.yv_run.specs.Compiles.{Compilation, RefusedAt, HasSchema, FilesCompile}
use Rattle.yv_run.specs.Output.{Gives, Page, compiled_printed}
use Rattle.yv_run.specs.Status.{status_of}
use Rattle.yv_run.specs.declared.status.Status.{Status}
use Rattle.yv_run.specs.declared.status.Status.TheVariants as ended
use Rattle.yv_base_streams.specs.Files.{File}

-- the most bytes that are read of a document: one more than it may have
abbrev pub most_read : ℕ
most_read = 16777217

-- what is read of the bytes of a document, by what was asked of a schema: all, or none
abbrev pub schema_read : CommandAsked → List ℕ → List ℕ
schema_read Compiles given = []
schema_read (Draws m) given = []
schema_read (Checks f) given = given

-- where the files are refused it is none
abbrev pub compiled_read : CommandAsked → Compilation → List ℕ → List ℕ
compiled_read asked (RefusedAt r) given = []
compiled_read asked (HasSchema s) given = schema_read asked given

-- all of the text was appended to what a writer holds, and the status is that of what was found;
-- or, after a write fault, its first bytes were
pub data Writes (p : Page) (status : Status) (old new : Option (List ℕ)) : Type 0 where
  all : Appends old new p.text → status ≡ status_of p.verdict → Writes p status old new
  front : (count : ℕ) → Appends old new (take count p.text) → status ≡ ended.WriteFault
      → Writes p status old new

-- A run of a task with these files, which nothing stopped but maybe the writer. For some bytes,
-- which are those that the reader gives where they are known, it writes the output; those of them
-- that it reads are gone from the reader, and no others.
pub record Runs (task : Task) (files : List File) (status : Status)
    (unread rest old new : Option (List ℕ)) : Type 0 where
  pub given : List ℕ
  pub gives : Gives unread given
  pub compiled : Compilation
  pub compiles : FilesCompile task.choice task.limit files compiled
  pub consumed : Consumes unread rest (compiled_read task.asked compiled given)
  pub writes : Writes (compiled_printed task files compiled given) status old new
