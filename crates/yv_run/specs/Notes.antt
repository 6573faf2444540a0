-- The note with which a run helps a person.
use Rattle.std.specs.Prelude.{◌≡◌, ℕ, ◌+◌, List, ◌++◌, drop, slice_get, IfOk, IsSomeAnd, string_bytes}
use Rattle.std.specs.Option.{option_map}
use Rattle.std.specs.declared.option.Option.{Option}
use Rattle.std.specs.declared.option.Option.TheVariants.{None}
use Rattle.yv_text_statement.specs.Codes.{phase_of}
use Rattle.yv_text_statement.specs.declared.refusal.Refusal.{Refusal}
use Rattle.yv_nodes.specs.Rows.{Rows}
use Rattle.yv_job.specs.Jobs.{CommandAsked, Compiles, Draws, Checks, Task}
use Rattle.yv_text_statement.specs.declared.document_kind.Kind.{Kind}
use Rattle.yv_base_streams.specs.Files.{File}
use Rattle.yv_note_refusals.specs.Explanations.{Explains, Speaks, bytes_at}
use Rattle.yv_note_refusals.specs.OtherRefusals.{AreOtherLines}
use Rattle.yv_note_patterns.specs.PatternFailure.{TellsPattern}
use Rattle.yv_run.specs.Compiles.{Compilation, HasSchema, RefusedAt}
use Rattle.yv_run.specs.PersonNotes.{NotesData, NotesTree}
use Rattle.yv_run.specs.Runs.{Runs}
use Rattle.yv_run.specs.declared.whole_run.RunEnd.{RunEnd}

-- the text says why the files are refused, and why other files are that come after the one that is
-- reported
pub record TellsRefusal (files : List File) (r : Refusal) (text : List ℕ) : Type 0 where
  pub explained : List ℕ
  pub others : List ℕ
  pub place : Explains (bytes_at (slice_get files r.file)) r explained
  pub speaks : Speaks files r explained
  pub others_told : AreOtherLines (phase_of r.code) (drop (r.file + 1) files) others
  pub is : text ≡ explained ++ others

-- the note where a pattern of the files isn't built: it is about one of them
abbrev pub NotesPattern : List File → (note : Option (List ℕ)) → Type 0
NotesPattern files note = IsSomeAnd note (TellsPattern files)

-- the note on what was asked of a schema: none on the number of nodes
abbrev pub NotesSchema : (most : ℕ) → CommandAsked → Kind → Rows → (given : List ℕ)
    → (note : Option (List ℕ)) → Type 0
NotesSchema most Compiles k s given note = note ≡ None
NotesSchema most (Draws t) k s given note = NotesTree s t note
NotesSchema most (Checks f) k s given note = NotesData most f k s given note

-- the note on what files come to: why they are refused, or the one on what was asked of their
-- schema
abbrev pub NotesCompiled : Task → List File → Compilation → (given : List ℕ)
    → (note : Option (List ℕ)) → Type 0
NotesCompiled task files (RefusedAt r) given note = IsSomeAnd note (TellsRefusal files r)
NotesCompiled task files (HasSchema s) given note =
    NotesSchema task.explain task.asked task.kind s given note

-- a run, and the note on what it wrote, unless there was no memory for the note
pub record RunsWithNote (task : Task) (files : List File) (ended : RunEnd)
    (unread rest old new : Option (List ℕ)) : Type 0 where
  pub runs : Runs task files ended.status unread rest old new
  pub noted : IfOk ended.note
      (λ note. NotesCompiled task files runs.compiled runs.given (option_map string_bytes note))
