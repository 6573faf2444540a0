-- The notes for a person: on a document, and on what is missing of a diagram.
use Rattle.std.specs.Prelude.{◌≡◌, ℕ, List, [], IsSome}
use Rattle.std.specs.declared.option.Option.{Option}
use Rattle.std.specs.declared.option.Option.TheVariants.{None}
use Rattle.std.specs.declared.result.Result.{Result}
use Rattle.std.specs.declared.result.Result.TheVariants.{Ok, Err}
use Rattle.yv_nodes.specs.Rows.{Rows}
use Rattle.yv_text_statement.specs.declared.document_kind.Kind.{Kind}
use Rattle.yv_data_faults.specs.Flaw.{Flaw}
use Rattle.yv_tree.specs.DrawnModules.{diagrams_of}
use Rattle.yv_tree.specs.declared.diagrams.Missing.{Missing}
use Rattle.yv_tree_drawing.specs.Trees.{TreeAsked}
use Rattle.yv_documents.specs.Document.{document_text}
use Rattle.yv_documents.specs.DocumentLines.{faults_in}
use Rattle.yv_documents.specs.Notes.{NotesReading}
use Rattle.yv_run.specs.declared.print.Body.{Body}
use Rattle.yv_run.specs.declared.print.Body.TheVariants.{Text, Diagrams, Faults, Compiled}

-- the faults of which the lines are written, none for a document that is valid
abbrev pub faults_of : Body → List Flaw
faults_of (Text text) = []
faults_of (Diagrams text) = []
faults_of (Faults list end) = list.items
faults_of (Compiled r) = []

-- the note on these bytes, in the file of this name, as a document of a kind: it has lines on so
-- many faults at most
abbrev pub NotesData : (most : ℕ) → (name : List ℕ) → Kind → Rows → (given : List ℕ)
    → (note : Option (List ℕ)) → Type 0
NotesData most name k s given note =
    NotesReading most name (document_text given) (faults_in k s (document_text given)) given note

-- the note on what is missing of what is to be drawn, and none on diagrams
abbrev pub NotesDrawn : (diagrams : Result (List ℕ) Missing) → (note : Option (List ℕ)) → Type 0
NotesDrawn (Err what) note = IsSome note
NotesDrawn (Ok text) note = note ≡ None

-- the note on the diagrams that are asked for
abbrev pub NotesTree : Rows → TreeAsked → (note : Option (List ℕ)) → Type 0
NotesTree s t note = NotesDrawn (diagrams_of s t) note
