-- What a run leaves, by what was to be written.
use Rattle.std.proofs.Common.{◌≡◌, ◌⊎◌, inl, inr, sym, ℕ, List, [], take, refl, subst, IfOk, IsSomeAnd, Result, Ok, Err, zero-le}
use Rattle.std.specs.declared.option.Option.{Option}
use Rattle.std.specs.declared.option.Option.TheVariants.{None, Some}
use Rattle.std.specs.Option.{option_map}
use Rattle.std.proofs.KnownBytes.{Consumes-nil}
use Rattle.yv_text_statement.specs.declared.refusal.Refusal.{Refusal}
use Rattle.yv_job.specs.Jobs.{CommandAsked, Compiles, Draws, Checks, Task}
use Rattle.yv_job.specs.declared.job.OutputOptions.{OutputOptions}
use Rattle.yv_text_statement.specs.declared.document_kind.Kind.{Kind}
use Rattle.yv_nodes.specs.Rows.{Rows}
use Rattle.yv_tree_drawing.specs.Trees.{TreeAsked}
use Rattle.yv_data_faults.specs.Flaw.{Flaw}
use Rattle.yv_base_streams.specs.Files.{File}
use Rattle.yv_base_streams.specs.Stream.{TakesAtMost}
use Rattle.yv_run.specs.Compiles.{FilesCompile, RefusedAt, HasSchema}
use Rattle.yv_documents.specs.Document.{DocumentText, document_text}
use Rattle.yv_documents.specs.DocumentLines.{faults_in}
use Rattle.yv_documents.specs.Notes.{NotesReading}
use Rattle.yv_run.specs.Output.{Gives, IsStopped, Page, count_printed, refusal_printed, tree_printed}
use Rattle.yv_run.specs.PersonNotes.{NotesData, NotesTree}
use Rattle.yv_run.specs.declared.status.Status.{Status}
use Rattle.yv_run.specs.InnerRun.{HasNote, RunsData, RunsSchema}
use Rattle.yv_run.specs.Notes.{RunsWithNote, TellsRefusal}
use Rattle.yv_run.specs.Runs.{Runs, Writes}
use Rattle.yv_run.specs.declared.whole_run.RunEnd.{RunEnd}

-- some bytes are what a reader gives
some_given : (known : Option (List ℕ)) → (given : List ℕ) × Gives known given
some_given None = ([], tt)
some_given (Some xs) = (take 16777217 xs, refl)

-- both facts on what is answered
pub both : {A E : Type 0} (P Q S : A → Type 0) (r : Result A E) → ((a : A) → P a → Q a → S a) → IfOk r P → IfOk r Q → IfOk r S
both P Q S (Ok a) f p q = f a p q
both P Q S (Err e) f p q = tt

-- a reader that is as it was has lost nothing
pub takes_none : (limit : ℕ) (known : Option (List ℕ)) → TakesAtMost limit known known
takes_none limit known = record { taken = []; consumed = Consumes-nil known; few = zero-le }

module _ (old new : Option (List ℕ)) (ended : RunEnd) where
  -- a refusal is written whatever the document is
  pub runs_refused : (known : Option (List ℕ)) (task : Task) (files : List File) (r : Refusal) → FilesCompile task.choice task.limit files (RefusedAt r)
      → Writes (refusal_printed task.output.form files r) ended.status old new → HasNote (λ note. IsSomeAnd note (TellsRefusal files r)) ended
      → RunsWithNote task files ended known known old new
  runs_refused known task files r compiles writes noted =
      let d = some_given known in
      record {
        runs = record { given = d.0; gives = d.1; compiled = RefusedAt r; compiles = compiles; consumed = Consumes-nil known; writes = writes };
        noted = noted;
      }

  -- and what was asked of a schema is written, where the files give one
  pub runs_built : (unread rest : Option (List ℕ)) (task : Task) (files : List File) (s : Rows) → FilesCompile task.choice task.limit files (HasSchema s)
      → RunsSchema task.explain task.asked task.output task.kind s ended unread rest old new → RunsWithNote task files ended unread rest old new
  runs_built unread rest task files s compiles runs = record {
    runs = record { given = runs.given; gives = runs.gives; compiled = HasSchema s; compiles = compiles; consumed = runs.consumed; writes = runs.writes };
    noted = runs.noted;
  }

  -- the number of nodes is that of any document
  pub runs_count : (known : Option (List ℕ)) (most : ℕ) (asked : CommandAsked) (o : OutputOptions) (k : Kind) (s : Rows) → asked ≡ Compiles → Writes (count_printed o s) ended.status old new
      → HasNote (λ note. note ≡ None) ended → RunsSchema most asked o k s ended known known old new
  runs_count known most asked o k s is writes noted =
      let d = some_given known in
      let runs : RunsSchema most Compiles o k s ended known known old new =
      record { given = d.0; gives = d.1; consumed = Consumes-nil known; writes = writes; noted = noted } in
      subst (λ (a : CommandAsked). RunsSchema most a o k s ended known known old new) (sym is) runs

  -- and so are diagrams
  pub runs_tree : (known : Option (List ℕ)) (most : ℕ) (asked : CommandAsked) (t : TreeAsked) (o : OutputOptions) (k : Kind) (s : Rows) → asked ≡ Draws t
      → Writes (tree_printed s t) ended.status old new → HasNote (NotesTree s t) ended → RunsSchema most asked o k s ended known known old new
  runs_tree known most asked t o k s is writes noted =
      let d = some_given known in
      let runs : RunsSchema most (Draws t) o k s ended known known old new =
      record { given = d.0; gives = d.1; consumed = Consumes-nil known; writes = writes; noted = noted } in
      subst (λ (a : CommandAsked). RunsSchema most a o k s ended known known old new) (sym is) runs

  -- what is said of a document is said where one is read
  pub runs_document : (unread rest : Option (List ℕ)) (most : ℕ) (asked : CommandAsked) (o : OutputOptions) (k : Kind) (s : Rows) → (name : List ℕ) → asked ≡ Checks name → RunsData most name o.measures k s ended unread rest old new
      → RunsSchema most asked o k s ended unread rest old new
  runs_document unread rest most asked o k s name is checks =
      let runs : RunsSchema most (Checks name) o k s ended unread rest old new =
      record { given = checks.given; gives = checks.gives; consumed = checks.consumed; writes = checks.writes; noted = checks.noted } in
      subst (λ (a : CommandAsked). RunsSchema most a o k s ended unread rest old new) (sym is) runs

-- a run without its note
pub without_note : (task : Task) (files : List File) (ended : RunEnd) (unread rest old new : Option (List ℕ)) → IsStopped ended.status ⊎ RunsWithNote task files ended unread rest old new
    → IsStopped ended.status ⊎ Runs task files ended.status unread rest old new
without_note task files ended unread rest old new (inl stopped) = inl stopped
without_note task files ended unread rest old new (inr run) = inr run.runs

-- what was written of one thing was written of what is the same
pub writes_same : (status : Status) (old new : Option (List ℕ)) (p q : Page) → p ≡ q → Writes p status old new → Writes q status old new
writes_same status old new p q e writes = subst (λ (x : Page). Writes x status old new) e writes

-- the note on what was found of some bytes is the one on these
pub notes_data : {A E : Type 0} (bytes_of : A → List ℕ) (most : ℕ) (name : List ℕ) (k : Kind) (s : Rows) (given : List ℕ) (found : DocumentText) (fs : List Flaw) (r : Result (Option A) E)
    → found ≡ document_text given → fs ≡ faults_in k s (document_text given) → IfOk r (λ o. NotesReading most name found fs given (option_map bytes_of o))
    → IfOk r (λ o. NotesData most name k s given (option_map bytes_of o))
notes_data bytes_of most name k s given found fs r is same noted =
    let whole : IfOk r (λ o. NotesReading most name found (faults_in k s (document_text given)) given (option_map bytes_of o)) =
    subst (λ (xs : List Flaw). IfOk r (λ o. NotesReading most name found xs given (option_map bytes_of o))) same noted in
    subst (λ (x : DocumentText). IfOk r (λ o. NotesReading most name x (faults_in k s (document_text given)) given (option_map bytes_of o))) is whole
