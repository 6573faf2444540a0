-- What a clause reads of a job.
use Rattle.std.specs.Prelude.{◌≡◌, ◌≤◌, length, ℕ, List, Some, map, slice_get, string_bytes}
use Rattle.yv_job.specs.declared.job.Job.{Job}
use Rattle.yv_job.specs.declared.job.Command.{Command}
use Rattle.yv_job.specs.declared.job.OutputOptions.{OutputOptions}
use Rattle.yv_job.specs.declared.job.Command.TheVariants.{Compile, Tree, Validate}
use Rattle.yv_text_statement.specs.Selection.{ModuleChoice, selected_of}
use Rattle.yv_tree_drawing.specs.Trees.{TreeAsked}
use Rattle.yv_text_statement.specs.declared.document_kind.Kind.{Kind}

-- a command: it compiles, or it draws tree diagrams, or it checks the document of a file
pub data CommandAsked : Type 0 where
  Compiles : CommandAsked
  Draws : TreeAsked → CommandAsked
  Checks : List ℕ → CommandAsked

-- a job, as clauses see it
pub record Task : Type 0 where
  pub asked : CommandAsked
  pub files : List (List ℕ)
  pub limit : ℕ
  pub choice : ModuleChoice
  pub kind : Kind
  pub explain : ℕ
  pub output : OutputOptions

-- what a command asks for
abbrev pub asked_of : Command → CommandAsked
asked_of Compile = Compiles
asked_of (Tree t) = Draws t
asked_of (Validate f) = Checks (string_bytes f)

-- the task that a job is
abbrev pub task_of : Job → Task
task_of j = record {
  asked = asked_of j.command;
  files = map string_bytes j.files.items;
  limit = j.limit;
  choice = selected_of j.selection;
  kind = j.kind;
  explain = j.explain;
  output = j.output;
}

-- the text is the name of one of a job's files
abbrev pub IsFileOf : Job → List ℕ → Type 0
IsFileOf j name = (place : ℕ) × (slice_get (map string_bytes j.files.items) place ≡ Some name)

-- a job has 1 to 256 files
abbrev pub HasFiles : Job → Type 0
HasFiles j = (1 ≤ length j.files.items) × (length j.files.items ≤ 256)

-- the limit of a job is from 1 to 1,000,000
abbrev pub HasLimit : Job → Type 0
HasLimit j = (1 ≤ j.limit) × (j.limit ≤ 1000000)
