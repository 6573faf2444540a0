-- What is done for a request.
use Rattle.std.specs.Prelude.{◌≡◌, ℕ, List, [], ◌∷◌, Bool, length}
use Rattle.std.specs.List.{filter}
use Rattle.std.specs.declared.option.Option.{Option}
use Rattle.std.specs.declared.option.Option.TheVariants.{Some}
use Rattle.yv_base_streams.specs.Files.{File}
use Rattle.yv_batch.specs.AskedDocument.{AskedDocument}
use Rattle.yv_call.specs.GivenFiles.{files_named}
use Rattle.yv_call.specs.Plans.{task_asked}
use Rattle.yv_call.specs.Supplies.{documents_given, kind_of}
use Rattle.yv_job.specs.Jobs.{Task}
use Rattle.yv_job.specs.Requests.{ActionAsked, ChecksAll, Does, Lints, Lists, RequestAsked}
use Rattle.yv_lint.specs.RuleChoice.{RuleChoice}
use Rattle.yv_lint.specs.Rules.{all_rules}
use Rattle.yv_lint.specs.declared.rule.Rule.{Rule}
use Rattle.yv_run.specs.Batches.{RunsAll}
use Rattle.yv_run.specs.Lints.{RunsLint}
use Rattle.yv_run.specs.Notes.{RunsWithNote}
use Rattle.yv_run.specs.declared.whole_run.RunEnd.{RunEnd}

-- the only document that a command checks; nothing is read where it checks none
abbrev pub document_read : (documents : List (List ℕ)) → List ℕ
document_read [] = []
document_read (document ∷ documents) = document

-- a command is run over a document
abbrev pub RunsCommand : Task → List File → (document : List ℕ) → RunEnd
    → (old new : Option (List ℕ)) → Type 0
RunsCommand task files document run old new =
    (rest : Option (List ℕ)) × RunsWithNote task files run (Some document) rest old new

-- all documents are answered
abbrev pub RunsBatch : Task → List File → List AskedDocument → RunEnd
    → (old new : Option (List ℕ)) → Type 0
RunsBatch task files documents run old new = (is_over : Bool) × (rest : Option (List AskedDocument))
    × RunsAll task files run is_over (Some documents) rest old new

-- the findings of rules are listed in all files
abbrev pub RunsRules : Task → List File → (rules : List Rule) → RunEnd
    → (old new : Option (List ℕ)) → Type 0
RunsRules task files rules run old new = (asked : RuleChoice) × (filter asked all_rules ≡ rules)
    × RunsLint task asked (length task.files) files run old new

-- an action is done for a request with such files and documents
abbrev pub DoesAction : ActionAsked → RequestAsked → List File → (documents : List (List ℕ))
    → RunEnd → (old new : Option (List ℕ)) → Type 0
DoesAction Lists asked files documents run old new = ⊥
DoesAction (Does command) asked files documents run old new =
    RunsCommand (task_asked asked) files (document_read documents) run old new
DoesAction (ChecksAll names) asked files documents run old new =
    RunsBatch (task_asked asked) files (documents_given (kind_of asked.each) names documents) run
    old new
DoesAction (Lints rules) asked files documents run old new =
    RunsRules (task_asked asked) files rules run old new

-- what a request asks for is done with what is given
abbrev pub Performs : RequestAsked → (files documents : List (List ℕ)) → RunEnd
    → (old new : Option (List ℕ)) → Type 0
Performs asked files documents run old new =
    DoesAction asked.action asked (files_named asked.files files) documents run old new
