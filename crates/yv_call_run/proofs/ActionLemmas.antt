-- What is done for an action.
use Rattle.std.proofs.Common.{◌≡◌, ℕ, List, Option, sym, subst}
use Rattle.yv_base_streams.specs.Files.{File}
use Rattle.yv_call.specs.Documents.{AreNamed}
use Rattle.yv_call.specs.Fits.{source_names}
use Rattle.yv_call.specs.Plans.{command_asked, task_asked}
use Rattle.yv_call.specs.Supplies.{documents_given, kind_of}
use Rattle.yv_call_run.specs.Performs.{DoesAction, RunsBatch, RunsCommand, RunsRules, document_read}
use Rattle.yv_job.specs.Jobs.{Task}
use Rattle.yv_job.specs.Requests.{ActionAsked, ChecksAll, Does, Lints, RequestAsked}
use Rattle.yv_job.specs.declared.request.Each.{Each}
use Rattle.yv_lint.specs.declared.rule.Rule.{Rule}
use Rattle.yv_run.specs.declared.whole_run.RunEnd.{RunEnd}

module _ (asked : RequestAsked) (task : Task) (files : List File) (documents : List (List ℕ))
    (run : RunEnd) (old new : Option (List ℕ)) (same : task ≡ task_asked asked) where
  pub does_command : asked.action ≡ Does (command_asked asked.action)
      → RunsCommand task files (document_read documents) run old new
      → DoesAction asked.action asked files documents run old new
  does_command is runs = subst (λ a. DoesAction a asked files documents run old new) (sym is)
      (subst (λ t. RunsCommand t files (document_read documents) run old new) same runs)

  pub does_batch : (names : List (List ℕ)) (each : Option Each) → asked.action ≡ ChecksAll names
      → each ≡ asked.each
      → RunsBatch task files (documents_given (kind_of each) names documents) run old new
      → DoesAction asked.action asked files documents run old new
  does_batch names each is each_is runs =
      subst (λ a. DoesAction a asked files documents run old new) (sym is)
      (subst (λ e. RunsBatch (task_asked asked) files (documents_given (kind_of e) names documents)
      run old new) each_is
      (subst (λ t. RunsBatch t files (documents_given (kind_of each) names documents) run old new)
      same runs))

  pub does_rules : (rules : List Rule) → asked.action ≡ Lints rules
      → RunsRules task files rules run old new
      → DoesAction asked.action asked files documents run old new
  does_rules rules is runs =
      subst (λ a. DoesAction a asked files documents run old new) (sym is)
      (subst (λ t. RunsRules t files rules run old new) same runs)

-- the names of the sources of many documents
pub named_in : (lookup : List ℕ → Option (List ℕ)) (action : ActionAsked)
    (names documents : List (List ℕ)) → action ≡ ChecksAll names
    → AreNamed lookup (source_names action) documents → AreNamed lookup names documents
named_in lookup action names documents is are =
    subst (λ a. AreNamed lookup (source_names a) documents) is are
