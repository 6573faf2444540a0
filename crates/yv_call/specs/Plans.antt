-- What is done for a request.
use Rattle.std.specs.Prelude.{◌≡◌, map, string_bytes}
use Rattle.yv_call.specs.declared.plan.Work.{Work}
use Rattle.yv_call.specs.declared.plan.Work.TheVariants as work
use Rattle.yv_job.specs.Jobs.{CommandAsked, Compiles, Task}
use Rattle.yv_job.specs.Requests.{ActionAsked, ChecksAll, Does, Lints, Lists, RequestAsked, rules_of}

-- the command of an action: files are compiled where documents are checked or findings listed
abbrev pub command_asked : ActionAsked → CommandAsked
command_asked Lists = Compiles
command_asked (Does command) = command
command_asked (ChecksAll names) = Compiles
command_asked (Lints rules) = Compiles

-- the task of a request
abbrev pub task_asked : RequestAsked → Task
task_asked asked = record {
  asked = command_asked asked.action;
  files = asked.files;
  limit = asked.limit;
  choice = asked.choice;
  kind = asked.kind;
  explain = asked.explain;
  output = asked.output;
}

-- this is done with the files of a request: what its command says, or all documents of its sources
-- are checked, or findings of its rules are listed
abbrev pub IsWorkFor : RequestAsked → Work → Type 0
IsWorkFor asked work.Run = asked.action ≡ Does (command_asked asked.action)
IsWorkFor asked (work.ValidateAll batch) =
    (asked.action ≡ ChecksAll (map string_bytes batch.names.items)) × (batch.each ≡ asked.each)
IsWorkFor asked (work.Lint rules) = asked.action ≡ Lints (rules_of rules)
