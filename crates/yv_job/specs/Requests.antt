-- What a clause reads of a request: a job whose files may still have to be found, many documents,
-- findings, or the question which files there are.
use Rattle.std.specs.Prelude.{◌≤◌, length, ℕ, List, [], map, string_bytes, Option, None}
use Rattle.std.specs.List.{filter}
use Rattle.yv_job.specs.declared.request.Request.{Request}
use Rattle.yv_job.specs.declared.request.Action.{Action}
use Rattle.yv_job.specs.declared.request.Action.TheVariants.{Run, ValidateAll, Lint, Files}
use Rattle.yv_job.specs.declared.job.OutputOptions.{OutputOptions}
use Rattle.yv_job.specs.declared.request.Each.{Each}
use Rattle.yv_job.specs.Jobs.{CommandAsked, Task, asked_of}
use Rattle.yv_lint.specs.RuleChoice.{asked_in}
use Rattle.yv_lint.specs.Rules.{all_rules}
use Rattle.yv_lint.specs.declared.rule.Rule.{Rule}
use Rattle.yv_lint.specs.declared.rules.Rules.{Rules}
use Rattle.yv_text_statement.specs.Selection.{ModuleChoice, selected_of}
use Rattle.yv_text_statement.specs.declared.document_kind.Kind.{Kind}

-- which files there are, and which modules are implemented; or what a command does; or that all
-- documents of these sources are checked; or which findings of these rules there are
pub data ActionAsked : Type 0 where
  Lists : ActionAsked
  Does : CommandAsked → ActionAsked
  ChecksAll : (sources : List (List ℕ)) → ActionAsked
  Lints : (rules : List Rule) → ActionAsked

-- a request, as clauses see it
pub record RequestAsked : Type 0 where
  pub action : ActionAsked
  pub limit : ℕ
  pub choice : ModuleChoice
  pub kind : Kind
  pub explain : ℕ
  pub each : Option Each
  pub output : OutputOptions
  pub folders : List (List ℕ)
  pub files : List (List ℕ)

-- the rules of a set, in their order
abbrev pub rules_of : Rules → List Rule
rules_of rules = filter (asked_in rules) all_rules

-- what an action asks for
abbrev pub action_of : Action → ActionAsked
action_of Files = Lists
action_of (Run c) = Does (asked_of c)
action_of (ValidateAll v) = ChecksAll (map string_bytes v.items)
action_of (Lint rules) = Lints (rules_of rules)

-- what a request asks for
abbrev pub request_of : Request → RequestAsked
request_of r = record {
  action = action_of r.action;
  limit = r.limit;
  choice = selected_of r.selection;
  kind = r.kind;
  explain = r.explain;
  each = r.each;
  output = r.output;
  folders = map string_bytes r.folders.items;
  files = map string_bytes r.files.items;
}

-- a request for a task, with no folder to search
abbrev pub plain_request : Task → RequestAsked
plain_request t = record {
  action = Does t.asked;
  limit = t.limit;
  choice = t.choice;
  kind = t.kind;
  explain = t.explain;
  each = None;
  output = t.output;
  folders = [];
  files = t.files;
}

-- a request names 1 to 256 files
abbrev pub NamesFiles : Request → Type 0
NamesFiles r = (1 ≤ length r.files.items) × (length r.files.items ≤ 256)

-- the limit of a request is from 1 to 1,000,000
abbrev pub IsLimited : Request → Type 0
IsLimited r = (1 ≤ r.limit) × (r.limit ≤ 1000000)
