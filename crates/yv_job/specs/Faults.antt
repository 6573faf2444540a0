-- When words give no job.
use Rattle.std.specs.Prelude.{◌⊎◌, ◌++◌, ◌≡◌, ℕ, List, [], ◌∷◌, Option, Some, None, length, codes, string_bytes}
use Rattle.std.specs.Option.{unwrap_or}
use Rattle.std.specs.Fmt.{decimal}
use Rattle.clap.specs.Words.{Text, Row, fault_of, all_of, first_of, IsAmong}
use Rattle.clap.specs.declared.error.kind.ErrorKind.{ErrorKind}
use Rattle.clap.specs.declared.error.kind.ErrorKind.TheVariants as kind
use Rattle.yv_job.specs.Asks.{WordsAsk, IsAsked, IsFiles, IsLimit, IsExplainFor, IsSupportFor, IsImportsFor, IsKindFor, IsEachFor, IsFormFor, IsRulesFor, IsDepthFor, IsBelowFor}
use Rattle.yv_job.specs.CommandLine.{yangcheck_app}
use Rattle.yv_job.specs.Requests.{ActionAsked, RequestAsked}
use Rattle.yv_lint.specs.declared.rule.Rule.{Rule}
use Rattle.yv_text_statement.specs.Selection.{Entry}
use Rattle.yv_tree_drawing.specs.Steps.{Step}
use Rattle.yv_text_statement.specs.declared.document_kind.Kind.{Kind}
use Rattle.yv_job.specs.declared.job.OutputForm.{OutputForm}
use Rattle.yv_job.specs.declared.request.Each.{Each}
use Rattle.yv_job.specs.declared.request.JobFault.{JobFault}
use Rattle.yv_job.specs.declared.request.JobFault.TheVariants.{Usage, Help, NoMemory}

-- P holds of the text, where the fault is one of usage
abbrev pub IfUsage : JobFault → (Text → Type 0) → Type 0
IfUsage (Usage text) P = P (string_bytes text)
IfUsage (Help text) P = Unit {0}
IfUsage NoMemory P = Unit {0}

-- P holds, where the fault isn't a fault but help
abbrev pub OnHelp : JobFault → Type 0 → Type 0
OnHelp (Usage text) P = Unit {0}
OnHelp (Help text) P = P
OnHelp NoMemory P = Unit {0}

-- the words ask for no request
abbrev pub AskForNothing : List Text → Type 0
AskForNothing words = (w : RequestAsked) → WordsAsk words w → ⊥

-- the first line of what the program itself says of words that clap understands
abbrev pub own_usage : Text
own_usage = codes "yangcheck: usage" ++ 10 ∷ []

-- what an option takes, and the value in quotes that it was given
abbrev pub value_line : Text → Text → Option Text → Text
value_line id wanted value =
    codes "--" ++ (id ++ (codes " takes "
    ++ (wanted ++ (codes ", not \"" ++ (unwrap_or value [] ++ (codes "\"" ++ 10 ∷ []))))))

-- how many files were given, and how many a command takes
abbrev pub files_line : Option (List Text) → Text
files_line files = decimal (length (unwrap_or files []))
    ++ (codes " files were given; a command takes 1 to 256" ++ 10 ∷ [])

-- the reason where the words fit no command
abbrev pub command_line : Text
command_line = codes "no command was given, or not what it needs" ++ 10 ∷ []

-- why the command of this name, with these values of its arguments, asks for no request: the line
-- says of one of them what is wrong
pub data IsReason (name : Text) (rows : List Row) (line : Text) : Type 0 where
  of_limit : ((n : ℕ) → IsLimit (first_of (codes "max-nodes") rows) n → ⊥)
      → line ≡ value_line (codes "max-nodes") (codes "a number from 1 to 1000000")
      (first_of (codes "max-nodes") rows)
      → IsReason name rows line
  of_kind : ((k : Kind) → IsKindFor (first_of (codes "kind") rows) k → ⊥)
      → line ≡ value_line (codes "kind") (codes "data or config") (first_of (codes "kind") rows)
      → IsReason name rows line
  of_support : ((es : List Entry) → IsSupportFor (first_of (codes "support") rows) es → ⊥)
      → line ≡ value_line (codes "support") (codes "MODULE:FEATURE,FEATURE/MODULE:")
      (first_of (codes "support") rows)
      → IsReason name rows line
  of_imports : ((ns : List Text) → IsImportsFor (first_of (codes "import-only") rows) ns → ⊥)
      → line ≡ value_line (codes "import-only") (codes "MODULE,MODULE")
      (first_of (codes "import-only") rows)
      → IsReason name rows line
  of_each : ((e : Option Each) → IsEachFor (first_of (codes "each") rows) e → ⊥)
      → line ≡ value_line (codes "each") (codes "file, line, name or name0")
      (first_of (codes "each") rows)
      → IsReason name rows line
  of_form : ((f : OutputForm) → IsFormFor (first_of (codes "format") rows) f → ⊥)
      → line ≡ value_line (codes "format") (codes "text or json") (first_of (codes "format") rows)
      → IsReason name rows line
  of_explain : ((n : ℕ) → IsExplainFor (first_of (codes "explain") rows) n → ⊥)
      → line ≡ value_line (codes "explain") (codes "a number from 0 to 10000")
      (first_of (codes "explain") rows)
      → IsReason name rows line
  of_rules : ((rules : List Rule) → IsRulesFor (first_of (codes "rules") rows) rules → ⊥)
      → line ≡ value_line (codes "rules") (codes "names of rules joined by commas")
      (first_of (codes "rules") rows)
      → IsReason name rows line
  of_depth : ((d : Option ℕ) → IsDepthFor (first_of (codes "depth") rows) d → ⊥)
      → line ≡ value_line (codes "depth") (codes "a number from 1 to 128")
      (first_of (codes "depth") rows)
      → IsReason name rows line
  of_below : ((steps : List Step) → IsBelowFor (first_of (codes "below") rows) steps → ⊥)
      → line ≡ value_line (codes "below") (codes "/MODULE:NAME/NAME")
      (first_of (codes "below") rows)
      → IsReason name rows line
  of_files : ((fs : List Text) → IsFiles rows fs → ⊥)
      → line ≡ files_line (all_of (codes "file") rows) → IsReason name rows line
  of_command : ((e : Option Each) (f : OutputForm) (a : ActionAsked)
      → IsEachFor (first_of (codes "each") rows) e
      → IsFormFor (first_of (codes "format") rows) f → IsAsked name rows e f a → ⊥)
      → line ≡ command_line → IsReason name rows line

-- the text is the first line, and the reason why the command that was found asks for no request
abbrev pub TellsReason : Option (Text × List Row) → Text → Type 0
TellsReason None text = text ≡ own_usage ++ command_line
TellsReason (Some p) text = (line : Text) × IsReason p.0 p.1 line × (text ≡ own_usage ++ line)

-- clap answers help, or the version
abbrev pub IsHelp : ErrorKind → Type 0
IsHelp k = (k ≡ kind.DisplayHelp) ⊎ (k ≡ kind.DisplayVersion)

-- clap may answer the words by help or the version
abbrev pub AskForHelp : List Text → Type 0
AskForHelp words = (k : ErrorKind) × IsAmong k (fault_of yangcheck_app words) × IsHelp k

-- clap may answer the words by another refusal
abbrev pub AreRefused : List Text → Type 0
AreRefused words = (k : ErrorKind) × IsAmong k (fault_of yangcheck_app words) × (IsHelp k → ⊥)
