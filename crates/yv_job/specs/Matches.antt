-- Cited by private clauses only: what comes of one command, and of one error of clap.
use Rattle.std.specs.Prelude.{◌≢◌, List, Option, codes}
use Rattle.clap.specs.Words.{Text, Row, first_of}
use Rattle.clap.specs.declared.error.kind.ErrorKind.{ErrorKind}
use Rattle.clap.specs.declared.error.kind.ErrorKind.TheVariants as kind
use Rattle.yv_job.specs.Asks.{AsksIn, IsKindFor, IsEachFor, IsOutput, IsExplainFor}
use Rattle.yv_job.specs.Faults.{IsHelp}
use Rattle.yv_job.specs.Requests.{RequestAsked}
use Rattle.yv_job.specs.declared.matches.ReportOptions.{ReportOptions}
use Rattle.yv_job.specs.declared.request.JobFault.{JobFault}
use Rattle.yv_job.specs.declared.request.JobFault.TheVariants.{Usage, Help, NoMemory}

-- the command that was found asks for no request
abbrev pub AsksForNothing : Option (Text × List Row) → Type 0
AsksForNothing found = (w : RequestAsked) → AsksIn found w → ⊥

-- what is reported is what `--kind`, `--each`, `--format`, `--measures` and `--explain` ask for
pub record IsReport (rows : List Row) (o : ReportOptions) : Type 0 where
  pub kind : IsKindFor (first_of (codes "kind") rows) o.kind
  pub each : IsEachFor (first_of (codes "each") rows) o.each
  pub output : IsOutput rows o.output
  pub explain : IsExplainFor (first_of (codes "explain") rows) o.explain

-- a fault of usage, or want of memory
abbrev pub IsUsage : JobFault → Type 0
IsUsage (Usage text) = Unit {0}
IsUsage (Help text) = ⊥
IsUsage NoMemory = Unit {0}

-- what an error of this kind means
abbrev pub IsFaultFor : ErrorKind → JobFault → Type 0
IsFaultFor k (Usage text) = (k ≢ kind.OutOfMemory) × (IsHelp k → ⊥)
IsFaultFor k (Help text) = IsHelp k
IsFaultFor k NoMemory = Unit {0}
