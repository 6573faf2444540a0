-- Only private clauses cite this: a plan for so many files.
use Rattle.std.specs.Prelude.{◌≡◌, ℕ, length}
use Rattle.yv_job.specs.Jobs.{HasLimit}
use Rattle.yangcheck.specs.declared.plan.Plan.{Plan}
use Rattle.yangcheck.specs.declared.plan.Plan.TheVariants.{Do, Print}

-- a job names as many files, and its limit is one that a job may have
abbrev pub IsFor : ℕ → Plan → Type 0
IsFor count (Do job work) = (count ≡ length job.files.items) × HasLimit job
IsFor count (Print text) = Unit {0}
