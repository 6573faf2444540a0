-- Only private clauses cite this: what a writer holds after a run or an answer.
use Rattle.std.specs.Prelude.{◌≡◌, ◌⊎◌, ℕ, List, ◌++◌, ⊤}
use Rattle.std.specs.declared.option.Option.{Option}
use Rattle.std.specs.declared.option.Option.TheVariants.{None, Some}
use Rattle.yv_run.specs.Status.{exit_of}
use Rattle.yv_run.specs.declared.status.Status.{Status}

-- a run was stopped and wrote nothing, or it did this
abbrev pub Outcome : Status → (old new : Option (List ℕ)) → Type 0 → Type 0
Outcome status old new Runs = ((exit_of status ≡ 3) × (new ≡ old)) ⊎ Runs

-- where it is known what a writer held, it got an output of which this holds
abbrev pub Wrote : (old new : Option (List ℕ)) → (List ℕ → Type 0) → Type 0
Wrote None new IsOutput = ⊤
Wrote (Some before) None IsOutput = ⊥
Wrote (Some before) (Some after) IsOutput =
    (output : List ℕ) × (after ≡ before ++ output) × IsOutput output
