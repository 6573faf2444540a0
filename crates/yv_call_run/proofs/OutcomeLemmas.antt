-- What is known of an outcome.
use Rattle.std.proofs.Common.{◌≡◌, ◌⊎◌, ℕ, List, [], Option, None, Some, inl, inr, refl, sym, ap, append-nil}
use Rattle.std.specs.Io.KnownBytes.{Appends}
use Rattle.yv_call_run.specs.InnerOutcomes.{Outcome, Wrote}
use Rattle.yv_run.specs.Batches.{StopsBefore}
use Rattle.yv_run.specs.Output.{IsStopped}
use Rattle.yv_run.specs.Status.{exit_of}
use Rattle.yv_run.specs.declared.status.Status.{Status}
use Rattle.yv_run.specs.declared.status.Status.TheVariants as ended

stopped_exit : (status : Status) → IsStopped status → exit_of status ≡ 3
stopped_exit ended.Clean is = absurd is
stopped_exit ended.Refused is = absurd is
stopped_exit ended.BadInput is = absurd is
stopped_exit ended.NoMemory is = refl
stopped_exit ended.PatternBuild is = refl
stopped_exit ended.ReadFault is = refl
stopped_exit ended.WriteFault is = absurd is

before_exit : (status : Status) → StopsBefore status → exit_of status ≡ 3
before_exit ended.Clean is = absurd is
before_exit ended.Refused is = absurd is
before_exit ended.BadInput is = absurd is
before_exit ended.NoMemory is = refl
before_exit ended.PatternBuild is = refl
before_exit ended.ReadFault is = absurd is
before_exit ended.WriteFault is = absurd is

-- the outcome of a run that was stopped, or not
pub outcome_of : {W Runs : Type 0} (contents : W → Option (List ℕ)) (status : Status) (old new : W)
    → IsStopped status ⊎ Runs → (IsStopped status → new ≡ old)
    → Outcome status (contents old) (contents new) Runs
outcome_of contents status old new how rest = elim how [
  | inl is ↦ inl (stopped_exit status is, ap contents (rest is))
  | inr runs ↦ inr runs
]

-- the same of a run over many documents
pub outcome_before : {W Runs : Type 0} (contents : W → Option (List ℕ)) (status : Status)
    (old new : W) → StopsBefore status ⊎ Runs → (StopsBefore status → new ≡ old)
    → Outcome status (contents old) (contents new) Runs
outcome_before contents status old new how rest = elim how [
  | inl is ↦ inl (before_exit status is, ap contents (rest is))
  | inr runs ↦ inr runs
]

-- what follows from an outcome
pub outcome_map : {A B : Type 0} (status : Status) (old new : Option (List ℕ)) → (A → B)
    → Outcome status old new A → Outcome status old new B
outcome_map status old new f how = elim how [ inl is ↦ inl is | inr runs ↦ inr (f runs) ]

-- nothing was written
pub wrote_none : (held : Option (List ℕ)) (IsOutput : List ℕ → Type 0) → IsOutput []
    → Wrote held held IsOutput
wrote_none None IsOutput is = tt
wrote_none (Some before) IsOutput is = ([], sym (append-nil before), is)

-- this was written
pub wrote_all : (old new : Option (List ℕ)) (text : List ℕ) (IsOutput : List ℕ → Type 0)
    → Appends old new text → IsOutput text → Wrote old new IsOutput
wrote_all None new text IsOutput appends is = tt
wrote_all (Some before) None text IsOutput appends is = absurd appends
wrote_all (Some before) (Some after) text IsOutput appends is = (text, appends, is)
