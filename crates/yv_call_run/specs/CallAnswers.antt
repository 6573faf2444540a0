-- What is answered to a call.
use Rattle.std.specs.Prelude.{◌≡◌, ◌⊎◌, ℕ, List, [], ◌∷◌, ◌++◌, All, Some}
use Rattle.std.specs.Str.{IsUtf8}
use Rattle.yv_call.specs.Fits.{Fits, Lacks, reason_of}
use Rattle.yv_call.specs.declared.misfit.Misfit.{Misfit}
use Rattle.yv_call_run.specs.Calls.{CallInput, line_of}
use Rattle.yv_call_run.specs.NoteParts.{HasNote}
use Rattle.yv_call_run.specs.Performs.{Performs}
use Rattle.yv_job.specs.Asks.{WordsAsk}
use Rattle.yv_job.specs.Faults.{AskForHelp, AskForNothing}
use Rattle.yv_job.specs.Requests.{RequestAsked}
use Rattle.yv_run.specs.Status.{exit_of}
use Rattle.yv_run.specs.declared.whole_run.RunEnd.{RunEnd}

-- The exit status, the output and the note of a call: a word is not UTF-8; or the words ask for no
-- request, or for help; or they ask for more than is given; or want of memory or a pattern stopped
-- the run; or what they ask for was done, and the output is what a run writes to a writer that
-- holds nothing.
pub data Answers (given : CallInput) (status : ℕ) (output note : List ℕ) : Type 0 where
  unspelled : (All IsUtf8 given.words → ⊥) → status ≡ 2 → output ≡ []
      → Answers given status output note
  refused : AskForNothing (line_of given) → status ≡ 2 → output ≡ []
      → Answers given status output note
  helps : AskForHelp (line_of given) → (status ≡ 0) ⊎ (status ≡ 3)
      → Answers given status output note
  lacks : (asked : RequestAsked) → WordsAsk (line_of given) asked → (misfit : Misfit)
      → Lacks asked given.files given.documents misfit → status ≡ 2 → output ≡ []
      → note ≡ reason_of misfit ++ 10 ∷ [] → Answers given status output note
  stops : status ≡ 3 → output ≡ [] → Answers given status output note
  performs : (asked : RequestAsked) → WordsAsk (line_of given) asked
      → Fits asked given.files given.documents → (run : RunEnd)
      → Performs asked given.files given.documents run (Some []) (Some output) → HasNote run note
      → status ≡ exit_of run.status → Answers given status output note
