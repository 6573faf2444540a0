-- Only private clauses cite this: what a request needs besides documents.
use Rattle.std.specs.Prelude.{◌≡◌, ℕ, [], length}
use Rattle.yv_call.specs.Fits.{AreAtHand, IsRun}
use Rattle.yv_job.specs.Requests.{RequestAsked}

-- it searches no folder, it runs, documents are at hand, and it names so many files
pub record FitsFiles (asked : RequestAsked) (count : ℕ) : Type 0 where
  pub searches_none : asked.folders ≡ []
  pub runs : IsRun asked.action
  pub at_hand : AreAtHand asked.each
  pub has_files : length asked.files ≡ count
