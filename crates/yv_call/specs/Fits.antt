-- What is needed for a request, and what of it isn't given.
use Rattle.std.specs.Prelude.{◌≡◌, ℕ, List, [], ◌∷◌, codes, length}
use Rattle.std.specs.declared.option.Option.{Option}
use Rattle.std.specs.declared.option.Option.TheVariants.{None, Some}
use Rattle.yv_call.specs.Documents.{HaveNames}
use Rattle.yv_call.specs.declared.misfit.Misfit.{Misfit}
use Rattle.yv_call.specs.declared.misfit.Misfit.TheVariants as of
use Rattle.yv_job.specs.Jobs.{CommandAsked, Checks, Compiles, Draws}
use Rattle.yv_job.specs.Requests.{ActionAsked, ChecksAll, Does, Lints, Lists, RequestAsked}
use Rattle.yv_job.specs.declared.request.Each.{Each}
use Rattle.yv_job.specs.declared.request.Each.TheVariants as each

-- the names of the sources whose documents a command needs
abbrev pub command_sources : CommandAsked → List (List ℕ)
command_sources Compiles = []
command_sources (Draws tree) = []
command_sources (Checks name) = name ∷ []

-- the names of the sources whose documents an action needs
abbrev pub source_names : ActionAsked → List (List ℕ)
source_names Lists = []
source_names (Does command) = command_sources command
source_names (ChecksAll names) = names
source_names (Lints rules) = []

-- an action does more than to show which files there are
abbrev pub IsRun : ActionAsked → Type 0
IsRun Lists = ⊥
IsRun (Does command) = Unit {0}
IsRun (ChecksAll names) = Unit {0}
IsRun (Lints rules) = Unit {0}

-- sources hold documents, and not the names of their files
abbrev pub AreAtHand : Option Each → Type 0
AreAtHand None = Unit {0}
AreAtHand (Some each.File) = Unit {0}
AreAtHand (Some each.Line) = Unit {0}
AreAtHand (Some each.Name) = ⊥
AreAtHand (Some each.Name0) = ⊥

-- A request asks for nothing that isn't given: it searches no folder, it runs, documents are at
-- hand, and what is given is what is in each file and each source that it names.
pub record Fits (asked : RequestAsked) (files documents : List (List ℕ)) : Type 0 where
  pub searches_none : asked.folders ≡ []
  pub runs : IsRun asked.action
  pub at_hand : AreAtHand asked.each
  pub has_files : length asked.files ≡ length files
  pub has_documents : HaveNames (source_names asked.action) documents

-- so a request asks for what isn't given
abbrev pub Lacks : RequestAsked → (files documents : List (List ℕ)) → Misfit → Type 0
Lacks asked files documents of.Search = asked.folders ≡ [] → ⊥
Lacks asked files documents of.Listing = IsRun asked.action → ⊥
Lacks asked files documents of.NamesOfFiles = AreAtHand asked.each → ⊥
Lacks asked files documents of.FileCount = length asked.files ≡ length files → ⊥
Lacks asked files documents of.DocumentCount =
    length (source_names asked.action) ≡ length documents → ⊥
Lacks asked files documents of.Unequal = HaveNames (source_names asked.action) documents → ⊥

-- what is said of it, as one line without its line feed
abbrev pub reason_of : Misfit → List ℕ
reason_of of.Search = codes "yangcheck: the library does not support --path"
reason_of of.Listing = codes "yangcheck: the library does not support the command files"
reason_of of.NamesOfFiles =
    codes "yangcheck: the library does not support --each name and --each name0"
reason_of of.FileCount = codes "yangcheck: the words name another number of files than is given"
reason_of of.DocumentCount =
    codes "yangcheck: the words name another number of documents than is given"
reason_of of.Unequal = codes "yangcheck: two documents of one name differ"
