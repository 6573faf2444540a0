-- The files of a search, named and found.
use Rattle.std.specs.Prelude.{◌≡◌, ℕ, ◌≤◌, List, [], map, All, length, None}
use Rattle.yv_base_streams.specs.Files.{File}
use Rattle.yv_search.specs.Listing.{ListedFile, found_name}
use Rattle.yv_search.specs.Wants.{Want}
use Rattle.yv_search.specs.Choice.{Candidate}
use Rattle.yv_search.specs.Roots.{HasRoot}
use Rattle.yv_search.specs.Search.{RootedFile, State, Shelf, Gives, Asks, Steps, next}

-- the file without its root
abbrev pub file_in : RootedFile → File
file_in f = f.file

-- the named files with their roots: where a search begins
pub record IsStart (named : List File) (s : State) : Type 0 where
  pub files : map file_in s.files ≡ named
  pub roots : All (λ f. HasRoot f.file.bytes f.root) s.files
  pub sought : s.sought ≡ []

-- a state is reached from the named files by a finite run of steps
pub record IsReached (listing : List ListedFile) (shelf : Shelf) (named : List File)
    (state : State) : Type 0 where
  pub start : State
  pub begins : IsStart named start
  pub steps : Steps listing shelf start state

-- the files are the named ones and then those that a finite run of steps finds, after which nothing
-- is to be looked for
pub record AreGathered (listing : List ListedFile) (shelf : Shelf) (named files : List File) : Type 0 where
  pub end : State
  pub reached : IsReached listing shelf named end
  pub done : next end ≡ None
  pub files_are : files ≡ map file_in end.files

-- a file is asked for in a state that is reached
pub record AsksFor (listing : List ListedFile) (shelf : Shelf) (named : List File) (state : State)
    (candidate : Candidate) : Type 0 where
  pub reached : IsReached listing shelf named state
  pub want : Want
  pub asks : Asks listing state want candidate

-- a file is asked for, of which the shelf has nothing
pub record IsMissing (listing : List ListedFile) (shelf : Shelf) (named : List File)
    (name : List ℕ) : Type 0 where
  pub state : State
  pub candidate : Candidate
  pub asks : AsksFor listing shelf named state candidate
  pub name_is : name ≡ found_name candidate.file
  pub lacks : Gives shelf name None

-- how many files there may be
abbrev pub most_files : ℕ
most_files = 256

-- a file more is asked for than there may be
pub record AreTooMany (listing : List ListedFile) (shelf : Shelf) (named : List File) : Type 0 where
  pub state : State
  pub candidate : Candidate
  pub asks : AsksFor listing shelf named state candidate
  pub full : most_files ≤ length state.files
