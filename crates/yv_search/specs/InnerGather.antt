-- Only private clauses cite this: how far files are gathered.
use Rattle.std.specs.Prelude.{◌≡◌, List, map, Option}
use Rattle.yv_base_streams.specs.Files.{File}
use Rattle.yv_text_statement.specs.Tree.{Tree}
use Rattle.yv_search.specs.Listing.{ListedFile}
use Rattle.yv_search.specs.Roots.{HasRoot}
use Rattle.yv_search.specs.Search.{State, Shelf, Steps, with_file}
use Rattle.yv_search.specs.FoundFiles.{IsStart, file_in}
use Rattle.yv_search.specs.InnerSearch.{IsAt}
use Rattle.yv_search.specs.declared.search.Search.{Search}

-- a file was read, with the root that it has
pub record Takes (listing : List ListedFile) (s : State) (file : File) (new : Search) : Type 0 where
  pub root : Option Tree
  pub has : HasRoot file.bytes root
  pub at : IsAt listing new (with_file s (record { file = file; root = root }))

-- the named files were read
pub record Begins (listing : List ListedFile) (named : List File) (search : Search) : Type 0 where
  pub start : State
  pub begins : IsStart named start
  pub at : IsAt listing search start

-- files were found step by step
pub record Underway (listing : List ListedFile) (shelf now : Shelf) (named files : List File)
    (search : Search) : Type 0 where
  pub start : State
  pub state : State
  pub begins : IsStart named start
  pub steps : Steps listing shelf start state
  pub at : IsAt listing search state
  pub files_are : files ≡ map file_in state.files
  pub same : now ≡ shelf
