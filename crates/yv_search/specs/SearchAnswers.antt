-- What a search answers.
use Rattle.std.specs.Prelude.{List, map, string_bytes}
use Rattle.std.specs.declared.result.Result.{Result}
use Rattle.std.specs.declared.result.Result.TheVariants.{Ok, Err}
use Rattle.std.specs.declared.vec.Vec.{Vec}
use Rattle.std.specs.declared.alloc.Global.{Global}
use Rattle.yv_base_streams.specs.Files.{File, file_of}
use Rattle.yv_base_streams.specs.declared.input.Input.{Input}
use Rattle.yv_search.specs.Listing.{ListedFile}
use Rattle.yv_search.specs.Search.{Shelf}
use Rattle.yv_search.specs.FoundFiles.{AreGathered, IsMissing, AreTooMany}
use Rattle.yv_search.specs.declared.file_search.Gathering.{Gathering}
use Rattle.yv_search.specs.declared.file_search.Gathering.TheVariants.{Unread, TooMany, NoMemory}

-- the files; or a file that the shelf doesn't have is asked for, or a 257th file; nothing is said
-- after want of memory
abbrev pub Answers : List ListedFile → Shelf → List File → Result (Vec Input Global) Gathering → Type 0
Answers listing shelf named (Ok files) = AreGathered listing shelf named (map file_of files.items)
Answers listing shelf named (Err (Unread name)) = IsMissing listing shelf named (string_bytes name)
Answers listing shelf named (Err TooMany) = AreTooMany listing shelf named
Answers listing shelf named (Err NoMemory) = Unit {0}
