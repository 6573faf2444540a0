-- The parts of a file that a line shows.
use Rattle.std.specs.Prelude.{ℕ, List, []}
use Rattle.std.specs.declared.option.Option.{Option}
use Rattle.std.specs.declared.option.Option.TheVariants.{Some, None}
use Rattle.yv_base_streams.specs.Files.{File}

-- the name of a file, where there is one
abbrev pub name_of_file : Option File → List ℕ
name_of_file None = []
name_of_file (Some f) = f.name

-- and its bytes
abbrev pub bytes_of_file : Option File → List ℕ
bytes_of_file None = []
bytes_of_file (Some f) = f.bytes
