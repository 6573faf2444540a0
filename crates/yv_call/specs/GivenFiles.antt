-- The files that are given, with their names.
use Rattle.std.specs.Prelude.{◌+◌, ℕ, List, [], ◌∷◌, take}
use Rattle.yv_base_streams.specs.Files.{File, file_limit}

-- a file of this name, with its bytes up to one more than a file may have
abbrev pub file_named : (name bytes : List ℕ) → File
file_named name bytes = record { name = name; bytes = take (file_limit + 1) bytes }

-- the files of these names, with the bytes that are given for them in their order
abbrev pub files_named : (names : List (List ℕ)) → (given : List (List ℕ)) → List File
files_named [] given = []
files_named (name ∷ names) [] = []
files_named (name ∷ names) (bytes ∷ given) = file_named name bytes ∷ files_named names given
