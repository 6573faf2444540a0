-- Only private clauses cite this: the lines on the files so far, and how many they are.
use Rattle.std.specs.Prelude.{◌≡◌, ◌++◌, ◌∷◌, ℕ, List, [], length, string_bytes}
use Rattle.yv_base_streams.specs.Files.{File}
use Rattle.yv_note_refusals.specs.OtherRefusals.{AreOtherLines}
use Rattle.yv_note_refusals.specs.declared.other_files.OtherLines.{OtherLines}

-- the lines on these files, and their number
pub record HoldsLines (phase : ℕ) (files : List File) (o : OtherLines) : Type 0 where
  pub are : AreOtherLines phase files (string_bytes o.text)
  pub count : o.count ≡ length are.lines

-- a file was taken, behind those so far
abbrev pub TakesFile : ℕ → File → (old new : OtherLines) → Type 0
TakesFile phase f old new =
    (files : List File) → HoldsLines phase files old → HoldsLines phase (files ++ f ∷ []) new
