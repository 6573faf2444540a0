-- What is said of a document that was validated, as text without labels.
use Rattle.std.specs.Prelude.{ℕ, List, [], ◌∷◌, ◌++◌, codes}
use Rattle.std.specs.declared.option.Option.{Option}
use Rattle.std.specs.declared.option.Option.TheVariants.{None, Some}
use Rattle.yv_data_faults.specs.Flaw.{Flaw}
use Rattle.yv_documents.specs.Lines.{ended_line, faults_text}

-- `valid`, or the faults' lines and how many they are
abbrev pub checked_text : List Flaw → List ℕ
checked_text [] = ended_line (codes "valid")
checked_text (f ∷ fs) = faults_text (f ∷ fs)

-- a text, and what comes after it, where there is something
abbrev pub with_end : List ℕ → Option (List ℕ) → List ℕ
with_end text None = text
with_end text (Some end) = text ++ end
