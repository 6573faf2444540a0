-- The lines of faults, and how many they are.
use Rattle.std.specs.Prelude.{ℕ, List, [], ◌∷◌, ◌++◌, codes, decimal, flat_map, length}
use Rattle.yv_data_faults.specs.Line.{line_text}
use Rattle.yv_data_faults.specs.Flaw.{Flaw}

-- a line ends by a line feed
abbrev pub ended_line : List ℕ → List ℕ
ended_line text = text ++ 10 ∷ []

-- a line for each fault
abbrev pub fault_lines : List Flaw → List ℕ
fault_lines flaws = flat_map (λ f. ended_line (line_text f)) flaws

-- the faults' lines, and one of how many they are
abbrev pub faults_text : List Flaw → List ℕ
faults_text flaws = fault_lines flaws ++ ended_line (codes "faults: " ++ decimal (length flaws))
