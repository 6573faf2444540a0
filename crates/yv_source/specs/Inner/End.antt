-- Where the reader ends, and what it then answers; cited by private clauses only.
use Rattle.std.specs.Prelude.{◌≡◌, ℕ, List, [], ◌∷◌, Option, Some, None, Result, Ok, Err}
use Rattle.yv_text_statement.specs.Tree.{Tree}
use Rattle.yv_text_statement.specs.declared.refusal.Code.TheVariants as code
use Rattle.yv_text_statement.specs.declared.refusal.Stop.{Stop}
use Rattle.yv_text_statement.specs.declared.refusal.Stop.TheVariants.{Fault, PatternBuild, NoMemory}
use Rattle.yv_source.specs.Escapes.{IsNewer}
use Rattle.yv_source.specs.Answer.{refusal_in, IsSpelled, IsRefused}
use Rattle.yv_source.specs.declared.machine.Phase.{Phase}
use Rattle.yv_source.specs.declared.machine.Phase.TheVariants.{Between, Named, Argued, Said, Joined, Done}
use Rattle.yv_source.specs.declared.machine.Halt.{Halt}
use Rattle.yv_source.specs.declared.machine.Halt.TheVariants as halt

-- the answer is the outcome of the text, unless memory ran out
abbrev pub Comes : List ℕ → Result Tree Stop → Type 0
Comes text (Ok t) = IsSpelled text t
Comes text (Err (Fault r)) = IsRefused text r
Comes text (Err PatternBuild) = ⊥
Comes text (Err NoMemory) = Unit {0}

-- the statement that is whole
abbrev pub ended_in : Phase → List Tree → Option Tree
ended_in Done [] = None
ended_in Done (t ∷ below) = Some t
ended_in Between stack = None
ended_in Named stack = None
ended_in Argued stack = None
ended_in Said stack = None
ended_in Joined stack = None

-- the answer to a token that isn't taken
abbrev pub refusal_of_halt : Halt → List ℕ → ℕ → Stop
refusal_of_halt halt.Wrong text at = Fault (refusal_in text code.BadSyntax at)
refusal_of_halt halt.Deep text at = Fault (refusal_in text code.TooDeep at)
refusal_of_halt halt.NoMemory text at = NoMemory

-- the answer to a statement that is whole, where the first bad backslash pair is known
abbrev pub IsChecked : List ℕ → Option ℕ → Tree → Result Tree Stop → Type 0
IsChecked text bad u (Ok t) = (t ≡ u) × (IsNewer u.children → bad ≡ None)
IsChecked text bad u (Err e) =
    IsNewer u.children × (n : ℕ) × (bad ≡ Some n) × (e ≡ Fault (refusal_in text code.BadEscape n))

-- the answer at a text's end, where this statement is whole, or none
abbrev pub IsEnd : List ℕ → Option ℕ → ℕ → Option Tree → Result Tree Stop → Type 0
IsEnd text bad at None answer = answer ≡ Err (Fault (refusal_in text code.BadSyntax at))
IsEnd text bad at (Some u) answer = IsChecked text bad u answer
