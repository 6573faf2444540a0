-- What an evaluator has read.
use Rattle.std.specs.Prelude.{◌≡◌, ℕ, Bool, List, ◌++◌}
use Rattle.yv_text_if_feature.specs.Tokens.{Token}
use Rattle.yv_text_if_feature.specs.Tokens as token
use Rattle.yv_text_if_feature.specs.Truth.{IsTruth}
use Rattle.yv_text_if_feature.specs.State.{State, completion}

-- a name holds as it is said to
abbrev pub Agrees : (List ℕ → Bool) → Token → Bool → Type 0
Agrees names (token.Name n) b = b ≡ names n
Agrees names t b = Unit {0}

-- an evaluator has read these words, the names among which are true or false: whatever follows, it
-- then has the truth of the condition that all words are, or no truth where they are no condition
unfoldable pub HasRead : (List ℕ → Bool) → State → List Token → Type 0
HasRead names e before =
    (rest : List Token) → IsTruth names (before ++ rest) (completion names e rest)
