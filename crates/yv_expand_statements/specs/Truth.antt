-- Which conditions of files hold (RFC 7950, sections 5.6.1 and 7.20.2).
use Rattle.std.specs.Prelude.{ℕ, Bool, List}
use Rattle.yv_text_statement.specs.Selection.{ModuleChoice}
use Rattle.yv_link_scopes.specs.Files.{Files}
use Rattle.yv_link_features.specs.On.{Holds}

-- whether the expression of an `if-feature` in a file holds
abbrev pub Truth : Type 0
Truth = ℕ → List ℕ → Bool

-- the truth of the conditions of these files, where this is chosen of them
abbrev pub IsTruth : Files → ModuleChoice → Truth → Type 0
IsTruth files choice truth =
    (file : ℕ) (text : List ℕ) → Holds files choice file text (truth file text)
