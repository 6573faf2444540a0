-- A text that is one line.
use Rattle.std.specs.Prelude.{◌≡◌, ◌≢◌, ◌<◌, ◌^◌, ℕ, List, [], ◌∷◌, ◌++◌, Option, IfSome}
use Rattle.std.specs.List.{All}
use Rattle.yv_schema_tables.specs.declared.measures.Measures.{Measures}
use Rattle.yv_json_lines.specs.declared.document.DocumentVerdict.{DocumentVerdict}
use Rattle.yv_json_lines.specs.declared.document.DocumentVerdict.TheVariants as verdict
use Rattle.yv_json_lines.specs.declared.document.ValidationCost.{ValidationCost}

-- neither a line feed nor a carriage return
abbrev pub IsInLine : ℕ → Type 0
IsInLine b = (b ≢ 10) × (b ≢ 13)

-- a line feed comes at the end of a text, and neither one nor a carriage return before it
pub record IsOneLine (text : List ℕ) : Type 0 where
  pub front : List ℕ
  pub ends : text ≡ front ++ 10 ∷ []
  pub others : All IsInLine front

-- a number has 64 bits
abbrev pub Fits : ℕ → Type 0
Fits n = n < 2 ^ 64

-- the number of a document's line has 64 bits, where it has one
abbrev pub LineFits : Option ℕ → Type 0
LineFits line = IfSome line Fits

-- the numbers that a schema measures have 64 bits, where they are said
abbrev pub MeasuresFit : Option Measures → Type 0
MeasuresFit measures = IfSome measures (λ (s : Measures). Fits s.m × Fits s.u × Fits s.w)

-- the numbers of a cost have 64 bits, where it is said
abbrev pub CostFits : Option ValidationCost → Type 0
CostFits cost = IfSome cost (λ (c : ValidationCost). Fits c.size × Fits c.steps × Fits c.bound)

-- the number of a document's faults and its cost have 64 bits, where it was validated
abbrev pub VerdictFits : DocumentVerdict → Type 0
VerdictFits (verdict.Validated faults cost) = Fits faults × CostFits cost
VerdictFits verdict.TooLarge = Unit {0}
VerdictFits verdict.NotJson = Unit {0}
VerdictFits verdict.CannotRead = Unit {0}
VerdictFits verdict.OutOfMemory = Unit {0}
