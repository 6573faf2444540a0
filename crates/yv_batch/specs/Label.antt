-- The label of a document: its name, and the number of its line.
use Rattle.std.specs.Prelude.{ℕ, ◌≤◌, ◌<◌, ◌^◌, List, [], ◌∷◌, ◌++◌, codes, decimal, flat_map, IfSome}
use Rattle.std.specs.List.{All}
use Rattle.std.specs.declared.option.Option.{Option}
use Rattle.std.specs.declared.option.Option.TheVariants.{None, Some}
use Rattle.yv_batch.specs.AskedDocument.{AskedDocument}
use Rattle.yv_data_faults.specs.Line.{escape}

-- the number of a line, after a colon
abbrev pub number_text : Option ℕ → List ℕ
number_text None = []
number_text (Some number) = codes ":" ++ decimal number

-- the label of a document of this name and line
abbrev pub label_of : (name : List ℕ) → (line : Option ℕ) → List ℕ
label_of name line = escape name ++ number_text line

-- the label of a document
abbrev pub label_text : AskedDocument → List ℕ
label_text a = label_of a.name a.line

-- a line of a document of this label
abbrev pub label_line : (label : List ℕ) → (line : List ℕ) → List ℕ
label_line label line = label ++ (codes ": " ++ (line ++ 10 ∷ []))

-- lines of a document, each with its label
abbrev pub labelled_text : (lines : AskedDocument → List (List ℕ)) → AskedDocument → List ℕ
labelled_text lines a = flat_map (label_line (label_text a)) (lines a)

-- a visible ASCII character
abbrev pub IsVisible : ℕ → Type 0
IsVisible b = (33 ≤ b) × (b ≤ 126)

-- a name has bytes, and the number of a line 64 bits
pub record HasBytes (a : AskedDocument) : Type 0 where
  pub name : All (λ b. b < 2 ^ 8) a.name
  pub line : IfSome a.line (λ n. n < 2 ^ 64)
