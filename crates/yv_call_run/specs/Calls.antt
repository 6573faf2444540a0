-- What a call is given.
use Rattle.std.specs.Prelude.{ℕ, List, ◌∷◌, codes}

-- the words of a command line after the name of the program, what is in the files that they name,
-- and what is in the sources of documents that they name
pub record CallInput : Type 0 where
  pub words : List (List ℕ)
  pub files : List (List ℕ)
  pub documents : List (List ℕ)

-- the whole command line
abbrev pub line_of : CallInput → List (List ℕ)
line_of given = codes "yangcheck" ∷ given.words
