-- Texts between the bytes that end them: lines, and names.
use Rattle.std.specs.Prelude.{◌≡◌, ℕ, ◌==◌, List, [], ◌∷◌, take, ⊤, if◌then◌else◌}
use Rattle.std.specs.declared.option.Option.{Option}
use Rattle.std.specs.declared.option.Option.TheVariants.{None, Some}

-- a byte before the first of these texts
abbrev pub put_first : ℕ → List (List ℕ) → List (List ℕ)
put_first x [] = (x ∷ []) ∷ []
put_first x (piece ∷ more) = (x ∷ piece) ∷ more

-- the texts between the bytes `end`; what follows the last of these is one where it isn't empty
abbrev pub pieces : (end : ℕ) → List ℕ → List (List ℕ)
pieces end [] = []
pieces end (x ∷ xs) = if x == end then [] ∷ pieces end xs else put_first x (pieces end xs)

-- where the bytes are known that were to come, the first of their texts is this one, and the others
-- are to come
abbrev pub Passes : (end : ℕ) → Option (List ℕ) → Option (List ℕ) → List ℕ → Type 0
Passes end None new piece = ⊤
Passes end (Some xs) None piece = ⊥
Passes end (Some xs) (Some ys) piece = pieces end xs ≡ piece ∷ pieces end ys

-- the first bytes of the next text, of which at most so many are wanted
pub record TakesPiece (end limit : ℕ) (old new : Option (List ℕ)) (front : List ℕ) : Type 0 where
  pub piece : List ℕ
  pub passes : Passes end old new piece
  pub first : front ≡ take limit piece

-- a text was passed over
pub record PassesOne (end : ℕ) (old new : Option (List ℕ)) : Type 0 where
  pub piece : List ℕ
  pub passes : Passes end old new piece
