-- Only private clauses cite this: how far a text has come.
use Rattle.std.specs.Prelude.{◌≡◌, ℕ, ◌==◌, ◌≤◌, ◌<◌, Bool, true, false, List, [], ◌∷◌, ◌++◌, length, take, slice_index, ⊤}
use Rattle.std.specs.declared.option.Option.{Option}
use Rattle.std.specs.declared.option.Option.TheVariants.{None, Some}
use Rattle.std.specs.Io.KnownBytes.{Consumes, IsAtEnd, Keeps}
use Rattle.yv_batch.specs.Pieces.{TakesPiece}

-- none of these bytes is `end`
abbrev pub Lacks : (end : ℕ) → List ℕ → Type 0
Lacks end [] = Unit {0}
Lacks end (x ∷ xs) = ((x == end) ≡ false) × Lacks end xs

-- the next text is still to come, or its rest: so much of it was passed
pub record IsUnderway (end : ℕ) (old new : Option (List ℕ)) (passed : List ℕ) : Type 0 where
  pub lacks : Lacks end passed
  pub consumed : Consumes old new passed

-- and its first bytes were kept, of which at most so many are wanted
pub record IsKept (end limit : ℕ) (old new : Option (List ℕ)) (front : List ℕ) : Type 0 where
  pub passed : List ℕ
  pub underway : IsUnderway end old new passed
  pub first : front ≡ take limit passed

-- there are bytes still to come, where that is known
abbrev pub HasMore : Option (List ℕ) → Type 0
HasMore None = ⊤
HasMore (Some []) = ⊥
HasMore (Some (x ∷ xs)) = ⊤

-- so many of these bytes come before the first that ends a text, or before their end
pub record IsPlace (end : ℕ) (bytes : List ℕ) (count : ℕ) : Type 0 where
  pub within : count ≤ length bytes
  pub lacks : Lacks end (take count bytes)
  pub ends : count < length bytes → slice_index bytes count ≡ end

-- these bytes were passed, and where a text ended after them, the byte that ends it
abbrev pub IsPassed : (end : ℕ) → Option (List ℕ) → Option (List ℕ) → List ℕ → (is_whole : Bool)
    → Type 0
IsPassed end old new part false = Consumes old new part
IsPassed end old new part true = Consumes old new (part ++ end ∷ [])

-- more of a text is kept, or all that is wanted of it
abbrev pub IsTaken : (end limit : ℕ) → Option (List ℕ) → Option (List ℕ) → List ℕ
    → (is_whole : Bool) → Type 0
IsTaken end limit old new front false = IsKept end limit old new front
IsTaken end limit old new front true = TakesPiece end limit old new front

-- a part of a text was passed
pub record PassesPart (end : ℕ) (old new : Option (List ℕ)) : Type 0 where
  pub part : List ℕ
  pub underway : IsUnderway end old new part

-- nothing was to come, nor is it
abbrev pub IsEnd : Option (List ℕ) → Option (List ℕ) → Type 0
IsEnd old new = IsAtEnd old × Keeps old new
