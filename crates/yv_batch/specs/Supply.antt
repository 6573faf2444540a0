-- Documents that are fetched one by one.
use Rattle.std.specs.Prelude.{◌≡◌, ◌⊎◌, List, [], ◌∷◌, ◌++◌, Bool, true, false, ⊤}
use Rattle.std.specs.declared.option.Option.{Option}
use Rattle.std.specs.declared.option.Option.TheVariants.{None, Some}
use Rattle.yv_batch.specs.AskedDocument.{AskedDocument, NoRoom, Read, ReadResult, Unread}
use Rattle.yv_batch.specs.declared.documents.Fetched.{Fetched}

-- it wasn't read, so that what is still to come may no longer be known
abbrev pub IsLost : ReadResult → Type 0
IsLost (Read given) = ⊥
IsLost Unread = Unit {0}
IsLost NoRoom = Unit {0}

-- a document was fetched, and it wasn't read
abbrev pub IsLostOne : Option AskedDocument → Type 0
IsLostOne None = ⊥
IsLostOne (Some a) = IsLost a.fetched

-- the first of these were to come, up to one that wasn't read
pub record LosesOne (unread asked : List AskedDocument) : Type 0 where
  pub before : List AskedDocument
  pub unseen : List AskedDocument
  pub lost : AskedDocument
  pub others : List AskedDocument
  pub first : unread ≡ before ++ unseen
  pub parts : asked ≡ before ++ lost ∷ others
  pub is_lost : IsLost lost.fetched

-- a call that fetched nothing is the end
abbrev pub is_end : Option Fetched → Bool
is_end None = true
is_end (Some f) = false

-- Where it is known what is still to come, the first of it is fetched and the others are to come,
-- or nothing is fetched and nothing is to come. What is to come is no longer known only after a
-- document that wasn't read.
abbrev pub Takes : Option (List AskedDocument) → Option (List AskedDocument) → Option AskedDocument → Type 0
Takes None new fetched = ⊤
Takes (Some xs) None fetched = IsLostOne fetched
Takes (Some xs) (Some ys) None = (xs ≡ []) × (ys ≡ [])
Takes (Some xs) (Some ys) (Some a) = xs ≡ a ∷ ys

-- these were fetched first, and the others are to come, where that is known
abbrev pub IsSplit : List AskedDocument → Option (List AskedDocument) → List AskedDocument → Type 0
IsSplit xs None asked = ⊥
IsSplit xs (Some ys) asked = xs ≡ asked ++ ys

-- so it is where it was known what was to come, as far as all were read
abbrev pub Split : Option (List AskedDocument) → Option (List AskedDocument) → List AskedDocument → Type 0
Split None new asked = ⊤
Split (Some xs) new asked = LosesOne xs asked ⊎ IsSplit xs new asked

-- they are all that were to come, where that was known, as far as all were read
abbrev pub AreAll : Option (List AskedDocument) → List AskedDocument → Type 0
AreAll None asked = ⊤
AreAll (Some xs) asked = LosesOne xs asked ⊎ (xs ≡ asked)
