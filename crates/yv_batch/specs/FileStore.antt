-- What is had of files.
use Rattle.std.specs.Prelude.{◌≡◌, ℕ, List, ⊤}
use Rattle.std.specs.declared.option.Option.{Option}
use Rattle.std.specs.declared.option.Option.TheVariants.{None, Some}
use Rattle.yv_batch.specs.AskedDocument.{ReadResult, reading_of}
use Rattle.yv_batch.specs.Supply.{IsLost}
use Rattle.yv_batch.specs.declared.documents.Fetched.{Fetched}

-- Where it is known what is had of files, this is what is had of the file of this name, and the
-- files are the same. They are no longer known only after one that wasn't read.
abbrev pub Tells : Option (List ℕ → ReadResult) → Option (List ℕ → ReadResult) → (name : List ℕ)
    → ReadResult → Type 0
Tells None new name got = ⊤
Tells (Some files) None name got = IsLost got
Tells (Some files) (Some others) name got = (others ≡ files) × (got ≡ files name)

-- a call lost a document
abbrev pub LosesFetched : Option Fetched → Type 0
LosesFetched None = ⊥
LosesFetched (Some f) = IsLost (reading_of f.content)

-- what is known of files stays as it is, or is no longer known, but only after a document that
-- wasn't read
abbrev pub StayKnown : Option (List ℕ → ReadResult) → Option (List ℕ → ReadResult)
    → Option Fetched → Type 0
StayKnown None new fetched = ⊤
StayKnown (Some files) None fetched = LosesFetched fetched
StayKnown (Some files) (Some others) fetched = others ≡ files
