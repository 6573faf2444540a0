-- Only private clauses cite this: what comes of a step from source to source.
use Rattle.std.specs.Prelude.{◌≡◌, ℕ, Bool, true, false, List, [], ⊤}
use Rattle.std.specs.declared.option.Option.{Option}
use Rattle.std.specs.declared.option.Option.TheVariants.{None, Some}
use Rattle.yv_batch.specs.AskedDocument.{AskedDocument, NoRoom, Read, ReadResult, Unread, asked_of}
use Rattle.yv_batch.specs.InnerSupply.{IsSame}
use Rattle.yv_batch.specs.SourceStore.{IsOpen}
use Rattle.yv_batch.specs.Supply.{Takes}
use Rattle.yv_batch.specs.declared.documents.Fetched.{Fetched}

-- nothing is to come, where that is known
abbrev pub IsDone : Option (List AskedDocument) → Type 0
IsDone None = ⊤
IsDone (Some xs) = xs ≡ []

-- a document was fetched; or none was, where it was known what was to come, and nothing more is to
-- come of the source that is open
abbrev pub Steps : (old new here : Option (List AskedDocument)) → (name : List ℕ) → Option Fetched
    → Type 0
Steps old new here name (Some f) = Takes old new (Some (asked_of name f))
Steps None new here name None = ⊤
Steps (Some xs) new here name None = IsSame (Some xs) new × IsDone here

-- where it is known what sources have, this one has these bytes
abbrev pub HasSource : Option (List ℕ → Option (List ℕ)) → (name : List ℕ) → Option (List ℕ)
    → Type 0
HasSource None name left = ⊤
HasSource (Some contents) name left = IsOpen (contents name) left

-- a document wasn't read
abbrev pub is_lost : ReadResult → Bool
is_lost (Read given) = false
is_lost Unread = true
is_lost NoRoom = true
