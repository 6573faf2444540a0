-- What sources have, and what is read of one.
use Rattle.std.specs.Prelude.{◌≡◌, ℕ, List, take, ⊤}
use Rattle.std.specs.declared.option.Option.{Option}
use Rattle.std.specs.declared.option.Option.TheVariants.{None, Some}
use Rattle.std.specs.declared.result.Result.{Result}
use Rattle.std.specs.declared.result.Result.TheVariants.{Err, Ok}
use Rattle.yv_base_streams.specs.declared.stream.InputFault.{InputFault}
use Rattle.yv_base_streams.specs.declared.stream.InputFault.TheVariants as fault
use Rattle.yv_batch.specs.AskedDocument.{NoRoom, Read, ReadResult, Unread}

-- a source can be opened, and these are its bytes
abbrev pub IsOpen : Option (List ℕ) → Option (List ℕ) → Type 0
IsOpen None left = ⊥
IsOpen (Some bytes) left = left ≡ Some bytes

-- Where it is known what sources have, a reader has the bytes of the source of this name, or there
-- are none, and the sources are the same. They are no longer known only after a failure.
abbrev pub Opens : {R : Type 0} → (remaining : R → Option (List ℕ))
    → Option (List ℕ → Option (List ℕ)) → Option (List ℕ → Option (List ℕ)) → (name : List ℕ)
    → Result R InputFault → Type 0
Opens remaining None new name opened = ⊤
Opens remaining (Some contents) None name (Ok reader) = ⊥
Opens remaining (Some contents) None name (Err e) = ⊤
Opens remaining (Some contents) (Some others) name (Ok reader) =
    (others ≡ contents) × IsOpen (contents name) (remaining reader)
Opens remaining (Some contents) (Some others) name (Err e) =
    (others ≡ contents) × (contents name ≡ None) × (e ≡ fault.Read)

-- the bytes that a reader had, where they are known, up to one more than a document may have
abbrev pub IsWhole : Option (List ℕ) → ReadResult → Type 0
IsWhole None got = ⊤
IsWhole (Some bytes) (Read given) = given ≡ take 16777217 bytes
IsWhole (Some bytes) Unread = ⊤
IsWhole (Some bytes) NoRoom = ⊤
