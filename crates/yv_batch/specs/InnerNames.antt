-- Only private clauses cite this: what is had of the file of a name that was listed.
use Rattle.std.specs.Prelude.{◌≡◌, ℕ, List, ⊤}
use Rattle.std.specs.declared.option.Option.{Option}
use Rattle.std.specs.declared.option.Option.TheVariants.{None, Some}
use Rattle.yv_batch.specs.AskedDocument.{ReadResult, reading_of}
use Rattle.yv_batch.specs.NameDocuments.{file_of_name}
use Rattle.yv_batch.specs.Supply.{IsLost}
use Rattle.yv_batch.specs.declared.documents.Fetched.{Fetched}

-- where files are known, this is what is had of the file of this name, which may be too long
abbrev pub IsFetched : Option (List ℕ → ReadResult) → Option (List ℕ → ReadResult) → (name : List ℕ)
    → ReadResult → Type 0
IsFetched None new name got = ⊤
IsFetched (Some files) None name got = IsLost got
IsFetched (Some files) (Some others) name got = (others ≡ files) × (got ≡ file_of_name files name)

-- it was fetched, and isn't one of a file's lines
pub record IsNamed (old new : Option (List ℕ → ReadResult)) (name : List ℕ) (f : Fetched) : Type 0 where
  pub line : f.line ≡ None
  pub file : IsFetched old new name (reading_of f.content)
