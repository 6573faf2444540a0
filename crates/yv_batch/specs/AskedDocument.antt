-- What a document is that was asked for.
use Rattle.std.specs.Prelude.{ℕ, List}
use Rattle.std.specs.declared.option.Option.{Option}
use Rattle.yv_batch.specs.declared.documents.Content.{Content}
use Rattle.yv_batch.specs.declared.documents.Content.TheVariants as content
use Rattle.yv_batch.specs.declared.documents.Fetched.{Fetched}

-- its bytes, up to one more than a document may have; or it can't be read; or memory was refused
pub data ReadResult : Type 0 where
  Read : List ℕ → ReadResult
  Unread : ReadResult
  NoRoom : ReadResult

-- a document by its name, and by the number of its line where the name's file has one on each line
pub record AskedDocument : Type 0 where
  pub name : List ℕ
  pub line : Option ℕ
  pub fetched : ReadResult

-- what was read, as clauses see it
abbrev pub reading_of : Content → ReadResult
reading_of (content.Read v) = Read v.items
reading_of content.Unread = Unread
reading_of content.NoRoom = NoRoom

-- a document of this name
abbrev pub asked_of : (name : List ℕ) → Fetched → AskedDocument
asked_of name f = record { name = name; line = f.line; fetched = reading_of f.content }

-- what was read, and wasn't lost
abbrev pub CanRead : Content → Type 0
CanRead (content.Read v) = Unit {0}
CanRead content.Unread = ⊥
CanRead content.NoRoom = ⊥
