-- What files are read as.
use Rattle.std.specs.Prelude.{◌≡◌, ◌⊎◌, ℕ, List, take, Some, slice_get}
use Rattle.std.specs.List.{AllZip}
use Rattle.yv_text_statement.specs.Tree.{Tree}
use Rattle.yv_text_statement.specs.declared.refusal.Refusal.{Refusal}
use Rattle.yv_source.specs.Answer.{IsBadFile, IsSpelled, IsRefused}
use Rattle.yv_source.specs.Legal.{IsLegalFile}
use Rattle.yv_base_streams.specs.Files.{File}

-- a file's bytes are a legal text that spells this statement
abbrev pub IsRead : File → Tree → Type 0
IsRead f t = IsLegalFile f.bytes × IsSpelled f.bytes t

-- a file's bytes aren't legal text, or one that spells no statement
abbrev pub IsUnread : File → Refusal → Type 0
IsUnread f r = IsBadFile f.bytes r ⊎ (IsLegalFile f.bytes × IsRefused f.bytes r)

-- a refusal of one file, told of the file of this number
abbrev pub in_file : ℕ → Refusal → Refusal
in_file n r = record { code = r.code; file = n; offset = r.offset; line = r.line }

-- a file can't be read, though those before it can
pub record IsUnreadAt (files : List File) (r : Refusal) : Type 0 where
  pub number : ℕ
  pub before : List Tree
  pub read : AllZip IsRead (take number files) before
  pub file : File
  pub at : slice_get files number ≡ Some file
  pub own : Refusal
  pub unread : IsUnread file own
  pub placed : r ≡ in_file number own
