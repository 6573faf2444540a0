-- What the bytes of a document are.
use Rattle.std.specs.Prelude.{◌≤◌, ℕ, ltb, List, length, Option, Some, None, if◌then◌else◌}
use Rattle.std.specs.Str.{is_utf8}
use Rattle.serde_json.specs.Data.{Data, depth}
use Rattle.serde_json.specs.Read.{read}
use Rattle.serde_json.specs.View.{view}
use Rattle.yv_validate.specs.Size.{size}
use Rattle.yv_documents.specs.declared.document.Document.{Document}
use Rattle.yv_documents.specs.declared.document.Document.TheVariants as is

-- a document is too large, or no JSON, or some data
pub data DocumentText : Type 0 where
  TooLarge : DocumentText
  NotJson : DocumentText
  Reads : Data → DocumentText

-- what a document may have at most of bytes, and of members and items
abbrev pub document_limit : ℕ
document_limit = 16777216

-- the data that bytes are: UTF-8 of one JSON value, with nothing after it, nested 127 deep at most
unfoldable pub json_of : List ℕ → Option Data
json_of bytes = if is_utf8 bytes then read bytes else None

-- data of too many members and items are too large
abbrev pub reading_of : Option Data → DocumentText
reading_of None = NotJson
reading_of (Some d) = if ltb document_limit (size d) then TooLarge else Reads d

-- bytes of which there are too many are too large; others are what they are as JSON
unfoldable pub document_text : List ℕ → DocumentText
document_text bytes =
    if ltb document_limit (length bytes) then TooLarge else reading_of (json_of bytes)

-- what was read, as clauses see it
abbrev pub document_view : Document → DocumentText
document_view is.TooLarge = TooLarge
document_view is.NotJson = NotJson
document_view (is.Json v) = Reads (view v)

-- data that were read are within the limits
abbrev pub MeetsLimits : Document → Type 0
MeetsLimits is.TooLarge = Unit {0}
MeetsLimits is.NotJson = Unit {0}
MeetsLimits (is.Json v) = (size (view v) ≤ document_limit) × (depth (view v) ≤ 127)
