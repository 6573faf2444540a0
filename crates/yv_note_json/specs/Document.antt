-- What is said of a document that is not JSON, or too large.
use Rattle.std.specs.Prelude.{◌≡◌, ◌≤◌, ◌++◌, ◌∷◌, [], ◌⊎◌, ℕ, true, false, nat_lt, List, Some, None, length, codes, if◌then◌else◌}
use Rattle.std.specs.Str.{is_utf8}
use Rattle.serde_json.specs.Data.{Data}
use Rattle.serde_json.specs.Read.{read}
use Rattle.yv_note_text.specs.Excerpt.{ShowsPlace}

-- a line of the document is shown, with a place in it, and below it the reason
pub record ShowsReason (bytes text : List ℕ) : Type 0 where
  pub offset : ℕ
  pub line : List ℕ
  pub reason : List ℕ
  pub within : offset ≤ length bytes
  pub shown : ShowsPlace bytes offset line
  pub is : text ≡ line ++ reason

-- the bytes are UTF-8 of one JSON value
abbrev pub IsJson : List ℕ → Type 0
IsJson bytes = (is_utf8 bytes ≡ true) × (d : Data) × (read bytes ≡ Some d)

-- the bytes are not UTF-8, or not of a JSON value
abbrev pub IsNotJson : List ℕ → Type 0
IsNotJson bytes = (is_utf8 bytes ≡ false) ⊎ ((is_utf8 bytes ≡ true) × (read bytes ≡ None))

-- the bytes are not JSON, and the text shows a place in them with a reason
pub record SaysWhy (bytes text : List ℕ) : Type 0 where
  pub not_json : IsNotJson bytes
  pub shows : ShowsReason bytes text

-- the message on a document that is too large
abbrev pub large_text : List ℕ
large_text = codes "data: more than 16,777,216 bytes, which is the limit" ++ 10 ∷ []

-- the message on a document with too many members and items
abbrev pub many_text : List ℕ
many_text = codes "data: more than 16,777,216 members and items, which is the limit" ++ 10 ∷ []

-- the text says of which there are too many: of bytes, or else of members and items
abbrev pub TellsLarge : List ℕ → List ℕ → Type 0
TellsLarge bytes text = text ≡ (if nat_lt 16777216 (length bytes) then large_text else many_text)
