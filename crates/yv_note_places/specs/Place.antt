-- Places in a text.
use Rattle.std.specs.Prelude.{ℕ, ◌≡◌, ◌≤◌, List, length, IfSome}
use Rattle.yv_base_positions.specs.Column.{column, line_at}
use Rattle.yv_note_places.specs.declared.places.FoundPlace.{FoundPlace}
use Rattle.yv_note_places.specs.declared.places.LineColumn.{LineColumn}

-- the place is that of this offset of the text
pub record IsPlaceOf (text : List ℕ) (offset : ℕ) (place : LineColumn) : Type 0 where
  pub within : offset ≤ length text
  pub line : place.line ≡ line_at text offset
  pub column : place.column ≡ column text offset

-- the place is that of an offset of the text
pub record IsPlace (text : List ℕ) (place : LineColumn) : Type 0 where
  pub offset : ℕ
  pub is : IsPlaceOf text offset place

-- both places of what was found are places of the text
pub record IsFound (text : List ℕ) (found : FoundPlace) : Type 0 where
  pub value : IsPlace text found.value
  pub name : IfSome found.name (IsPlace text)
