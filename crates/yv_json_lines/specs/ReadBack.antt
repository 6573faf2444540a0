-- A line that is read.
use Rattle.std.specs.Prelude.{◌≡◌, ℕ, List, [], ◌∷◌, ◌++◌, Some}
use Rattle.serde_json.specs.Data.{Data, Members, object}
use Rattle.serde_json.specs.Find.{get}
use Rattle.serde_json.specs.Read.{read}
use Rattle.yv_json_lines.specs.Values.{json_line}

-- the line of a value is a text and a line feed, and the text is read as an object in which each
-- name has what it has in the value, and nothing where it has nothing there
pub record ReadsBack (value : Data) : Type 0 where
  pub text : List ℕ
  pub ends : json_line value ≡ text ++ 10 ∷ []
  pub members : Members
  pub is_read : read text ≡ Some (object members)
  pub has : (name : List ℕ) → get name (object members) ≡ get name value
