-- The value of a document to which a JSON pointer leads, as one reads it (RFC 6901). How pointers
-- are written is defined elsewhere, and nothing of that is used here.
use Rattle.std.specs.Prelude.{ℕ, ◌==◌, ◌&&◌, ◌||◌, List, [], ◌∷◌, Bool, true, false, not, Option, Some, None, option_and_then, if◌then◌else◌}
use Rattle.std.specs.Char.{is_ascii_digit}
use Rattle.std.specs.List.{list_all}
use Rattle.std.specs.Str.Parse.{digits_value}
use Rattle.serde_json.specs.Data.{Data, array, object, Items, Members}
use Rattle.serde_json.specs.Find.{get_item, get_member}

-- ---- tokens (section 3)

-- these tokens, with a byte before the first
abbrev pub with_byte : ℕ → List (List ℕ) → List (List ℕ)
with_byte b [] = (b ∷ []) ∷ []
with_byte b (token ∷ tokens) = (b ∷ token) ∷ tokens

-- the tokens of a text: what comes before, between and after its slashes
abbrev pub tokens : List ℕ → List (List ℕ)
tokens [] = [] ∷ []
tokens (b ∷ text) = if b == 47 then [] ∷ tokens text else with_byte b (tokens text)

-- a text begins with `0` or `1`, so that a `~` before it has a meaning
abbrev pub escapes : List ℕ → Bool
escapes [] = false
escapes (b ∷ text) = b == 48 || b == 49

-- each `~` of a text has a meaning
abbrev pub is_escaped : List ℕ → Bool
is_escaped [] = true
is_escaped (b ∷ text) = (not (b == 126) || escapes text) && is_escaped text

-- ---- what a token names (section 4)

-- a text with this byte in place of each `~` that has this digit after it, and of the digit
abbrev pub without_escape : (digit byte : ℕ) → List ℕ → List ℕ
without_escape digit byte [] = []
without_escape digit byte (a ∷ []) = a ∷ []
without_escape digit byte (a ∷ b ∷ text) =
    if a == 126 && b == digit then byte ∷ without_escape digit byte text
    else a ∷ without_escape digit byte (b ∷ text)

-- the name that a token means: `~1` is `/`, and `~0` is `~`, taken in this order
abbrev pub name_of : List ℕ → List ℕ
name_of token = without_escape 48 126 (without_escape 49 47 token)

-- the member of an object that a token names
abbrev pub member_at : List ℕ → Members → Option Data
member_at token ms = if is_escaped token then get_member (name_of token) ms else None

-- a token is a decimal number without a leading zero
abbrev pub is_index : List ℕ → Bool
is_index [] = false
is_index (b ∷ []) = is_ascii_digit b
is_index (a ∷ b ∷ text) = not (a == 48) && list_all is_ascii_digit (a ∷ b ∷ text)

-- the item of an array that a token names, counted from 0
abbrev pub item_at : List ℕ → Items → Option Data
item_at token ds = if is_index token then get_item (digits_value 10 token) ds else None

-- what a token names in a value: only objects and arrays have something in them
abbrev pub named_in : List ℕ → Data → Option Data
named_in token (object ms) = member_at token ms
named_in token (array ds) = item_at token ds
named_in token _ = None

-- what tokens lead to, one after the other
abbrev pub value_by : List (List ℕ) → Data → Option Data
value_by [] d = Some d
value_by (token ∷ tokens) d = option_and_then (value_by tokens) (named_in token d)

-- ---- the whole pointer (section 3)

-- the value to which a pointer leads, if it leads to one: the empty pointer is the whole document,
-- and each other one has `/` before its first token
abbrev pub value_at : (pointer : List ℕ) → Data → Option Data
value_at [] d = Some d
value_at (b ∷ text) d = if b == 47 then value_by (tokens text) d else None
