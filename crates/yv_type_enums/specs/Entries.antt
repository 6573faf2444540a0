-- What a `type` statement lists: its `enum` and `bit` statements (RFC 7950, sections 9.6.4 and
-- 9.7.4).
use Rattle.std.specs.Prelude.{ℕ, Bool, ◌&&◌, List, Option, map, codes}
use Rattle.std.specs.List.{filter, find, list_any}
use Rattle.std.specs.Option.{option_map}
use Rattle.std.specs.Str.{bytes_eq}
use Rattle.yv_text_statement.specs.Tree.{Tree, trees, name_of}
use Rattle.yv_link_scopes.specs.Files.{has_word}
use Rattle.yv_link_features.specs.Blocks.{all_hold}
use Rattle.yv_base_numbers.specs.Entries.{Entry, stated_number}
use Rattle.yv_base_numbers.specs.declared.numbering.NumberKind.{NumberKind}
use Rattle.yv_base_numbers.specs.declared.numbering.NumberKind.TheVariants.{Enumeration, Bits}

-- the keyword of what is listed
abbrev pub entry_word : NumberKind → List ℕ
entry_word Enumeration = codes "enum"
entry_word Bits = codes "bit"

-- the keyword of the substatement that states a number
abbrev pub number_word : NumberKind → List ℕ
number_word Enumeration = codes "value"
number_word Bits = codes "position"

-- the statements that list names, in order
abbrev pub listing : NumberKind → Tree → List Tree
listing kind t = filter (λ c. has_word (entry_word kind) c.head) (trees t.children)

-- the text that says the number of an entry: that of its first `value` or `position`, where it has
-- one
abbrev pub number_text : NumberKind → Tree → Option (List ℕ)
number_text kind c = option_map (λ s. name_of s.head)
    (find (λ s. has_word (number_word kind) s.head) (trees c.children))

-- an entry, as it is numbered: its name, and what the text of its number states
abbrev pub entry_of : NumberKind → Tree → Entry
entry_of kind c = record { name = name_of c.head; stated = stated_number (number_text kind c) }

-- the entries that a statement lists, with what they state
abbrev pub entries : NumberKind → Tree → List Entry
entries kind t = map (entry_of kind) (listing kind t)

-- each of its conditions holds in the file
abbrev pub is_on : (ℕ → List ℕ → Bool) → ℕ → Tree → Bool
is_on truth file c = all_hold (truth file) (trees c.children)

-- one of these entries has the name and is on
abbrev pub is_on_among : (ℕ → List ℕ → Bool) → ℕ → List Tree → List ℕ → Bool
is_on_among truth file cs name =
    list_any (λ c. bytes_eq (name_of c.head) name && is_on truth file c) cs
