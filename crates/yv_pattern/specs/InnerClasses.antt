-- Only private clauses cite this: the items of a class, as they are read one by one.
use Rattle.std.specs.Prelude.{ℕ, ◌+◌, nat_le, drop, position, take, ◌==◌, ◌||◌, ◌&&◌, not, Bool, false, List, [], ◌∷◌, Option, Some, None, option_map, if◌then◌else◌}
use Rattle.yv_pattern.specs.declared.part.Part.{Part}
use Rattle.yv_pattern.specs.declared.part.Part.TheVariants.{Literal, Range, Digit, Space, Word, Category, ClassEnd}
use Rattle.yv_pattern.specs.declared.part.FoundPart.{FoundPart}
use Rattle.yv_pattern.specs.declared.class.Sign.{Sign}
use Rattle.yv_pattern.specs.Characters.{is_punctuation}
use Rattle.yv_pattern.specs.Categories.{is_category}

-- the one character that a backslash and this letter mean: `\n`, `\r`, `\t`, or punctuation that is
-- escaped
abbrev pub escaped_character : ℕ → Option ℕ
escaped_character c =
    if c == 110 then Some 10
    else (if c == 114 then Some 13
    else (if c == 116 then Some 9
    else (if is_punctuation c then Some c else None)))

-- a part that so many characters spell
abbrev pub part_of_size : ℕ → Part → FoundPart
part_of_size n p = record { part = p; size = n }

-- a character that so many characters spell
abbrev pub sign : ℕ → ℕ → Sign
sign n c = record { character = c; size = n }

-- a category before this brace
abbrev pub category_part : List ℕ → Option ℕ → Option FoundPart
category_part cs None = None
category_part cs (Some i) =
    if is_category (take i cs) then Some (part_of_size (i + 4) Category) else None

-- after `\p` or `\P`: a category in braces
abbrev pub category_at : List ℕ → Option FoundPart
category_at [] = None
category_at (c ∷ cs) = if c == 123 then category_part cs (position (λ d. d == 125) cs) else None

-- the bracket that closes the class comes next
abbrev pub closes : List ℕ → Bool
closes [] = false
closes (c ∷ cs) = c == 93

-- after a backslash: a character that is escaped
abbrev pub escaped_sign : List ℕ → Option Sign
escaped_sign [] = None
escaped_sign (c ∷ cs) = option_map (sign 2) (escaped_character c)

-- A character of a class, plain or escaped: brackets are escaped, and a hyphen is plain first in
-- the class, or last.
abbrev pub sign_at : Bool → List ℕ → Option Sign
sign_at first [] = None
sign_at first (c ∷ cs) =
    if c == 92 then escaped_sign cs
    else (if c == 91 || c == 93 then None
    else (if c == 45 && not (first || closes cs) then None else Some (sign 1 c)))

-- a hyphen that isn't last in the class, so a range's
abbrev pub is_range : List ℕ → Bool
is_range [] = false
is_range (c ∷ cs) = c == 45 && not (closes cs)

-- a range, low end first
abbrev pub range_to : Sign → Option Sign → Option FoundPart
range_to low None = None
range_to low (Some high) =
    if nat_le low.character high.character
    then Some (part_of_size (low.size + 1 + high.size) (Range low.character high.character))
    else None

-- a character, or the range that it begins
abbrev pub character_or_range : Sign → List ℕ → Option FoundPart
character_or_range low rest =
    if is_range rest then range_to low (sign_at false (drop 1 rest))
    else Some (part_of_size low.size (Literal low.character))

-- after a backslash: a set of characters that may be in a class
abbrev pub set_escape : List ℕ → Option FoundPart
set_escape [] = None
set_escape (c ∷ cs) =
    if c == 100 then Some (part_of_size 2 Digit)
    else (if c == 115 then Some (part_of_size 2 Space)
    else (if c == 119 then Some (part_of_size 2 Word)
    else (if c == 112 then category_at cs else None)))

abbrev pub set_at : List ℕ → Option FoundPart
set_at [] = None
set_at (c ∷ cs) = if c == 92 then set_escape cs else None

abbrev pub item_from : Option Sign → List ℕ → Option FoundPart
item_from None cs = set_at cs
item_from (Some low) cs = character_or_range low (drop low.size cs)

-- the item at the front, where it is first in the class or isn't
abbrev pub item_at : Bool → List ℕ → Option FoundPart
item_at first cs = item_from (sign_at first cs) cs

-- the item at the front, or the bracket that closes the class
abbrev pub item_or_end : List ℕ → Option FoundPart
item_or_end [] = None
item_or_end (c ∷ cs) = if c == 93 then Some (part_of_size 1 ClassEnd) else item_at false (c ∷ cs)
