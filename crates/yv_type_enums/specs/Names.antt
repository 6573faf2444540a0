-- The names of a type, with their numbers, and which of them are values (RFC 7950, sections 9.6.3,
-- 9.6.4, 9.7.3 and
-- 9.7.4).
use Rattle.std.specs.Prelude.{◌≡◌, ℕ, ℤ, Bool, ◌&&◌, List, [], ◌∷◌, Option, Some, None, is_some, slice_get}
use Rattle.yv_text_statement.specs.Order.{refusal_at}
use Rattle.yv_text_statement.specs.Tree.{Tree}
use Rattle.yv_text_statement.specs.declared.refusal.Code.TheVariants.{BadNumbering}
use Rattle.yv_text_statement.specs.declared.refusal.Refusal.{Refusal}
use Rattle.yv_base_numbers.specs.Entries.{Entry}
use Rattle.yv_base_numbers.specs.Numberings.{Pair, IsFirstWrong, keep_numbers, number_in, table_of}
use Rattle.yv_base_numbers.specs.declared.numbering.NumberKind.{NumberKind}
use Rattle.yv_type_enums.specs.Entries.{entries, listing}
use Rattle.yv_type_enums.specs.Values.{has}
use Rattle.yv_type_enums.specs.declared.type_names.NamedEntries.{NamedEntries}

-- the number of each name that a type has
abbrev pub number_of : NamedEntries → List ℕ → Option ℤ
number_of names = table_of names.shared.value.numbering

-- which names are values
abbrev pub is_value : NamedEntries → List ℕ → Bool
is_value names = has names.shared.value.values

-- Which names are values among those with a number: one that is given by an entry that is on.
abbrev pub is_value_among : (List ℕ → Option ℤ) → (List ℕ → Bool) → List ℕ → Bool
is_value_among number listed name = is_some (number name) && listed name

-- A derived type has the numbers of its base where it lists nothing, or else of the names that it
-- lists.
abbrev pub number_from : (List ℕ → Option ℤ) → List Entry → List ℕ → Option ℤ
number_from base [] name = base name
number_from base (e ∷ es) name = number_in (keep_numbers base (e ∷ es)) name

-- A derived type has the values of its base where it lists nothing. Else a name with a number is a
-- value where it is one in the base and is given by an entry that is on.
abbrev pub is_value_from : (List ℕ → Bool) → (List ℕ → Option ℤ) → (List Tree → List ℕ → Bool)
    → List Tree → List ℕ → Bool
is_value_from base number listed [] name = base name
is_value_from base number listed (c ∷ cs) name =
    is_some (number name) && (base name && listed (c ∷ cs) name)

-- No entry of a type statement is wrong, or f is the refusal of the first one that is.
abbrev pub IsRefusal : (List Entry → List Pair) → (List Pair → Entry → Bool) → NumberKind → ℕ → Tree
    → Option Refusal → Type 0
IsRefusal pairs wrong kind file t None = IsFirstWrong pairs wrong (entries kind t) None
IsRefusal pairs wrong kind file t (Some f) =
    (i : ℕ) × (c : Tree) × IsFirstWrong pairs wrong (entries kind t) (Some i)
    × (slice_get (listing kind t) i ≡ Some c)
    × (f ≡ refusal_at BadNumbering file c.head)
