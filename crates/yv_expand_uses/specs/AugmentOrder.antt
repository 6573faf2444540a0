-- The augments of a block, which of them give something, and in which order.
use Rattle.std.specs.Prelude.{ℕ, ◌+◌, ◌==◌, ◌&&◌, not, Bool, false, List, [], ◌∷◌, length, map, take, if◌then◌else◌, Option, Some, None, codes, slice_get}
use Rattle.std.specs.Option.{is_some}
use Rattle.yv_link_scopes.specs.Files.{has_word}
use Rattle.yv_link_scopes.specs.Names.{first_where}
use Rattle.yv_link_scopes.specs.Rows.{Row}
use Rattle.yv_base_tables.specs.Families.{numbers_at}
use Rattle.yv_expand_statements.specs.Kinds.{kind_of_keyword}
use Rattle.yv_expand_statements.specs.StatementBlocks.{is_augment}

-- for each augment the block in which it is
abbrev pub augment_places : List Row → List (Option ℕ)
augment_places rows = map (λ r. if is_augment r then Some r.scope else None) rows

-- the augments of a block, in order
abbrev pub augments_in : List Row → (block : ℕ) → List ℕ
augments_in rows block = numbers_at (augment_places rows) block

-- a statement is that of a node or a `uses`
abbrev pub is_node_or_uses : Row → Bool
is_node_or_uses r = is_some (kind_of_keyword r.head.keyword)

-- for each statement that is an item the block in which it is
abbrev pub item_places : List Row → List (Option ℕ)
item_places rows = map (λ r. if is_node_or_uses r then Some r.scope else None) rows

-- the numbered statement is an augment in whose block an item is
abbrev pub gives : List Row → ℕ → Row → Bool
gives rows number r = is_augment r && not (length (numbers_at (item_places rows) number) == 0)

-- for each statement the block whose augments it is one of, if it gives nodes
abbrev pub giving_from : (rows : List Row) → (number : ℕ) → List Row → List (Option ℕ)
giving_from rows number [] = []
giving_from rows number (r ∷ rs) =
    (if gives rows number r then Some r.scope else None) ∷ giving_from rows (number + 1) rs

-- for each augment that gives something the block in which it is
unfoldable pub giving_places : List Row → List (Option ℕ)
giving_places rows = giving_from rows 0 rows

-- the augments of a block that give something, in order
abbrev pub augments_giving : List Row → (block : ℕ) → List ℕ
augments_giving rows block = numbers_at (giving_places rows) block

-- how many augments of its block come before an augment
abbrev pub place_before : List (Option ℕ) → ℕ → Option (Option ℕ) → ℕ
place_before places number None = 0
place_before places number (Some None) = 0
place_before places number (Some (Some block)) = length (numbers_at (take number places) block)

-- how many of the augments of its block that give something come before this one
abbrev pub ordinal : List Row → (augment : ℕ) → ℕ
ordinal rows augment =
    place_before (giving_places rows) augment (slice_get (giving_places rows) augment)

-- a place is in this block
abbrev pub is_in : ℕ → Option (Option ℕ) → Bool
is_in block None = false
is_in block (Some None) = false
is_in block (Some (Some b)) = b == block

-- the numbered statement is an augment of this block that gives something
abbrev pub is_giving : List Row → (block augment : ℕ) → Bool
is_giving rows block augment = is_in block (slice_get (giving_places rows) augment)

-- the place of a number in a list
abbrev pub place_of : List ℕ → ℕ → Option ℕ
place_of numbers number = first_where (λ n. n == number) numbers
