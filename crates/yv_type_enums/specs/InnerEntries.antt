-- Only private clauses cite this: entries of statements that are lent, and what is known of them.
use Rattle.std.specs.Prelude.{ℕ, Bool, true, ◌&&◌, List, map, Option, Some, None, is_some, slice_get}
use Rattle.std.specs.Option.{option_map}
use denote.Ref.{Bor}
use Rattle.yv_text_statement.specs.Order.{refusal_at}
use Rattle.yv_text_statement.specs.Tree.{Tree}
use Rattle.yv_text_statement.specs.declared.refusal.Code.TheVariants.{BadNumbering}
use Rattle.yv_text_statement.specs.declared.refusal.Refusal.{Refusal}
use Rattle.yv_base_numbers.specs.Entries.{Entry}
use Rattle.yv_base_numbers.specs.Numberings.{table_of}
use Rattle.yv_base_numbers.specs.declared.numbering.NumberKind.{NumberKind}
use Rattle.yv_base_numbers.specs.declared.numbering.Numbering.{Numbering}
use Rattle.yv_type_enums.specs.Entries.{entry_of}
use Rattle.yv_type_enums.specs.Values.{has}
use Rattle.yv_type_enums.specs.declared.values.Values.{Values}

-- the statements that are lent
abbrev pub borrow : List (Bor Tree) → List Tree
borrow lines = map (λ line. line.now) lines

abbrev pub entries_in : NumberKind → List (Bor Tree) → List Entry
entries_in kind lines = map (entry_of kind) (borrow lines)

-- the refusal of the statement at this place
abbrev pub refusal_of_entry : ℕ → List Tree → Option ℕ → Option Refusal
refusal_of_entry file cs None = None
refusal_of_entry file cs (Some i) =
    option_map (λ c. refusal_at BadNumbering file c.head) (slice_get cs i)

-- the name is a value of the base, where there is one
abbrev pub base_has : Option (Bor Values) → List ℕ → Bool
base_has None name = true
base_has (Some base) name = has base.now name

-- the name has a number, and is a value of the base
abbrev pub counts : Numbering → Option (Bor Values) → List ℕ → Bool
counts numbering base name = is_some (table_of numbering name) && base_has base name
