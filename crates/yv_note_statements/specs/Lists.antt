-- The lists in which the numbered statements of the files are: those of a block, and the `uses` of
-- a grouping.
use Rattle.std.specs.Prelude.{◌≡◌, ◌≢◌, ℕ, ◌+◌, ◌-◌, ◌<◌, ◌==◌, Bool, false, cond, List, [], ◌∷◌, Option, None, Some, length, drop, slice_index_or}
use Rattle.yv_text_statement.specs.Keywords.{same}
use Rattle.yv_text_statement.specs.declared.keyword.Keyword.TheVariants as word
use Rattle.yv_note_statements.specs.declared.entry.StatementEntry.{StatementEntry}
use Rattle.yv_note_statements.specs.declared.links.Links.{Links}
use Rattle.yv_note_statements.specs.declared.statement_lists.StatementLists.{StatementLists}

-- whether an item, given by the list in which it is, is in this list
abbrev pub is_in : ℕ → Option ℕ → Bool
is_in list None = false
is_in list (Some own) = own == list

-- the number of the first item of a list, of items that are numbered from one number on
abbrev pub first_of : ℕ → List (Option ℕ) → ℕ → Option ℕ
first_of list [] number = None
first_of list (own ∷ rest) number =
    cond (is_in list own) (Some number) (first_of list rest (number + 1))

-- the number of the first item of a list that comes after an item
abbrev pub next_of : ℕ → List (Option ℕ) → ℕ → Option ℕ
next_of list lists item = first_of list (drop (item + 1) lists) (item + 1)

-- the statement in whose block a statement is: none around the root of a file
abbrev pub block_of : StatementEntry → Option ℕ
block_of entry = cond entry.is_root None (Some entry.scope)

-- the grouping that a `uses` means
abbrev pub grouping_of : StatementEntry → Option ℕ
grouping_of entry = cond (same entry.kind word.Uses) entry.meaning None

-- the statement in whose block a `config` is
abbrev pub configured_by : StatementEntry → Option ℕ
configured_by entry = cond (same entry.kind word.Config) (block_of entry) None

-- the item that links keep as a number: its number and one
abbrev pub item_of : ℕ → Option ℕ
item_of kept = cond (kept == 0) None (Some (kept - 1))

-- the first item of a list
abbrev pub first_at : Links → ℕ → Option ℕ
first_at links list = item_of (slice_index_or links.first.items list 0)

-- the next item of the list in which an item is
abbrev pub next_at : Links → ℕ → Option ℕ
next_at links item = item_of (slice_index_or links.next.items item 0)

-- the first statement of a block
abbrev pub first_child_in : StatementLists → ℕ → Option ℕ
first_child_in lists number = first_at lists.children number

-- the next statement of the block in which a statement is
abbrev pub next_child_in : StatementLists → ℕ → Option ℕ
next_child_in lists number = next_at lists.children number

-- the first `uses` of a grouping
abbrev pub first_use_in : StatementLists → ℕ → Option ℕ
first_use_in lists grouping = first_at lists.uses grouping

-- the next `uses` of the grouping that a `uses` means
abbrev pub next_use_in : StatementLists → ℕ → Option ℕ
next_use_in lists number = next_at lists.uses number

-- the first `config` of a block
abbrev pub config_in : StatementLists → ℕ → Option ℕ
config_in lists number = first_at lists.configs number

-- an item, which comes before all those in the lists of links, is put into a list
pub record Puts (list : Option ℕ) (item : ℕ) (old new : Links) : Type 0 where
  pub as_many : length new.first.items ≡ length old.first.items
  pub as_many_next : length new.next.items ≡ length old.next.items
  pub firsts : (n : ℕ) → n < length old.first.items
      → first_at new n ≡ cond (is_in n list) (Some item) (first_at old n)
  pub nexts : (n : ℕ) → list ≡ Some n → n < length old.first.items → next_at new item ≡ first_at old n
  pub others : (k : ℕ) → k ≢ item → next_at new k ≡ next_at old k
