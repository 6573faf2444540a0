-- Only private clauses cite this: the statements of a file by number, and where names are used.
use Rattle.std.specs.Prelude.{◌≡◌, ℕ, ◌+◌, ◌<◌, ◌≤◌, ◌==◌, ◌&&◌, ◌||◌, Bool, false, List, [], ◌∷◌, ◌++◌, slice_index_or}
use Rattle.std.specs.Ordering.{nat_cmp, ordering_then}
use Rattle.std.specs.Cmp.Lexicographic.{slice_cmp}
use Rattle.std.specs.BTreeSet.{contains_by}
use Rattle.yv_text_statement.specs.Tree.{Forest, Then, End, count}
use Rattle.yv_text_statement.specs.declared.keyword.Keyword.{Keyword}
use Rattle.yv_text_statement.specs.declared.keyword.Keyword.TheVariants as word
use Rattle.yv_lint.specs.Definitions.{is_use}
use Rattle.yv_lint.specs.declared.use_set.UseSet.{UseSet}
use Rattle.yv_lint.specs.declared.uses.Uses.{Uses}

-- a name is used by the numbered statement
abbrev pub has_use : UseSet → List ℕ → ℕ → Bool
has_use s name number =
    contains_by (λ k. ordering_then (slice_cmp nat_cmp name k.0.now) (nat_cmp number k.1)) s.set

-- for each statement of a block, whose first one has this number, the number after the last one
-- below it
abbrev pub ends_from : ℕ → Forest → List ℕ
ends_from n End = []
ends_from n (Then h c o) =
    (n + 1 + count c) ∷ (ends_from (n + 1) c ++ ends_from (n + 1 + count c) o)

-- of these, the statement with another number uses a name
abbrev pub use_at : Keyword → (own name : List ℕ) → ℕ → Forest → ℕ → Bool
use_at k own name n End j = false
use_at k own name n (Then h c o) j =
    (is_use k own name (record { head = h; children = c }) && (n == j))
    || (use_at k own name (n + 1) c j || use_at k own name (n + 1 + count c) o j)

-- these uses are added
abbrev pub AddsTo : Keyword → (own : List ℕ) → UseSet → UseSet → ℕ → Forest → Type 0
AddsTo k own old new n f =
    (name : List ℕ) (j : ℕ)
    → has_use new name j ≡ (has_use old name j || use_at k own name n f j)

-- these statements are numbered, and their uses are added
pub record AddsUses (own : List ℕ) (old new : Uses) (n : ℕ) (f : Forest) : Type 0 where
  pub ends : new.ends.items ≡ old.ends.items ++ ends_from n f
  pub types : AddsTo word.Type own old.types new.types n f
  pub groupings : AddsTo word.Uses own old.groupings new.groupings n f

-- the uses by these statements are known
abbrev pub Tells : Keyword → (own : List ℕ) → UseSet → ℕ → Forest → Type 0
Tells k own s n f =
    (name : List ℕ) (j : ℕ) → n ≤ j → j < n + count f
    → has_use s name j ≡ use_at k own name n f j

-- these statements, the first of which has this number, are numbered, and their uses are known
pub record AreUses (own : List ℕ) (uses : Uses) (n : ℕ) (f : Forest) : Type 0 where
  pub ends : (j : ℕ) → j < count f
      → slice_index_or uses.ends.items (n + j) 0 ≡ slice_index_or (ends_from n f) j 0
  pub types : Tells word.Type own uses.types n f
  pub groupings : Tells word.Uses own uses.groupings n f

-- the uses in a block, whose first statement has a number and which ends at another, are known
pub record KnowsBlock (own : List ℕ) (uses : Uses) (start end : ℕ) (block : Forest) : Type 0 where
  pub types : Tells word.Type own uses.types start block
  pub groupings : Tells word.Uses own uses.groupings start block
  pub end_is : end ≡ start + count block
