-- Only private clauses cite this: nodes to which no path from the top leads any more.
use Rattle.std.specs.Prelude.{◌≡◌, ◌⊎◌, ℕ, ◌+◌, ◌<◌, not, Bool, true, false, List, length, Option, Some, slice_get, slice_index_or, count_by}
use Rattle.yv_expand_rounds.specs.declared.label.Label.{Label}
use Rattle.yv_expand_rounds.specs.declared.end.End.{End}
use Rattle.yv_expand_rounds.specs.declared.end.End.TheVariants as end
use Rattle.yv_expand_rounds.specs.Groups.{Groups, members_of}
use Rattle.yv_expand_rounds.specs.InnerGroups.{IsOneOf}

-- an item is hidden; what isn't there is
abbrev pub is_hidden : List Bool → ℕ → Bool
is_hidden marks i = slice_index_or marks i true

-- a path that ends there ends at a hidden node
abbrev pub is_hidden_at : List Bool → End → Bool
is_hidden_at marks (end.Start g) = false
is_hidden_at marks (end.Node i) = is_hidden marks i
is_hidden_at marks (end.ShorthandCase i) = is_hidden marks i

-- how many items aren't hidden
abbrev pub count_shown : List Bool → ℕ
count_shown marks = count_by (λ m. not m) marks

-- what was hidden is hidden still
abbrev pub Grow : (old new : List Bool) → Type 0
Grow old new = (i : ℕ) → is_hidden old i ≡ true → is_hidden new i ≡ true

-- all that is below an item is hidden
abbrev pub IsCovered : Groups → List Bool → (item : ℕ) → Type 0
IsCovered groups marks i =
    (place j : ℕ) → slice_get (members_of groups (i + 1)) place ≡ Some j → is_hidden marks j ≡ true

-- all that is below hidden items is hidden
abbrev pub IsClosed : List Label → Groups → List Bool → Type 0
IsClosed labels groups marks =
    (i : ℕ) → i < length labels → is_hidden marks i ≡ true → IsCovered groups marks i

-- items were hidden, and found so after those that were found before
pub record Hides (old new : List Bool) (before after : List ℕ) : Type 0 where
  pub grow : Grow old new
  pub found : (i : ℕ) → is_hidden new i ≡ true → (is_hidden old i ≡ true) ⊎ IsOneOf after i
  pub fewer : count_shown new + length after ≡ count_shown old + length before
  pub kept : (place i : ℕ) → slice_get before place ≡ Some i → slice_get after place ≡ Some i

-- all that is below these items and below what was hidden besides was hidden
pub record Spreads (groups : Groups) (old new : List Bool) (found : List ℕ) : Type 0 where
  pub grow : Grow old new
  pub besides : (i : ℕ) → is_hidden new i ≡ true → (is_hidden old i ≡ true) ⊎ IsCovered groups new i
  pub below : (i : ℕ) → IsOneOf found i → IsCovered groups new i

-- nodes were hidden that were displaced when others came to be below the node at this end, and all
-- that is below what was hidden besides, or below this node, if it is hidden
pub record Updates (groups : Groups) (old new : List Bool) (e : Option End)
    (displaced : List ℕ) : Type 0 where
  pub grow : Grow old new
  pub displaced_are : (i : ℕ) → IsOneOf displaced i → is_hidden new i ≡ true
  pub besides : (i : ℕ) → is_hidden new i ≡ true → (is_hidden old i ≡ true) ⊎ IsCovered groups new i
  pub there : (i : ℕ) → e ≡ Some (end.Node i) → is_hidden old i ≡ true → IsCovered groups new i
