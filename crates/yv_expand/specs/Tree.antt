-- The expansion of statements as a tree: the schema nodes that they give, copies of groupings
-- included, and each uses above what it copies and what its augments give (RFC 7950, sections 7.12,
-- 7.13 and 7.17).
use Rattle.std.specs.Prelude.{ℕ, ◌+◌, List, [], ◌∷◌, ◌++◌, Option, Some}
use Rattle.yv_expand_statements.specs.declared.origin.Origin.{Origin}
use Rattle.yv_expand.specs.declared.item.PlacedItem.{PlacedItem}

-- items of one parent, in order: what the first is made of, the items below it, and those after it
pub data Forest (A : Type 0) : Type 0 where
  none : Forest A
  item : (origin : A) → (below behind : Forest A) → Forest A

-- the items of an expansion, and the nodes that are left of one, each with the number of its item
abbrev pub Tree : Type 0
Tree = Forest Origin

-- trees whose nodes are numbers of statements
abbrev pub Nodes : Type 0
Nodes = Forest ℕ

-- a node of an expansion with the number of its parent
abbrev pub Item : Type 0
Item = PlacedItem Origin

-- a numbered statement with the number of its parent
abbrev pub Node : Type 0
Node = PlacedItem ℕ

-- how many items there are, at any depth
abbrev pub count : {A : Type 0} → Forest A → ℕ
count none = 0
count (item origin below behind) = 1 + count below + count behind

-- one tree's items after another's
abbrev pub join : {A : Type 0} → Forest A → Forest A → Forest A
join none others = others
join (item origin below behind) others = item origin below (join behind others)

-- the items of several trees
abbrev pub all_of : {A : Type 0} → List (Forest A) → Forest A
all_of [] = none
all_of (t ∷ ts) = join t (all_of ts)

-- the items as a list, each before those below it, with the number of its parent, where the first
-- has the number `first`
abbrev pub item_list : {A : Type 0} → Option ℕ → ℕ → Forest A → List (PlacedItem A)
item_list parent first none = []
item_list parent first (item origin below behind) =
    record { origin = origin; parent = parent } ∷ item_list (Some first) (first + 1) below
    ++ item_list parent (first + 1 + count below) behind
