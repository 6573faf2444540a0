-- Only private clauses cite this: groups with the first node of each name.
use Rattle.std.specs.Prelude.{◌≡◌, ◌⊎◌, ℕ, ◌<◌, ◌==◌, ◌+◌, true, List, length, if◌then◌else◌, IfSome, Option, Some, None, slice_get}
use Rattle.std.specs.Ordering.{is_lt}
use Rattle.yv_expand_rounds.specs.declared.label.Label.{Label}
use Rattle.yv_expand_rounds.specs.declared.group.Group.{Group}
use Rattle.yv_expand_rounds.specs.declared.places.ItemPlaces.{ItemPlaces}
use Rattle.yv_expand_rounds.specs.InnerFirstNodes.{AreFirst}
use Rattle.yv_expand_statements.specs.Kinds.{is_node}
use Rattle.yv_expand_rounds.specs.Labels.{is_named}
use Rattle.yv_expand_rounds.specs.Groups.{Groups, members_of}
use Rattle.yv_expand_rounds.specs.Order.{sibling_cmp}
use Rattle.yv_expand_rounds.specs.Paths.{first_named}

-- the first node of each name among items
abbrev pub firsts : List Label → (items : List ℕ) → (name : ℕ) → Option ℕ
firsts labels items name = first_named labels name items

-- the name of an item, if it is a node
abbrev pub node_name : Option Label → Option ℕ
node_name None = None
node_name (Some l) = if is_node l.kind then Some l.name else None

-- the one that is kept, if an item comes before it
abbrev pub displaced_item : List Label → Option ℕ → ℕ → Option ℕ
displaced_item labels None item = None
displaced_item labels (Some i) item = if is_lt (sibling_cmp labels item i) then Some i else None

-- the one that is kept, or an item that comes before it
abbrev pub earlier : List Label → Option ℕ → ℕ → ℕ
earlier labels None item = item
earlier labels (Some i) item = if is_lt (sibling_cmp labels item i) then item else i

-- an item is kept for its name where none is yet, or one that comes later
abbrev pub keep_first : List Label → (ℕ → Option ℕ) → (name item : ℕ) → ℕ → Option ℕ
keep_first labels first name item n =
    if n == name then Some (earlier labels (first n) item) else first n

abbrev pub note_item : List Label → (ℕ → Option ℕ) → (item : ℕ) → ℕ → Option ℕ
note_item labels first item n =
    if is_named labels n item then Some (earlier labels (first n) item) else first n

-- the first node of each name is the first still, but for this one
abbrev pub KeepBut : (old new : ℕ → Option ℕ) → Option ℕ → Type 0
KeepBut old new gone = (n i : ℕ) → old n ≡ Some i → (new n ≡ Some i) ⊎ (gone ≡ Some i)

-- it is one of these
abbrev pub IsOneOf : List ℕ → ℕ → Type 0
IsOneOf items i = (place : ℕ) × (slice_get items place ≡ Some i)

-- the first node of each name is the first still, but for these
abbrev pub Keep : (old new : ℕ → Option ℕ) → List ℕ → Type 0
Keep old new gone = (n i : ℕ) → old n ≡ Some i → (new n ≡ Some i) ⊎ IsOneOf gone i

-- each of these is less than those before it
abbrev pub Descend : List ℕ → Type 0
Descend members =
    (i j a b : ℕ) → i < j → slice_get members i ≡ Some a → slice_get members j ≡ Some b → b < a

-- an item is less than the last of these
abbrev pub IsBelowLast : List ℕ → ℕ → Type 0
IsBelowLast members item = (place last : ℕ) → place + 1 ≡ length members
    → slice_get members place ≡ Some last → item < last

-- among these are all members that come before the limit
abbrev pub HaveBefore : (members : List ℕ) → (limit : ℕ) → (few : List ℕ) → Type 0
HaveBefore members limit few = (place item : ℕ) → slice_get members place ≡ Some item → item < limit
    → (k : ℕ) × (slice_get few k ≡ Some item)

-- this group has these items
pub record IsGroup (labels : List Label) (members : List ℕ) (group : Group) : Type 0 where
  pub members_are : group.members.items ≡ members
  pub named : IfSome group.names (λ names. AreFirst labels members names.value)
  pub descend : group.descending ≡ true → Descend members

pub record AreGroups (labels : List Label) (groups : Groups) (kept : List Group) : Type 0 where
  pub each : length kept ≡ length groups
  pub group : (g : ℕ) (x : Group) → slice_get kept g ≡ Some x
      → IsGroup labels (members_of groups g) x

-- these items are so
pub record ArePlaces (labels : List Label) (groups : Groups) (places : ItemPlaces) : Type 0 where
  pub labels_are : places.labels.items ≡ labels
  pub groups_are : AreGroups labels groups places.groups.items
