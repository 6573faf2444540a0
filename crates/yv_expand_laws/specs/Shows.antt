-- Numbered items show nodes.
use Rattle.std.specs.Prelude.{◌≡◌, ℕ, ◌+◌, ◌<◌, ◌≤◌, ◌&&◌, Bool, true, false, List, [], ◌∷◌, Some, slice_get}
use Rattle.std.specs.List.{Contains}
use Rattle.yv_expand_rounds.specs.declared.label.Label.{Label}
use Rattle.yv_expand_rounds.specs.Groups.{Groups, members_of}
use Rattle.yv_expand_rounds.specs.Labels.{is_named}
use Rattle.yv_expand_statements.specs.Kinds as kinds_are
use Rattle.yv_expand_rounds.specs.Order.{is_given}
use Rattle.yv_expand_definition.specs.Nodes.{Forest, Node, none, node}
use Rattle.yv_expand_definition.specs.Paths.{Step, answers}
use Rattle.yv_expand_laws.specs.Order.{comes_before}

-- what is known of items: whether an augment of a module gives it; whether it is a node, and which
-- node it shows
pub record Items : Type 0 where
  pub given : ℕ → Bool
  pub is_node : ℕ → Bool
  pub node_of : ℕ → Node

-- each comes before all after it
pub data Ascend (given : ℕ → Bool) : List ℕ → Type 0 where
  no_items : Ascend given []
  one_more : {i : ℕ} {others : List ℕ}
      → ((j : ℕ) → Contains others j → comes_before given i j ≡ true) → Ascend given others
      → Ascend given (i ∷ others)

-- these are the items of which something holds, in order
pub record Orders (given : ℕ → Bool) (holds : ℕ → Type 0) (items : List ℕ) : Type 0 where
  pub ascend : Ascend given items
  pub all : (i : ℕ) → holds i → Contains items i
  pub only : (i : ℕ) → Contains items i → holds i

-- an item is owned; and others that are owned are owned by what is below it, or by what comes after
-- it, but not by both
pub record Splits (owns : ℕ → Bool) (i : ℕ) (below behind : ℕ → Bool) : Type 0 where
  pub has : owns i ≡ true
  pub below_in : (x : ℕ) → below x ≡ true → owns x ≡ true
  pub behind_in : (x : ℕ) → behind x ≡ true → owns x ≡ true
  pub apart : (x : ℕ) → below x ≡ true → behind x ≡ false
  pub not_below : below i ≡ false
  pub not_behind : behind i ≡ false

-- Items of one parent, in order, show these nodes, each above what the items in its group show.
-- Each item is owned, and a node's by one place alone. A uses shows nothing: what it gives is in
-- its own group.
pub data Stand (its : Items) (groups : Groups) : (owns : ℕ → Bool) → List ℕ → Forest → Type 0 where
  no_items : {owns : ℕ → Bool} → Stand its groups owns [] none
  not_a_node : {owns : ℕ → Bool} {i : ℕ} {others : List ℕ} {f : Forest} → owns i ≡ true
      → its.is_node i ≡ false
      → Stand its groups owns others f
      → Stand its groups owns (i ∷ others) f
  shown_node : {owns : ℕ → Bool} {i : ℕ} {items others : List ℕ} {below behind : Forest}
      (low rest : ℕ → Bool) → its.is_node i ≡ true
      → Splits owns i low rest → Orders its.given (Contains (members_of groups (i + 1))) items
      → Stand its groups low items below
      → Stand its groups rest others behind
      → Stand its groups owns (i ∷ others) (node (its.node_of i) below behind)

-- an item of these numbers is in a group
abbrev pub IsWithin : Groups → (g lo hi : ℕ) → ℕ → Type 0
IsWithin groups g lo hi i = Contains (members_of groups g) i × ((lo ≤ i) × (i < hi))

-- The items of a group that have these numbers show these nodes; at any depth no other items do.
pub record Shows (its : Items) (groups : Groups) (g lo hi : ℕ) (f : Forest) : Type 0 where
  pub items : List ℕ
  pub owns : ℕ → Bool
  pub bounds : (i : ℕ) → owns i ≡ true → (lo ≤ i) × (i < hi)
  pub orders : Orders its.given (IsWithin groups g lo hi) items
  pub stand : Stand its groups owns items f

-- labels tell of items what nodes do
pub record AreLabels (labels : List Label) (its : Items) : Type 0 where
  pub given : (i : ℕ) → its.given i ≡ is_given labels i
  pub node : (i : ℕ) (l : Label) → slice_get labels i ≡ Some l
      → its.is_node i ≡ kinds_are.is_node l.kind
  pub within : (i : ℕ) → its.is_node i ≡ true → (l : Label) × (slice_get labels i ≡ Some l)
      × (l.kind ≡ (its.node_of i).kind)

-- a path by numbers is a path by steps
abbrev pub Agree : List Label → Items → List ℕ → List Step → Type 0
Agree labels its [] [] = Unit {0}
Agree labels its [] (s ∷ ss) = ⊥
Agree labels its (n ∷ ns) [] = ⊥
Agree labels its (n ∷ ns) (s ∷ ss) =
    ((i : ℕ) → is_named labels n i ≡ (its.is_node i && answers s (its.node_of i)))
    × Agree labels its ns ss
