-- What the turn of a module's augment makes of what is shown (RFC 7950, section 7.17).
use Rattle.std.specs.Prelude.{◌≡◌, ◌≢◌, ℕ, ◌+◌, ◌<◌, ◌≤◌, ◌⊎◌, true, false, List, ◌∷◌, length, Option, Some, None, is_some, slice_index_or}
use Rattle.std.specs.List.{Contains}
use Rattle.yv_expand_rounds.specs.declared.label.Label.{Label}
use Rattle.yv_expand_rounds.specs.Groups.{group_of_augment, members_of, move_items}
use Rattle.yv_expand_rounds.specs.Turns.{State, is_applied, turn}
use Rattle.yv_expand_definition.specs.Nodes.{Forest, Node, insert}
use Rattle.yv_expand_definition.specs.Paths.{End, Leads, LeadsNowhere, Step}
use Rattle.yv_expand_laws.specs.Comes.{Hits, Misses}
use Rattle.yv_expand_laws.specs.Shows.{Agree, Items, Shows}

-- the augments of modules give items, each augment those of its block, block after block
pub record AreSources (its : Items) (giver_of : ℕ → Option ℕ) : Type 0 where
  pub marks : (i : ℕ) → its.given i ≡ is_some (giver_of i)
  pub shown : (i : ℕ) → its.is_node i ≡ true → (its.node_of i).giver ≡ giver_of i
  pub apart : (i j p q : ℕ) → giver_of i ≡ Some p → giver_of j ≡ Some q → p < q → i < j

-- the turn of the augment `a` of a module at place k, among all that is
pub record IsRoundTurn (labels : List Label) (its : Items) (giver_of : ℕ → Option ℕ) (lo hi k a : ℕ)
    (st : State) (m b : Forest) : Type 0 where
  pub givers : AreSources its giver_of
  pub room : length st.groups ≡ length labels + 1 + length st.ends
  pub copies : k < length st.ends
  pub waits : slice_index_or st.ends k None ≡ None
  pub whole : Shows its st.groups 0 0 (length labels) m
  pub block : Shows its st.groups (group_of_augment labels k) lo hi b
  pub within : (i : ℕ) → Contains (members_of st.groups 0) i → i < length labels
  pub own : (i : ℕ) → Contains (members_of st.groups (group_of_augment labels k)) i
      → ((lo ≤ i) × (i < hi)) × (giver_of i ≡ Some a)
  pub items : hi ≤ length labels
  pub not_theirs : (x i : ℕ) → x ≤ length labels → Contains (members_of st.groups x) i
      → giver_of i ≢ Some a
  pub apart : (x : ℕ) → block.owns x ≡ true → whole.owns x ≡ false

-- Where its path hits a node, what it gives is inserted there. All that is there then was there
-- before, or in the block; and what moved is below an item that were there before.
abbrev pub RoundAdds : List Label → Items → (giver_of : ℕ → Option ℕ) → Type 0
RoundAdds labels its giver_of =
    (lo hi k a : ℕ) (names : List ℕ) (ss : List Step) (st : State) (m b below there : Forest)
    (target : Node)
    (t : IsRoundTurn labels its giver_of lo hi k a st m b) → Agree labels its names ss
    → Hits ss m target below (insert a b below) there
    → (s : Shows its (turn labels k 0 (length labels) names st).groups 0 0 (length labels) there)
    × ((x : ℕ) → s.owns x ≡ true → (t.whole.owns x ≡ true) ⊎ (t.block.owns x ≡ true))
    × ((i : ℕ) × (t.whole.owns i ≡ true)
    × ((turn labels k 0 (length labels) names st).groups
    ≡ move_items (group_of_augment labels k) (i + 1) st.groups))

-- an augment of a module at place k wasn't applied, where this is shown by all that is
pub record AwaitsTurn (labels : List Label) (its : Items) (k : ℕ) (st : State)
    (m : Forest) : Type 0 where
  pub copies : k < length st.ends
  pub waits : slice_index_or st.ends k None ≡ None
  pub whole : Shows its st.groups 0 0 (length labels) m
  pub within : (i : ℕ) → Contains (members_of st.groups 0) i → i < length labels

-- where its path, which has a step, leads nowhere it waits on, and nothing changes
abbrev pub RoundWaits : List Label → Items → Type 0
RoundWaits labels its =
    (k n : ℕ) (names : List ℕ) (ss : List Step) (st : State) (m : Forest)
    → AwaitsTurn labels its k st m → Agree labels its (n ∷ names) ss
    → LeadsNowhere ss m → turn labels k 0 (length labels) (n ∷ names) st ≡ st

-- where it leads to some end it is applied
abbrev pub RoundTakes : List Label → Items → Type 0
RoundTakes labels its =
    (k : ℕ) (names : List ℕ) (ss : List Step) (st : State) (m there : Forest) (e : End)
    → AwaitsTurn labels its k st m → Agree labels its names ss
    → Leads false ss m e there → is_applied (turn labels k 0 (length labels) names st) k ≡ true

-- and where that isn't a node that may be its target nothing moves
abbrev pub RoundMisses : List Label → Items → Type 0
RoundMisses labels its =
    (k : ℕ) (names : List ℕ) (ss : List Step) (st : State) (m : Forest)
    → AwaitsTurn labels its k st m → Agree labels its names ss
    → Misses ss m → (turn labels k 0 (length labels) names st).groups ≡ st.groups
