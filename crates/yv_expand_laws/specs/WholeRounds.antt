-- What the rounds of the augments of modules make of what is shown (RFC 7950, section 7.17).
use Rattle.std.specs.Prelude.{◌≡◌, ◌≢◌, ℕ, ◌+◌, ◌<◌, ◌≤◌, ◌⊎◌, true, false, List, [], ◌∷◌, length, Option, Some, slice_get}
use Rattle.std.specs.List.{Contains}
use Rattle.yv_expand_rounds.specs.declared.label.Label.{Label}
use Rattle.yv_expand_rounds.specs.Groups.{group_of_augment, members_of}
use Rattle.yv_expand_rounds.specs.Rounds.{AreApplied}
use Rattle.yv_expand_rounds.specs.Turns.{State, is_applied}
use Rattle.yv_expand_definition.specs.Nodes.{Forest, Node, insert}
use Rattle.yv_expand_definition.specs.Paths.{End, Leads, LeadsNowhere, Step}
use Rattle.yv_expand_laws.specs.Comes.{Hits, Misses}
use Rattle.yv_expand_laws.specs.Rounds.{AreSources}
use Rattle.yv_expand_laws.specs.Shows.{Agree, Items, Shows}

-- A round: each augment that waits, by its place among those of modules, has its turn, where
-- `number` tells its number, `path` its path and
-- `block` which nodes its block gives. It is `Round` of yv_expand_definition without files and refusals.
pub data RoundOn (number : ℕ → ℕ) (path : ℕ → List Step) (block : ℕ → Forest → Type 0) :
    (waiting : List ℕ) → Forest → (still : List ℕ) → Forest → Type 0 where
  none_left : {m : Forest} → RoundOn number path block [] m [] m
  adds : {k : ℕ} {others still : List ℕ} {m b below there last : Forest} {target : Node} → block k b
      → Hits (path k) m target below (insert (number k) b below) there
      → RoundOn number path block others there still last
      → RoundOn number path block (k ∷ others) m still last
  without_target : {k : ℕ} {others still : List ℕ} {m there last : Forest} {e : End}
      → Leads false (path k) m e there → Misses (path k) m
      → RoundOn number path block others m still last
      → RoundOn number path block (k ∷ others) m still last
  waits : {k : ℕ} {others still : List ℕ} {m last : Forest} → LeadsNowhere (path k) m
      → RoundOn number path block others m still last
      → RoundOn number path block (k ∷ others) m (k ∷ still) last

-- a round that applies none is the last
pub data RoundsOn (number : ℕ → ℕ) (path : ℕ → List Step) (block : ℕ → Forest → Type 0) :
    (waiting : List ℕ) → Forest → Forest → Type 0 where
  no_more : {waiting : List ℕ} {m : Forest} → RoundOn number path block waiting m waiting m
      → RoundsOn number path block waiting m m
  one_more : {waiting still : List ℕ} {m there end : Forest}
      → RoundOn number path block waiting m still there → length still < length waiting
      → RoundsOn number path block still there end → RoundsOn number path block waiting m end

-- of so many augments from a place on these weren't applied
pub data AreWaiting (st : State) : (place : ℕ) → (paths : List (List ℕ)) → List ℕ → Type 0 where
  no_places : {k : ℕ} → AreWaiting st k [] []
  was_applied : {k : ℕ} {names : List ℕ} {others : List (List ℕ)} {waiting : List ℕ}
      → is_applied st k ≡ true → AreWaiting st (k + 1) others waiting
      → AreWaiting st k (names ∷ others) waiting
  waits : {k : ℕ} {names : List ℕ} {others : List (List ℕ)} {waiting : List ℕ}
      → is_applied st k ≡ false → AreWaiting st (k + 1) others waiting
      → AreWaiting st k (names ∷ others) (k ∷ waiting)

-- The augments of modules at so many places: their paths have a step, and by numbers are those by
-- steps. The items of each block have numbers of their own, and no two augments have one number.
pub record ArePlaces (labels : List Label) (its : Items) (number : ℕ → ℕ) (path : ℕ → List Step)
    (first last : ℕ → ℕ) (paths : List (List ℕ)) : Type 0 where
  pub agree : (k : ℕ) (names : List ℕ) → slice_get paths k ≡ Some names
      → Agree labels its names (path k)
  pub steps : (k : ℕ) (names : List ℕ) → slice_get paths k ≡ Some names
      → (n : ℕ) × (ns : List ℕ) × (names ≡ n ∷ ns)
  pub items : (k : ℕ) → k < length paths → last k ≤ length labels
  pub apart : (j k x : ℕ) → j ≢ k → first j ≤ x → x < last j → (x < first k) ⊎ (last k ≤ x)
  pub numbers : (j k : ℕ) → j < length paths → k < length paths → j ≢ k → number j ≢ number k

-- nodes are shown by all that is at the top; and each augment that waits has its items in its
-- group, which show what its block gives
pub record AreBetween (labels : List Label) (its : Items) (giver_of : ℕ → Option ℕ) (number : ℕ → ℕ)
    (block : ℕ → Forest → Type 0) (first last : ℕ → ℕ)
    (many : ℕ) (st : State) (m : Forest) : Type 0 where
  pub room : length st.groups ≡ length labels + 1 + length st.ends
  pub copies : many ≤ length st.ends
  pub whole : Shows its st.groups 0 0 (length labels) m
  pub within : (i : ℕ) → Contains (members_of st.groups 0) i → i < length labels
  pub blocks : (k : ℕ) (b : Forest) → k < many → is_applied st k ≡ false → block k b
      → Shows its st.groups (group_of_augment labels k) (first k) (last k) b
  pub own : (k i : ℕ) → k < many → is_applied st k ≡ false
      → Contains (members_of st.groups (group_of_augment labels k)) i
      → ((first k ≤ i) × (i < last k)) × (giver_of i ≡ Some (number k))
  pub not_theirs : (k x i : ℕ) → k < many → is_applied st k ≡ false → x ≤ length labels
      → Contains (members_of st.groups x) i → giver_of i ≢ Some (number k)
  pub away : (k x : ℕ) → k < many → is_applied st k ≡ false → whole.owns x ≡ true
      → (x < first k) ⊎ (last k ≤ x)

-- this tells which nodes each block gives, where it is known
abbrev pub gives : (ℕ → Option Forest) → ℕ → Forest → Type 0
gives block k b = block k ≡ Some b

-- when all rounds are over, all that is at the top shows what the rounds make of the nodes
abbrev pub RoundsShow : List Label → Items → (giver_of : ℕ → Option ℕ) → Type 0
RoundsShow labels its giver_of =
    (number : ℕ → ℕ) (path : ℕ → List Step) (block : ℕ → Option Forest) (first last : ℕ → ℕ)
    (paths : List (List ℕ)) (st new : State) (waiting : List ℕ)
    (m end : Forest) → AreSources its giver_of → ArePlaces labels its number path first last paths
    → AreBetween labels its giver_of number (gives block) first last (length paths) st m
    → AreWaiting st 0 paths waiting
    → RoundsOn number path (gives block) waiting m end → AreApplied labels 0 paths st new
    → Shows its new.groups 0 0 (length labels) end
