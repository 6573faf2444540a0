-- What a refine makes of what is shown (RFC 7950, section 7.13.2).
use Rattle.std.specs.Prelude.{◌≡◌, ℕ, ◌<◌, ◌≤◌, ◌==◌, ◌⊎◌, false, List, [], ◌∷◌, ◌++◌, if◌then◌else◌, Some}
use Rattle.std.specs.List.{Contains}
use Rattle.yv_expand_rounds.specs.declared.end.End.TheVariants as end
use Rattle.yv_expand_rounds.specs.declared.label.Label.{Label}
use Rattle.yv_expand_rounds.specs.Groups.{Groups, members_of}
use Rattle.yv_expand_rounds.specs.Paths.{path_end}
use Rattle.yv_expand_definition.specs.Nodes.{Forest, Node}
use Rattle.yv_expand_definition.specs.Paths.{Leads, Step, at}
use Rattle.yv_expand_laws.specs.Shows.{Agree, Items, Shows}

-- one more refine changes an item
abbrev pub add_refine : Items → (item refine : ℕ) → Items
add_refine its i k = record its {
  node_of = λ x. if x == i
      then record (its.node_of x) { refines = (its.node_of x).refines ++ k ∷ [] }
      else its.node_of x;
}

-- a refine means the item that its path means among nodes, and the change is the same
abbrev pub RefineChanges : List Label → Items → Type 0
RefineChanges labels its =
    (groups : Groups) (g lo hi limit k : ℕ) (names : List ℕ) (ss : List Step)
    (m below there : Forest) (target : Node) → hi ≤ limit
    → ((i : ℕ) → Contains (members_of groups g) i → ((lo ≤ i) × (i < hi)) ⊎ (limit ≤ i))
    → ((i j : ℕ) → Contains (members_of groups g) i → Contains (members_of groups g) j
    → its.given i ≡ its.given j)
    → Agree labels its names ss → Shows its groups g lo hi m
    → Leads false ss m (at target below
    (record target { refines = target.refines ++ k ∷ [] }) below) there
    → (i : ℕ) × (path_end labels groups limit names (end.Start g) ≡ Some (end.Node i))
    × (target ≡ its.node_of i) × (lo ≤ i) × (i < hi)
    × Shows (add_refine its i k) groups g lo hi there

-- where nodes have none that a path means, it means no item
abbrev pub RefineMisses : List Label → Items → Type 0
RefineMisses labels its =
    (groups : Groups) (g lo hi limit i : ℕ) (names : List ℕ) (ss : List Step) (m : Forest)
    → hi ≤ limit
    → ((j : ℕ) → Contains (members_of groups g) j → ((lo ≤ j) × (j < hi)) ⊎ (limit ≤ j))
    → ((j l : ℕ) → Contains (members_of groups g) j → Contains (members_of groups g) l
    → its.given j ≡ its.given l)
    → Agree labels its names ss → Shows its groups g lo hi m
    → ((target : Node) (below there : Forest)
    → Leads false ss m (at target below target below) there → ⊥)
    → path_end labels groups limit names (end.Start g) ≡ Some (end.Node i) → ⊥
