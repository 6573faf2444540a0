-- Where the path of an augment of a uses leads in its turn (RFC 7950, section 7.17).
use Rattle.std.specs.Prelude.{◌≡◌, ℕ, ◌<◌, ◌≤◌, ◌⊎◌, List, Option, Some, None}
use Rattle.std.specs.List.{Contains}
use Rattle.std.specs.Option.{option_and_then}
use Rattle.yv_expand_rounds.specs.declared.end.End.TheVariants as end
use Rattle.yv_expand_rounds.specs.declared.label.Label.{Label}
use Rattle.yv_expand_rounds.specs.Groups.{Groups, members_of}
use Rattle.yv_expand_rounds.specs.Paths.{path_end}
use Rattle.yv_expand_rounds.specs.Turns.{target}
use Rattle.yv_expand_definition.specs.Nodes.{Forest, Node}
use Rattle.yv_expand_definition.specs.Paths.{Step}
use Rattle.yv_expand_laws.specs.Comes.{Hits, Misses}
use Rattle.yv_expand_laws.specs.Shows.{Agree, Items, Shows}

-- the item to which an augment adds whose path begins in a group and leads to what comes before a
-- limit
abbrev pub reached_in : List Label → Groups → (g limit : ℕ) → List ℕ → Option ℕ
reached_in labels groups g limit names =
    option_and_then (target labels) (path_end labels groups limit names (end.Start g))

-- Where its path leads to a node that may be its target, it adds to the item that shows this; and
-- where it leads to none, to no item. The limit is that of its turn, or the end of the uses where
-- it gives nothing.
abbrev pub PathsReach : List Label → Items → Type 0
PathsReach labels its =
    (groups : Groups) (g lo hi limit : ℕ) (names : List ℕ) (ss : List Step) (m : Forest)
    → hi ≤ limit
    → ((i : ℕ) → Contains (members_of groups g) i → ((lo ≤ i) × (i < hi)) ⊎ (limit ≤ i))
    → ((i j : ℕ) → Contains (members_of groups g) i → Contains (members_of groups g) j
    → its.given i ≡ its.given j)
    → Agree labels its names ss → Shows its groups g lo hi m
    → ((node : Node) (below put there : Forest) → Hits ss m node below put there
    → (i : ℕ) × (reached_in labels groups g limit names ≡ Some i) × (node ≡ its.node_of i)
    × (lo ≤ i) × (i < hi))
    × (Misses ss m → reached_in labels groups g limit names ≡ None)
