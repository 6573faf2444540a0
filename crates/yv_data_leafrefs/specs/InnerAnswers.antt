-- Only private clauses cite this: what is answered to each value of a leafref, by what a walk has
-- kept.
use Rattle.std.specs.Prelude.{◌≡◌, ℕ, zero, suc, ◌+◌, ◌-◌, ◌==◌, ◌&&◌, ◌||◌, nat_le, List, [], ◌∷◌, ◌++◌, map, Bool, true, false, Option, Some, None, if◌then◌else◌}
use Rattle.yv_values.specs.Same.{is_among, same_value}
use Rattle.yv_values.specs.Values.{Val}
use Rattle.yv_nodes.specs.Defaults.{defaults_of}
use Rattle.yv_nodes.specs.Link.{Link}
use Rattle.yv_nodes.specs.Rows.{Rows, row_at}
use Rattle.yv_data_leafrefs.specs.Findings.{Gains, Indexes, TargetValue, LeafrefValue, Position, position_at, Spreads, TargetDefault, Uses}
use Rattle.yv_data_leafrefs.specs.InnerLocations.{Location, value_path}
use Rattle.yv_data_leafrefs.specs.Place.{Place, step_name}
use Rattle.yv_data_leafrefs.specs.References.{path_unless}

-- the target's value was kept between the two
abbrev pub is_it : ℕ → Val → ℕ → ℕ → TargetValue → Bool
is_it n v first last k =
    (k.target == n) && same_value v k.value && nat_le first k.place && nat_le k.place last

abbrev pub is_within : ℕ → Val → ℕ → ℕ → List TargetValue → Bool
is_within n v first last [] = false
is_within n v first last (k ∷ ks) = is_it n v first last k || is_within n v first last ks

-- the target's defaults are in use between the two
abbrev pub is_here : ℕ → ℕ → ℕ → TargetDefault → Bool
is_here n first last u = (u.target == n) && nat_le first u.place && nat_le u.place last

abbrev pub is_used : ℕ → ℕ → ℕ → List TargetDefault → Bool
is_used n first last [] = false
is_used n first last (u ∷ us) = is_here n first last u || is_used n first last us

-- what was kept of targets, and where their defaults are in use
pub record Marks : Type 0 where
  pub kept : List TargetValue
  pub used : List TargetDefault

-- the defaults of a node
abbrev pub defaults_at : Rows → ℕ → List Val
defaults_at s n = defaults_of (row_at s (record { 0 = n })).label

-- a value of the target between the two is the same, or a default of it that is in use there
abbrev pub reaches : Rows → Marks → ℕ → Val → ℕ → ℕ → Bool
reaches s m n v first last =
    is_within n v first last m.kept || (is_used n first last m.used && is_among v (defaults_at s n))

-- so many objects further out
abbrev pub further_out : List Position → (many : ℕ) → ℕ → ℕ
further_out ps zero n = n
further_out ps (suc k) n = further_out ps k (position_at ps n).parent

-- the object that a path climbs to: the first `../` leaves the reference itself
abbrev pub climbed_to : List Position → Option ℕ → ℕ → ℕ
climbed_to ps None n = 0
climbed_to ps (Some k) n = further_out ps (k - 1) n

abbrev pub place_at : Rows → ℕ → Option ℕ → Place
place_at s n number =
    record { member = step_name (row_at s (record { 0 = n })).label; item = number }

-- where a node is in the object of this number
abbrev pub location_of : Rows → (outer n : ℕ) → Option ℕ → Location
location_of s outer n number = record { outer = outer; place = place_at s n number }

-- where the objects are that were entered
abbrev pub objects_of : Rows → List Position → List Location
objects_of s ps = map (λ p. location_of s p.parent p.node p.item) ps

-- the paths of values in them
abbrev pub paths_of : Rows → List Position → List Location → List (List Place)
paths_of s ps vs = map (value_path (objects_of s ps)) vs

abbrev pub path_of : Rows → List Position → LeafrefValue → List Place
path_of s ps n = value_path (objects_of s ps) (location_of s n.position n.node n.item)

abbrev pub judge_link : Rows → Marks → List Position → LeafrefValue → Option Link
    → List (List Place)
judge_link s m ps n None = []
judge_link s m ps n (Some link) =
    let from = climbed_to ps link.climbs n.position in
    path_unless (reaches s m link.target n.value from (position_at ps from).last) (path_of s ps n)

abbrev pub judge : Rows → (ℕ → Option Link) → Marks → List Position → LeafrefValue
    → List (List Place)
judge s links m ps n = judge_link s m ps n (links n.node)

abbrev pub judge_all : Rows → (ℕ → Option Link) → Marks → List Position → List LeafrefValue
    → List (List Place)
judge_all s links m ps [] = []
judge_all s links m ps (n ∷ ns) = judge s links m ps n ++ judge_all s links m ps ns

-- these indexes and these places, which the walk kept from the start on
abbrev pub AreMarks : Indexes → Uses → Marks → Type 0
AreMarks indexes uses m = Gains [] indexes m.kept × Spreads [] uses m.used

-- each node that a link has as its target is one
abbrev pub AreTargets : (ℕ → Option Link) → (ℕ → Bool) → Type 0
AreTargets links is_target =
    (n : ℕ) (link : Link) → links n ≡ Some link → is_target link.target ≡ true

-- how often an index is asked
abbrev pub asked_once : Option Link → ℕ
asked_once None = 0
asked_once (Some link) = 1

abbrev pub count_leafrefs : (ℕ → Option Link) → List LeafrefValue → ℕ
count_leafrefs links [] = 0
count_leafrefs links (n ∷ ns) = asked_once (links n.node) + count_leafrefs links ns
