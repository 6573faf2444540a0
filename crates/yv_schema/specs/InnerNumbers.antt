-- Only private clauses cite this: what is said as leafrefs, by number.
use Rattle.std.specs.Prelude.{◌≡◌, ℕ, Bool, List, Option, Some, slice_get}
use Rattle.std.specs.Option.{option_map}
use Rattle.std.specs.Ordering.{nat_cmp, bool_cmp, ordering_then}
use Rattle.std.specs.declared.cmp.Ordering.{Ordering}
use Rattle.std.specs.BTreeMap.{BTreeMap, get}
use Rattle.yv_link_scopes.specs.Files.{Files}
use Rattle.yv_node_paths.specs.LeafPaths.{AreLeafPaths}
use Rattle.yv_types.specs.Referrals.{path_at}
use Rattle.yv_node_leafrefs.specs.Schema.{Referral}
use Rattle.yv_schema.specs.Referrals.{referral_of_path}
use Rattle.yv_schema.specs.declared.number_table.NumberTable.{NumberTable}

-- the number is that of what is said; there is none where nothing is said
abbrev pub IsNumbered : List Referral → Option ℕ → Option Referral → Type 0
IsNumbered leafrefs number said =
    option_map (slice_get leafrefs) number ≡ option_map (λ (r : Referral). Some r) said

-- what is said keeps its number
abbrev pub KeepsNumbers : (old new : List Referral) → Type 0
KeepsNumbers old new = (k : ℕ) (r : Referral) → slice_get old k ≡ Some r → slice_get new k ≡ Some r

-- the number of the statement that has the path, and whether an instance is required
abbrev pub Key : Type 0
Key = ℕ × Bool

abbrev pub key_cmp : Key → Key → Ordering
key_cmp j k = ordering_then (nat_cmp j.0 k.0) (bool_cmp j.1 k.1)

-- what is known of a path is the number of what is said by it
abbrev pub AreOfPaths : Files → List Referral → BTreeMap Key (Option ℕ) → Type 0
AreOfPaths files leafrefs known =
    (key : Key) (number : Option ℕ) → get key_cmp known key ≡ Some number
    → IsNumbered leafrefs number (referral_of_path files key.1 (path_at files key.0))

-- what was read so far
abbrev pub said_in : NumberTable → List Referral
said_in numbered = numbered.leafrefs.items

-- the number that is known of a path
abbrev pub number_of : NumberTable → Key → Option (Option ℕ)
number_of numbered key = get key_cmp numbered.known key

-- what is known of the paths of these files
pub record AreNumbered (files : Files) (numbered : NumberTable) : Type 0 where
  pub paths : AreLeafPaths files numbered.paths
  pub known : AreOfPaths files numbered.leafrefs.items numbered.known
