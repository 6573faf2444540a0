-- Only private clauses cite this: the first node of each key.
use Rattle.std.specs.Prelude.{◌↔◌, length, ◌≡◌, ℕ, ◌+◌, ◌==◌, ◌<◌, ◌≤◌, ◌^◌, ◌&&◌, Bool, List, if◌then◌else◌, Option, Some, None, map}
use Rattle.std.specs.List.{slice_get}
use Rattle.std.specs.Ordering.{nat_cmp, ordering_then}
use Rattle.std.specs.BTreeMap.{BTreeMap, get_by}
use Rattle.std.specs.List.{slice_index_or}
use Rattle.std.specs.Option.{unwrap_or}
use Rattle.yv_node_content.specs.Kinds.{is_data}
use Rattle.yv_node_content.specs.Steps.{Step}
use Rattle.yv_nodes.specs.Rows.{Row}
use Rattle.yv_node_leafrefs.specs.Ways.{Means}
use Rattle.yv_node_leafrefs.specs.InnerNames.{NameNumbers, told_of, stride_of}
use Rattle.yv_node_leafrefs.specs.InnerOutline.{rows_in, leafrefs_in, AreAbove, AreInside}
use Rattle.yv_node_leafrefs.specs.declared.index.Index.{Index}
use Rattle.yv_node_leafrefs.specs.declared.draft.Draft.{Draft}
use Rattle.yv_node_leafrefs.specs.declared.strides.Stride.{Stride}
use Rattle.yv_node_leafrefs.specs.declared.outline.Outline.{Outline}

-- the number of a place, of a module's file, and of a name
abbrev pub Key : Type 0
Key = ℕ × ℕ × ℕ

abbrev pub rank_of : Option ℕ → ℕ
rank_of None = 0
rank_of (Some p) = p + 1

abbrev pub Table : Type 0
Table = Key → Option ℕ

abbrev pub lookup_in : BTreeMap Key ℕ → Table
lookup_in m key = get_by
    (λ k. ordering_then (ordering_then (nat_cmp key.0 k.0) (nat_cmp key.1 k.1)) (nat_cmp key.2 k.2))
    m

abbrev pub table_of : Index → Table
table_of index = lookup_in index.map

abbrev pub is_same : Key → Key → Bool
is_same j k = ((j.0 == k.0) && (j.1 == k.1)) && (j.2 == k.2)

-- what a table has at k, where it had this there, and a node of key j was added
abbrev pub kept_first : Key → ℕ → Option ℕ → Key → Option ℕ
kept_first j number (Some first) k = Some first
kept_first j number None k = if is_same j k then Some number else None

abbrev pub HasKey : List (Option Key) → Key → ℕ → Type 0
HasKey keys k c = slice_get keys c ≡ Some (Some k)

-- the first node of a key among the first n nodes
abbrev pub IsFirstOf : List (Option Key) → ℕ → Key → Option ℕ → Type 0
IsFirstOf keys n k None = (d : ℕ) → d < n → HasKey keys k d → ⊥
IsFirstOf keys n k (Some c) = (c < n) × HasKey keys k c × ((d : ℕ) → HasKey keys k d → c ≤ d)

-- the key by which a data node is found below the place above it
abbrev pub data_key : Option ℕ → Row → (name : ℕ) → Option Key
data_key a r name =
    if is_data r.label.defined.kind then Some (rank_of a, r.label.module_file, name) else None

-- the keys of the first n nodes
abbrev pub AreKeys : List Row → List (Option ℕ) → List ℕ → ℕ → List (Option Key) → Type 0
AreKeys rows above names n keys =
    (length keys ≡ n)
    × ((c : ℕ) (r : Row) → c < n → slice_get rows c ≡ Some r
    → slice_get keys c ≡ Some (data_key (slice_index_or above c None) r (slice_index_or names c 0)))

-- what a step is found to mean
abbrev pub target_of_stride : Table → (own : ℕ) → Option ℕ → Option Stride → Option ℕ
target_of_stride table own a None = None
target_of_stride table own a (Some s) = table (rank_of a, unwrap_or s.module_file own, s.name)

-- a table finds what steps mean
abbrev pub Finds : List Row → NameNumbers → Table → Type 0
Finds rows told table =
    (own : ℕ) (a : Option ℕ) (s : Option Step) (c : ℕ)
    → (target_of_stride table own a (stride_of told s) ≡ Some c) ↔ Means rows own a s c

-- what has been read of nodes and leafrefs
pub record IsDraft (o : Outline) (d : Draft) : Type 0 where
  pub few : length (rows_in o) < 2 ^ 32
  pub each_above : length d.above.items ≡ length (rows_in o)
  pub above : AreAbove (rows_in o) (length (rows_in o)) d.above.items
  pub each_inside : length d.inside.items ≡ length (rows_in o)
  pub inside : AreInside (rows_in o) (length (rows_in o)) d.inside.items
  pub strides : map (λ strides. strides.items) d.strides.items
      ≡ map (λ ref. map (stride_of (told_of d.names)) ref.steps) (leafrefs_in o)
  pub found : Finds (rows_in o) (told_of d.names) (table_of d.index)
