-- Where the paths of leafrefs lead (RFC 7950, sections 9.9.2 and 9.9.3).
use Rattle.std.specs.Prelude.{◌≡◌, ◌≢◌, ◌↔◌, ℕ, ◌+◌, ◌<◌, ◌^◌, Bool, true, false, List, [], ◌∷◌, length, Option, Some, slice_get}
use Rattle.yv_node_content.specs.Kinds.{is_data}
use Rattle.yv_node_content.specs.Steps.{Step}
use Rattle.yv_node_content.specs.declared.kind.NodeKind.{NodeKind}
use Rattle.yv_node_content.specs.declared.kind.NodeKind.TheVariants as kind
use Rattle.yv_nodes.specs.Link.{Link, reference_in}
use Rattle.yv_nodes.specs.Rows.{Row}
use Rattle.yv_node_leafrefs.specs.Above.{IsDataChild}
use Rattle.yv_node_leafrefs.specs.Schema.{Schema}
use Rattle.yv_node_leafrefs.specs.Targets.{RefersTo}
use Rattle.yv_node_leafrefs.specs.Ways.{Means}

-- a container or a list: no other data node has data nodes below it (section 3, "interior node")
abbrev pub is_inner : NodeKind → Bool
is_inner kind.Container = true
is_inner kind.List = true
is_inner _ = false

-- the node of this number is one
abbrev pub IsInner : List Row → ℕ → Type 0
IsInner rows c = (r : Row) × (slice_get rows c ≡ Some r) × (is_inner r.label.defined.kind ≡ true)

-- each of these nodes but the last is one
abbrev pub AreInner : List Row → List ℕ → Type 0
AreInner rows cs = (i c : ℕ) → i + 1 < length cs → slice_get cs i ≡ Some c → IsInner rows c

-- the steps of a path lead down from a place to another over these data nodes: each step means one
-- of them, in order
abbrev pub LeadsOver : List Row → (own : ℕ) → List (Option Step) → List ℕ → Option ℕ → Option ℕ
    → Type 0
LeadsOver rows own [] [] a b = a ≡ b
LeadsOver rows own [] (c ∷ cs) a b = ⊥
LeadsOver rows own (s ∷ ss) [] a b = ⊥
LeadsOver rows own (s ∷ ss) (c ∷ cs) a b =
    Means rows own a s c × LeadsOver rows own ss cs (Some c) b

-- only containers and lists have data nodes below them, choices and cases being passed over
abbrev pub OnlyInnerHold : List Row → Type 0
OnlyInnerHold rows = (p c module_file : ℕ) (name : List ℕ) (r : Row) → slice_get rows p ≡ Some r
    → is_data r.label.defined.kind ≡ true
    → IsDataChild rows (Some p) module_file name c → is_inner r.label.defined.kind ≡ true

-- this is the link of the leafref n: it refers to the target, and its path is absolute or begins
-- with `../`, and leads over these nodes, through containers and lists; whether it requires an
-- instance is what the leafref says
pub record IsLinkOf (s : Schema) (n : ℕ) (link : Link) : Type 0 where
  pub refers : RefersTo s n link.target
  pub climbs : link.climbs ≡ refers.ref.climbs
  pub begins : link.climbs ≢ Some 0
  pub way : LeadsOver s.rows refers.row.label.module_file refers.ref.steps link.steps refers.start
      (Some link.target)
  pub inner : AreInner s.rows link.steps
  pub is_required : link.is_required ≡ refers.ref.is_required

-- these are the links of a schema's leafrefs, each at the number of its leafref, and None at other
-- nodes; 32 bits tell the nodes apart
pub record AreLinks (s : Schema) (links : List (Option Link)) : Type 0 where
  pub few : length s.rows < 2 ^ 32
  pub long : length links ≡ length s.rows
  pub each : (n : ℕ) (link : Link) → (reference_in links n ≡ Some link) ↔ IsLinkOf s n link
