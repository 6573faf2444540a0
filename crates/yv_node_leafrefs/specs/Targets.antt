-- What leafrefs refer to (RFC 7950, section 9.9).
use Rattle.std.specs.Prelude.{◌≡◌, ℕ, ◌&&◌, not, ◌||◌, Bool, true, false, Option, Some, None, slice_get}
use Rattle.yv_node_content.specs.declared.kind.NodeKind.{NodeKind}
use Rattle.yv_node_content.specs.declared.kind.NodeKind.TheVariants as kind
use Rattle.yv_nodes.specs.Rows.{Row}
use Rattle.yv_node_leafrefs.specs.Schema.{Referral, Schema}
use Rattle.yv_node_leafrefs.specs.Above.{IsInside}
use Rattle.yv_node_leafrefs.specs.Ways.{Begins, Leads}
use Rattle.yv_node_content.specs.Kinds.{has_values}

-- the node is a leafref, and says this. Inside operations and notifications none is asked for
pub record IsLeafref (s : Schema) (n : ℕ) (row : Row) (ref : Referral) : Type 0 where
  pub at : slice_get s.rows n ≡ Some row
  pub says : s.says n ≡ Some ref
  pub outside : IsInside s.rows (Some n) → ⊥

-- a node may be the target of a leafref: it has values, and where an instance is required that of
-- configuration is configuration
abbrev pub is_fit : (row : Row) → Referral → (target : Row) → Bool
is_fit row ref target =
    has_values target.label.defined.kind
    && (not (ref.is_required && row.label.is_config) || target.label.is_config)

-- the leafref refers to the target
pub record RefersTo (s : Schema) (n target : ℕ) : Type 0 where
  pub row : Row
  pub ref : Referral
  pub is_leafref : IsLeafref s n row ref
  pub start : Option ℕ
  pub begins : Begins s.rows n ref.climbs start
  pub leads : Leads s.rows row.label.module_file ref.steps start (Some target)
  pub found : Row
  pub at : slice_get s.rows target ≡ Some found
  pub fit : is_fit row ref found ≡ true

-- a leafref leads to its target, and to all that this leads to
pub data LeadsTo (s : Schema) : ℕ → ℕ → Type 0 where
  by_step : {a b : ℕ} → RefersTo s a b → LeadsTo s a b
  by_way : {a b c : ℕ} → RefersTo s a b → LeadsTo s b c → LeadsTo s a c

-- the node whose types the values of a node have: the node itself, where it refers to none, else
-- that of its target
pub data HasTypesOf (s : Schema) : ℕ → ℕ → Type 0 where
  own : {n : ℕ} → ((target : ℕ) → RefersTo s n target → ⊥) → HasTypesOf s n n
  along : {n target e : ℕ} → RefersTo s n target → HasTypesOf s target e → HasTypesOf s n e
