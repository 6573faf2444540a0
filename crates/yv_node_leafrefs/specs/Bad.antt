-- What is wrong with the leafrefs of a schema tree (RFC 7950, section 9.9).
use Rattle.std.specs.Prelude.{ℕ, ◌⊎◌, length}
use Rattle.yv_text_statement.specs.Order.{Stands, Among}
use Rattle.yv_text_statement.specs.declared.refusal.Refusal.{Refusal}
use Rattle.yv_text_statement.specs.declared.refusal.Code.TheVariants as code
use Rattle.yv_nodes.specs.Rows.{Row}
use Rattle.yv_nodes.specs.Refusals.{refusal_of}
use Rattle.yv_node_leafrefs.specs.Schema.{Referral, Schema}
use Rattle.yv_node_leafrefs.specs.Targets.{IsLeafref, RefersTo, LeadsTo}

-- a leafref that refers to nothing
pub record IsLost (s : Schema) (n : ℕ) (row : Row) : Type 0 where
  pub ref : Referral
  pub is_leafref : IsLeafref s n row ref
  pub lost : (target : ℕ) → RefersTo s n target → ⊥

-- what is wrong with a node: it is a leafref that refers to nothing, or it leads to itself. What
-- leads into a cycle is not wrong
abbrev pub BadLeafref : Schema → ℕ → Row → Refusal → Type 0
BadLeafref s n r f =
    Stands (IsLost s n r) (refusal_of code.BadPath r.label) f
    ⊎ Stands (LeadsTo s n n) (refusal_of code.PathCycle r.label) f

-- f is in a schema tree
abbrev pub BadLeafrefs : Schema → Refusal → Type 0
BadLeafrefs s f = Among s.rows (BadLeafref s) (length s.rows) f
