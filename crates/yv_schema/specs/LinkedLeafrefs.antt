-- The links of the leafrefs of a schema (RFC 7950, sections 9.9.2 and 9.9.3).
use Rattle.std.specs.Prelude.{◌≡◌, ℕ, List, Option, Some}
use Rattle.yv_text_statement.specs.Selection.{ModuleChoice}
use Rattle.yv_link_scopes.specs.Files.{Files}
use Rattle.yv_nodes.specs.Link.{Link, reference_in}
use Rattle.yv_nodes.specs.Rows.{Row}
use Rattle.yv_nodes.specs.Tree.{Forest}
use Rattle.yv_node_leafrefs.specs.Schema.{Referral}
use Rattle.yv_node_leafrefs.specs.Targets.{IsLeafref, RefersTo}
use Rattle.yv_schema.specs.Schema.{IsSchema, leafrefs_of}

-- each leafref of a schema tree outside operations and notifications refers to a node, and its link
-- leads there and says whether an instance is required
abbrev pub AreLinked : ModuleChoice → Files → Forest → List (Option Link) → Type 0
AreLinked choice files nodes links =
    (schema : IsSchema choice files nodes) (n : ℕ) (row : Row) (ref : Referral)
    → IsLeafref (leafrefs_of schema.basis) n row ref
    → (link : Link) × (reference_in links n ≡ Some link)
    × RefersTo (leafrefs_of schema.basis) n link.target
    × (link.is_required ≡ ref.is_required)
