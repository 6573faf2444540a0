-- Which rules hold where a node may be (RFC 7950, sections 7.6.5, 7.7.5 and 7.9.4): those of a case
-- where it exists, and else all; and the values that leafs and leaf-lists have there, defaults in
-- use among them (sections 7.6.1 and 7.7.2).
use Rattle.std.specs.Prelude.{ℕ, ◌==◌, ◌&&◌, Bool, true, false, not, List, [], ◌∷◌, Option, Some, None, if◌then◌else◌}
use Rattle.serde_json.specs.Data.{Data, Members}
use Rattle.yv_node_content.specs.declared.kind.NodeKind.{NodeKind}
use Rattle.yv_node_content.specs.declared.kind.NodeKind.TheVariants as kind
use Rattle.yv_text_statement.specs.declared.document_kind.Kind.{Kind}
use Rattle.yv_text_statement.specs.declared.document_kind.Kind.TheVariants.{All, ConfigOnly}
use Rattle.yv_values.specs.Reads.{first_read}
use Rattle.yv_values.specs.Values.{Val}
use Rattle.yv_nodes.specs.declared.node.NodeId.{NodeId}
use Rattle.yv_nodes.specs.Defaults.{defaults_of}
use Rattle.yv_nodes.specs.Rows.{Rows}
use Rattle.yv_nodes.specs.Tree.{Forest, Label, Tree}
use Rattle.yv_node_keys.specs.Numbers.{default_case_at}
use Rattle.yv_walk.specs.Existence.{any, any_but, has_items, existence_of, tree_standing}
use Rattle.yv_data_leafrefs.specs.declared.scope.RuleScope.{RuleScope}
use Rattle.yv_data_leafrefs.specs.declared.scope.RuleScope.TheVariants.{Always, InCase, InDefault, Unasked}

-- what is mandatory must be there: always, or where a node of the case exists
abbrev pub enforces : RuleScope → Bool
enforces Always = true
enforces (InCase those) = any those
enforces InDefault = false
enforces Unasked = false

-- the least number of entries is asked for: always, or where a node of the case exists beside the
-- list or leaf-list itself
abbrev pub enforces_beside : NodeId → RuleScope → Bool
enforces_beside n Always = true
enforces_beside n (InCase those) = any_but n those
enforces_beside n InDefault = false
enforces_beside n Unasked = false

-- defaults are in use: always, where a node of the case exists, or in the default case where no
-- case of the choice exists (sections 7.6.1 and 7.7.2)
abbrev pub uses_defaults : RuleScope → Bool
uses_defaults Always = true
uses_defaults (InCase those) = any those
uses_defaults InDefault = true
uses_defaults Unasked = false

-- some rule holds: none does for state where configuration only is asked for
abbrev pub is_asked : RuleScope → Bool
is_asked Unasked = false
is_asked _ = true

-- the scope of a node, by the scope around it and by the kind of document that is asked for
-- (section 7.21.1)
abbrev pub scope_in : Kind → (is_config : Bool) → RuleScope → RuleScope
scope_in All is_config scope = scope
scope_in ConfigOnly is_config scope = if is_config then scope else Unasked

-- a node that may be there has this number
abbrev pub is_number : Option NodeId → ℕ → Bool
is_number None at = false
is_number (Some n) at = n.0 == at

-- the scope of a choice's child, a case or a node that is its own: what exists of it in the object;
-- where no case exists, the default case is in a scope of its own
abbrev pub case_scope : Rows → (choice : NodeId) → (first : ℕ) → Forest → Members → (at : ℕ) → Tree
    → RuleScope
case_scope s choice first cases ms at t =
    if is_number (default_case_at s.nodes choice) at && not (any (existence_of first cases ms))
    then InDefault else InCase (tree_standing at t ms)

-- ---- the values of leafs

-- the value that a leaf, or an item of a leaf-list, has by its types (RFC 7951, section 6)
abbrev pub value_of : Label → Data → Option Val
value_of l d = first_read l.defined.types l.module_name d

-- one value or none
abbrev pub some_value : Option Val → List Val
some_value None = []
some_value (Some v) = v ∷ []

-- a leaf isn't written, or a leaf-list has no items: only these have defaults (sections 7.6.1 and
-- 7.7.2)
abbrev pub is_empty_at : NodeKind → Option Data → Bool
is_empty_at kind.Leaf None = true
is_empty_at kind.LeafList None = true
is_empty_at kind.LeafList (Some d) = not (has_items d)
is_empty_at _ found = false

-- the defaults that are in use of a node for which this is written: all of a leaf-list together
abbrev pub in_use : NodeKind → Label → RuleScope → Option Data → List Val
in_use k l scope found = if uses_defaults scope && is_empty_at k found then defaults_of l else []
