-- Mandatory nodes, and what is wrong with defaults (RFC 7950, sections 3, 7.6.5, 7.7.4, 7.9.3 and
-- 7.9.4).
use Rattle.std.specs.Prelude.{◌≡◌, ◌⊎◌, ◌==◌, ℕ, nat_lt, Bool, true, false, not, ◌&&◌, ◌||◌, List, length, Option, Some, None, is_some, if◌then◌else◌}
use Rattle.std.specs.Str.{bytes_eq}
use Rattle.yv_text_statement.specs.declared.refusal.Refusal.{Refusal}
use Rattle.yv_text_statement.specs.declared.refusal.Code.TheVariants as code
use Rattle.yv_text_statement.specs.Order.{Among, Stands}
use Rattle.yv_node_content.specs.declared.kind.NodeKind.{NodeKind}
use Rattle.yv_node_content.specs.declared.kind.NodeKind.TheVariants as kind
use Rattle.yv_values.specs.Same.{has_same}
use Rattle.yv_node_content.specs.Definition.{Definition, defaults_said, own_default}
use Rattle.yv_text_statement.specs.TextInFile.{TextInFile}
use Rattle.yv_node_content.specs.Kinds.{is_case, is_choice}
use Rattle.yv_nodes.specs.Tree.{Label, Tree, node, Forest, no_trees, tree}
use Rattle.yv_nodes.specs.Defaults.{defaults_of}
use Rattle.yv_nodes.specs.Places.{Place, places}
use Rattle.yv_nodes.specs.Refusals.{refusal_of}
use Rattle.yv_nodes.specs.Children.{child_of_text}
use Rattle.yv_node_content.specs.Kinds.{has_values}

-- a node of a kind is mandatory, where `below` says that a node directly under it is (RFC 7950,
-- section 3, "mandatory node")
abbrev pub is_needed_as : NodeKind → Definition → (below : Bool) → Bool
is_needed_as kind.Leaf d below = d.is_mandatory
is_needed_as kind.Choice d below = d.is_mandatory
is_needed_as kind.Anydata d below = d.is_mandatory
is_needed_as kind.Anyxml d below = d.is_mandatory
is_needed_as kind.List d below = nat_lt 0 d.min
is_needed_as kind.LeafList d below = nat_lt 0 d.min
is_needed_as kind.Container d below = not d.has_presence && below
is_needed_as _ d below = false

-- a node has to be there, by itself or by what is below it
abbrev pub is_needed : Label → (below : Bool) → Bool
is_needed l below = is_needed_as l.defined.kind l.defined below

-- one of these trees is that of a mandatory node
abbrev pub has_mandatory : Forest → Bool
has_mandatory no_trees = false
has_mandatory (tree (node l kids) ts) = is_needed l (has_mandatory kids) || has_mandatory ts

-- the default case of a choice: a case, or a node that is a case of its own, of the choice's own
-- module (RFC 7950, section 7.9.3)
abbrev pub default_case : Place → Option Tree
default_case p = child_of_text p.label.module_file (own_default p.label.defined) p.kids

-- a mandatory node is directly under a case: the node itself, where that is a case of its own
abbrev pub is_needed_in : Option Tree → Bool
is_needed_in None = false
is_needed_in (Some (node l kids)) =
    if is_case l.defined.kind then has_mandatory kids else is_needed l (has_mandatory kids)

-- a node of a kind may have no default of its own: a leaf or choice with `mandatory true`, and a
-- leaf-list with an entry at least (RFC 7950, sections 7.6.4, 7.7.4 and 7.9.3)
abbrev pub forbids_default_as : NodeKind → Definition → Bool
forbids_default_as kind.Leaf d = d.is_mandatory
forbids_default_as kind.Choice d = d.is_mandatory
forbids_default_as kind.LeafList d = nat_lt 0 d.min
forbids_default_as _ d = false

-- it has one nevertheless
abbrev pub is_overruled : Label → Bool
is_overruled l = forbids_default_as l.defined.kind l.defined && is_some (own_default l.defined)

-- a choice whose default isn't a case of it, where `found` says that it is one
abbrev pub is_caseless : Label → (found : Bool) → Bool
is_caseless l found = is_choice l.defined.kind && (is_some (own_default l.defined) && not found)

-- a leaf or leaf-list that has fewer values by its defaults than it has defaults: no type of it
-- reads one. Of a key and of a mandatory leaf no default is asked (RFC 7950, sections 7.6.1 and
-- 7.8.2)
abbrev pub is_illegible : Label → Bool
is_illegible l =
    has_values l.defined.kind
    && (not (l.is_key || l.defined.is_mandatory)
    && nat_lt (length (defaults_of l)) (length (defaults_said l.defined)))

-- a node with more defaults of its own than it may have
abbrev pub is_crowded : Label → Bool
is_crowded l = nat_lt 1024 (length l.defined.own_defaults)

-- a configuration node that has one value twice by its defaults, as a leaf-list that is written may
-- not (RFC 7950, section 7.7)
abbrev pub has_duplicate_default : Label → Bool
has_duplicate_default l = l.is_config && has_same l.defined.defaults

-- a node's defaults don't give it values, or not these
abbrev pub has_unfit_default : Label → Bool
has_unfit_default l = is_illegible l || is_crowded l || has_duplicate_default l

-- f is what is wrong with a node's default
abbrev pub BadOfDefault : Place → Refusal → Type 0
BadOfDefault p f =
    (Stands (is_overruled p.label ≡ true) (refusal_of code.BadMandatory p.label) f
    ⊎ Stands (is_needed_in (default_case p) ≡ true) (refusal_of code.BadMandatory p.label) f)
    ⊎ (Stands (is_caseless p.label (is_some (default_case p)) ≡ true)
    (refusal_of code.BadDefault p.label) f
    ⊎ Stands (has_unfit_default p.label ≡ true) (refusal_of code.BadDefault p.label) f)

-- f is in a schema tree
abbrev pub BadByDefault : Forest → Refusal → Type 0
BadByDefault ts f = Among (places ts) (λ k. BadOfDefault) (length (places ts)) f
