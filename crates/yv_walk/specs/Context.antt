-- One object of a document, as its members were looked up.
use Rattle.std.specs.Prelude.{◌≡◌, ℕ, ◌+◌, List, [], ◌∷◌, ◌++◌, map, true, Some, None, if◌then◌else◌}
use Rattle.serde_json.specs.Data.{Members, no_members, member}
use Rattle.serde_json.specs.Find.{get_member}
use Rattle.serde_json.specs.View.{members_view}
use Rattle.yv_node_content.specs.Kinds.{is_data}
use Rattle.yv_nodes.specs.declared.node.NodeId.{NodeId}
use Rattle.yv_nodes.specs.Rows.{Rows, row_at}
use Rattle.yv_nodes.specs.Tree.{Forest}
use Rattle.yv_schema_tables.specs.Sound.{is_known, object_trees}
use Rattle.yv_walk.specs.declared.context.Context.{Context}
use Rattle.yv_walk.specs.Marks.{AreMarked}
use Rattle.yv_walk.specs.Existence.{stands_in}
use Rattle.yv_walk.specs.WrittenValues.{value_at}

-- how many members there are
abbrev pub members_len : Members → ℕ
members_len no_members = 0
members_len (member key d ms) = 1 + members_len ms

-- the members that name none of these trees, in their order
abbrev pub unknown_names : Forest → Members → List (List ℕ)
unknown_names ts no_members = []
unknown_names ts (member key d ms) =
    (if is_known ts key then [] else key ∷ []) ++ unknown_names ts ms

-- the node whose object it is
abbrev pub parent_of : Context → NodeId
parent_of c = c.parent

-- the members of the object; of one that isn't written there are none
abbrev pub members_of : Context → Members
members_of c = elim c.members [
  | None ↦ no_members
  | Some m ↦ members_view m.now.entries
]

-- the names that were met and name no node
abbrev pub unknown_of : Context → List (List ℕ)
unknown_of c = map (λ k. k.now) c.unknown.items

-- what was looked up is what the members of the object write: the value of each data node that is
-- in it, what exists in each choice and case that is in it, and the members that name no node
pub record IsContext (s : Rows) (c : Context) : Type 0 where
  pub values : (n : NodeId) → stands_in s (parent_of c) n ≡ true
      → is_data (row_at s n).label.defined.kind ≡ true
      → value_at c.values n.0 ≡ get_member (row_at s n).label.member (members_of c)
  pub marks : AreMarked s (parent_of c) c.marks (members_of c)
  pub unknown : unknown_of c ≡ unknown_names (object_trees s (parent_of c)) (members_of c)
