-- Which node a member names.
use Rattle.std.specs.Prelude.{◌≡◌, ℕ, ◌+◌, ◌==◌, List, true, false, None}
use Rattle.std.specs.Str.{bytes_eq}
use Rattle.serde_json.specs.Data.{Members, no_members, member}
use Rattle.serde_json.specs.Find.{get_member}
use Rattle.yv_node_content.specs.declared.kind.NodeKind.{NodeKind}
use Rattle.yv_node_content.specs.Kinds.{is_data, is_passed}
use Rattle.yv_nodes.specs.declared.node.NodeId.{NodeId}
use Rattle.yv_nodes.specs.Tree.{count, Forest, Label, no_trees, node, tree}

-- the node of this number is called so exactly where it is the node n, which is a data node of kind
-- k
pub record IsNamed (key : List ℕ) (n : NodeId) (k : NodeKind) (number : ℕ)
    (l : Label) : Type 0 where
  pub called : is_data l.defined.kind ≡ true → bytes_eq l.member key ≡ (number == n.0)
  pub met : number ≡ n.0 → is_data l.defined.kind ≡ true
  pub alike : number ≡ n.0 → l.defined.kind ≡ k

-- of the data nodes of these trees, through choices and cases, the node n alone is called so, and
-- it is of kind k
abbrev pub AreNamed : List ℕ → NodeId → NodeKind → ℕ → Forest → Type 0
AreNamed key n k first no_trees = Unit {0}
AreNamed key n k first (tree (node l kids) ts) =
    IsNamed key n k first l × (is_passed l.defined.kind ≡ true → AreNamed key n k (first + 1) kids)
    × AreNamed key n k (first + 1 + count kids) ts

-- none of them is called so
abbrev pub AreUnnamed : List ℕ → Forest → Type 0
AreUnnamed key no_trees = Unit {0}
AreUnnamed key (tree (node l kids) ts) =
    (is_data l.defined.kind ≡ true → bytes_eq l.member key ≡ false)
    × (is_passed l.defined.kind ≡ true → AreUnnamed key kids) × AreUnnamed key ts

-- no name is there twice
abbrev pub AreKeys : Members → Type 0
AreKeys no_members = Unit {0}
AreKeys (member key d ms) = (get_member key ms ≡ None) × AreKeys ms
