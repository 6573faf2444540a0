-- What contracts see of a place in a document.
use Rattle.std.specs.Prelude.{ℕ, List, ◌∷◌, [], ◌++◌, Bool, Option, None, Some, codes, if◌then◌else◌}
use Rattle.yv_node_content.specs.Kinds.{is_choice}
use Rattle.yv_nodes.specs.Member.{behind}
use Rattle.yv_nodes.specs.Tree.{Label}

-- a step of a path: a member's name, and its number from 1 where it is an entry or an item of an
-- array
pub record Place : Type 0 where
  pub member : List ℕ
  pub item : Option ℕ

-- what a member of this name is called in a path: after the name of its module, where it is written
-- with it, and a choice, which no member writes, in parentheses
abbrev pub member_text : (is_choice : Bool) → (module_name : Option (List ℕ)) → (name : List ℕ)
    → List ℕ
member_text is_choice module_name name =
    if is_choice then codes "(" ++ behind module_name name ++ codes ")" else behind module_name name

-- what a node is called in a path: a choice, which no member writes, by its name in parentheses
abbrev pub step_name : Label → List ℕ
step_name l = if is_choice l.defined.kind then codes "(" ++ l.member ++ codes ")" else l.member

-- a path with one more step
abbrev pub under : List Place → List ℕ → List Place
under path name = path ++ record { member = name; item = None } ∷ []

-- the place of an entry or an item, by its number from 1
abbrev pub at_item : List Place → List ℕ → ℕ → List Place
at_item path name number = path ++ record { member = name; item = Some number } ∷ []
