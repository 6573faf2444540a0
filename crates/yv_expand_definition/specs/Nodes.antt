-- The nodes of a schema as a tree, before any condition is asked (RFC 7950, sections 3, 7.12, 7.13
-- and 7.17).
use Rattle.std.specs.Prelude.{ℕ, nat_lt, Bool, false, List, ◌∷◌, ◌++◌, Option, Some, None, if◌then◌else◌}
use Rattle.yv_expand_statements.specs.declared.statement_kind.StatementKind.{StatementKind}
use Rattle.yv_expand_statements.specs.declared.origin.Origin.{Origin}
use Rattle.yv_expand_statements.specs.Origin.{number_of}

-- a node: the numbered statement that gives it (of an operation's part that isn't written, the
-- operation), the uses and augments round this, innermost first; the file of the module to which it
-- belongs; its kind and name; the refines that change it, in the order in which they do; and the
-- augment of a module in whose block it is, if it is in one, a uses there being looked through
pub record Node : Type 0 where
  pub origin : Origin
  pub under : List ℕ
  pub module_file : ℕ
  pub kind : StatementKind
  pub name : List ℕ
  pub refines : List ℕ
  pub giver : Option ℕ

-- nodes of one parent in order: the first, what is below it, and what comes after it
pub data Forest : Type 0 where
  none : Forest
  node : (first : Node) → (below behind : Forest) → Forest

-- two lists of nodes, one after the other
abbrev pub join : Forest → Forest → Forest
join none others = others
join (node g below behind) others = node g below (join behind others)

-- the statements whose conditions are those of a node
abbrev pub if_feature_statements : Node → List ℕ
if_feature_statements g = number_of g.origin ∷ g.under ++ g.refines

-- nodes that the augment of a module gives
abbrev pub nodes_given : (augment : ℕ) → Forest → Forest
nodes_given a none = none
nodes_given a (node g below behind) =
    node (record g { giver = Some a }) below (nodes_given a behind)

-- a node is given by a later augment than this one
abbrev pub is_later : (augment : ℕ) → (giver : Option ℕ) → Bool
is_later a None = false
is_later a (Some b) = nat_lt a b

-- nodes that the augment of a module gives, among those that are there: after these but for those
-- that later augments give, by file and statement, so the order doesn't depend on the round
abbrev pub insert : (augment : ℕ) → (nodes : Forest) → (there : Forest) → Forest
insert a nodes none = nodes
insert a nodes (node g below behind) =
    if is_later a g.giver then join nodes (node g below behind)
    else node g below (insert a nodes behind)
