-- What holds of the nodes of every schema: the names of siblings differ, and the default of a
-- choice is one of its cases.
use Rattle.std.specs.Prelude.{◌≡◌, ◌≢◌, ◌<◌, ℕ, true, List, Some, slice_get}
use Rattle.std.specs.Option.{is_some}
use Rattle.yv_node_checks.specs.Mandatory.{default_case}
use Rattle.yv_node_content.specs.Definition.{own_default}
use Rattle.yv_node_content.specs.Kinds.{is_choice}
use Rattle.yv_nodes.specs.Places.{Place, places}
use Rattle.yv_nodes.specs.Tree.{Forest, Label}
use Rattle.yv_schema_tables.specs.DuplicateNodes.{family, names_that_differ}

-- no two of these nodes have one module and one name
abbrev pub DifferInName : List Label → Type 0
DifferInName ls = (i k : ℕ) (a b : Label) → i < k → slice_get ls i ≡ Some a
    → slice_get ls k ≡ Some b → a.module_name ≡ b.module_name → a.defined.name ≢ b.defined.name

-- siblings differ, at the top and below each node (RFC 7950, section 6.2.1): nodes in choices and
-- cases are compared as if these were not there, and cases with the other cases of their choice
pub record SiblingsDiffer (ts : Forest) : Type 0 where
  pub top : DifferInName (names_that_differ ts)
  pub below : (k : ℕ) (p : Place) → slice_get (places ts) k ≡ Some p
      → DifferInName (family p.label.defined.kind p.kids)

-- where a choice has a default, one of its cases is that (section 7.9.3)
abbrev pub DefaultsAreCases : Forest → Type 0
DefaultsAreCases ts = (k : ℕ) (p : Place) → slice_get (places ts) k ≡ Some p
    → is_choice p.label.defined.kind ≡ true → is_some (own_default p.label.defined) ≡ true
    → is_some (default_case p) ≡ true
