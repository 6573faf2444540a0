-- Statements by the leafs that they name.
use Rattle.std.proofs.Common.{◌≡◌, ℕ, ◌≤◌, Bool, true, false, ◌&&◌, not, List, map, length, Option, Some, nat_lt, refl, sym, ap, ◌∙◌, arith}
use Rattle.std.specs.Prelude.{◌||◌}
use Rattle.std.specs.List.{list_any}
use Rattle.std.proofs.lemmas.Bool.Decides.{nat_tests}
use Rattle.yv_nodes.specs.declared.node.NodeId.{NodeId}
use Rattle.yv_nodes.specs.Rows.{Row}
use Rattle.yv_nodes.specs.Tree.{Forest, Tree}
use Rattle.yv_nodes.specs.Numbers.{rows_from}
use Rattle.yv_node_content.specs.Steps.{Step}
use Rattle.yv_node_keys.specs.Numbers.{tree_at, unique_leaf_at}
use Rattle.yv_node_keys.specs.Refusals.{is_bad_statement, is_bad_unique}
use Rattle.yv_node_keys.specs.InnerMixedConfig.{is_bad_statement_at, is_config_at, is_config_of, is_mixed_at}
use Rattle.yv_node_keys.proofs.Listing.{any_map, any_same, none_missing}
use Rattle.yv_node_keys.proofs.Meeting.{statement_is}

module _ (rows : List Row) (list : NodeId) (paths : List (List (Option Step))) (leafs : List NodeId) (are : map (λ (n : NodeId). Some n) leafs ≡ map (unique_leaf_at rows list) paths) where
  config_are : (wanted : Bool) → list_any (λ path. is_config_of rows wanted (unique_leaf_at rows list path)) paths ≡ list_any (is_config_at rows wanted) leafs
  config_are wanted =
      sym (any_map (is_config_of rows wanted) (unique_leaf_at rows list) paths)
      ∙ ap (list_any (is_config_of rows wanted)) (sym are)
      ∙ any_map (is_config_of rows wanted) (λ (n : NodeId). Some n) leafs

  -- a statement that misses no leaf is bad where leafs are mixed
  pub bad_is : is_bad_statement_at rows list paths ≡ is_mixed_at rows leafs
  bad_is =
      ap (λ (b : Bool). b || (list_any (λ path. is_config_of rows true (unique_leaf_at rows list path)) paths && list_any (λ path. is_config_of rows false (unique_leaf_at rows list path)) paths)) (none_missing (unique_leaf_at rows list) paths leafs are)
      ∙ ap (λ (b : Bool). b && list_any (λ path. is_config_of rows false (unique_leaf_at rows list path)) paths) (config_are true)
      ∙ ap (λ (b : Bool). list_any (is_config_at rows true) leafs && b) (config_are false)

pub not_false : (b : Bool) → true ≡ not b → b ≡ false
not_false true e = cc
not_false false e = refl

pub not_true : (b : Bool) → false ≡ not b → b ≡ true
not_true true e = refl
not_true false e = cc

few : (n : ℕ) → n ≤ 64 → nat_lt 64 n ≡ false
few n h = grind (arith, nat_tests)

-- no more than 64 statements are bad where one is
pub unique_is : (ts : Forest) (list : NodeId) (t : Tree) (statements : List (List (List (Option Step)))) → tree_at ts list ≡ Some t → length statements ≤ 64
    → list_any (is_bad_statement_at (rows_from 0 ts) list) statements ≡ is_bad_unique t statements
unique_is ts list t statements at h =
    any_same (is_bad_statement_at (rows_from 0 ts) list) (is_bad_statement t) (λ paths. statement_is ts list t paths at) statements
    ∙ sym (ap (λ (b : Bool). b || list_any (is_bad_statement t) statements) (few (length statements) h))
