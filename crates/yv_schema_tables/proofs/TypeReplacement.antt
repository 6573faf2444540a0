-- Nodes with other types.
use Rattle.std.proofs.Common.{◌≡◌, ◌<◌, ℕ, zero, suc, ◌+◌, List, [], ◌∷◌, length, All, slice_index_or, refl, sym, ap, ◌∙◌, subst, if◌then◌else◌, Option, Some}
use Rattle.yv_values.specs.Types.{Plain}
use Rattle.yv_node_content.specs.Kinds.{is_passed}
use Rattle.yv_nodes.specs.declared.node.NodeId.{NodeId}
use Rattle.yv_nodes.specs.Member.{data_module_file, member_name}
use Rattle.yv_nodes.specs.Rows.{Module, Note, Row, Rows, blank_row}
use Rattle.yv_nodes.specs.Tree.{count, Forest, Label, no_trees, node, tree}
use Rattle.yv_nodes.specs.NodeTypes.{label_with_types, typed_from, typed_rows}
use Rattle.yv_nodes.specs.Link.{Link}
use Rattle.yv_schema_tables.specs.NodeNumbers.{AreFormed, IsFormed, made_of}
use Rattle.yv_schema_tables.specs.Sound.{IsChild, IsNote}

formed_one : (modules : List Module) (ts : List Plain) (above others : List Label) (l : Label) → data_module_file above ≡ data_module_file others
    → IsFormed modules above l → IsFormed modules others (label_with_types ts l)
formed_one modules ts above others l same own = record {
  of_module = own.of_module;
  plain = own.plain;
  member = own.member ∙ ap (λ (h : Option ℕ). member_name h l.module_file l.module_name l.defined.name) same;
}

pub formed : (modules : List Module) (types : ℕ → List Plain) (above others : List Label) → data_module_file above ≡ data_module_file others → (first : ℕ) (ts : Forest)
    → AreFormed modules above ts → AreFormed modules others (typed_from types first ts)
formed modules types above others same first no_trees h = tt
formed modules types above others same first (tree (node l kids) ts) (own, inner, behind) = (
  formed_one modules (types first) above others l same own,
  formed modules types (l ∷ above) (label_with_types (types first) l ∷ others)
      (ap (λ (h : Option ℕ). if is_passed l.defined.kind then h else Some l.module_file) same) (first + 1) kids inner,
  formed modules types above others same (first + 1 + count kids) ts behind,
)

module _ (types : ℕ → List Plain) where
  long : (first : ℕ) (rows : List Row) → length (typed_rows types first rows) ≡ length rows
  long first [] = refl
  long first (r ∷ rs) = ap suc (long (first + 1) rs)

  same_parent : (first n : ℕ) (rows : List Row) → (slice_index_or (typed_rows types first rows) n blank_row).parent ≡ (slice_index_or rows n blank_row).parent
  same_parent first n [] = refl
  same_parent first zero (r ∷ rs) = refl
  same_parent first (suc n) (r ∷ rs) = same_parent (first + 1) n rs

  module _ (nodes : List Row) (top : List NodeId) (limit : ℕ) (modules : List Module) (notes : List Note) (links : List (Option Link)) where
    abbrev stated : Rows
    stated = made_of nodes top limit modules notes links

    abbrev retyped : Rows
    retyped = made_of (typed_rows types 0 nodes) top limit modules notes links

    within : (n : ℕ) → n < length nodes → n < length (typed_rows types 0 nodes)
    within n l = subst (λ (m : ℕ). n < m) (sym (long 0 nodes)) l

    child : (p c : NodeId) → IsChild stated p c → IsChild retyped p c
    child p c is = record { behind = is.behind; within = within c.0 is.within; above = same_parent 0 c.0 nodes ∙ is.above }

    note : (n : Note) → IsNote stated n → IsNote retyped n
    note n is = record { target = within n.target.0 is.target; given = λ k d l. child n.target (slice_index_or n.nodes k d) (is.given k d l) }

    pub all_notes : All (IsNote (made_of nodes top limit modules notes links)) notes → All (IsNote (made_of (typed_rows types 0 nodes) top limit modules notes links)) notes
    all_notes are = λ k d l. note (slice_index_or notes k d) (are k d l)
