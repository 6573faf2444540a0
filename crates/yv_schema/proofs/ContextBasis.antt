-- What a context tells of its basis.
use Rattle.std.proofs.Common.{◌≡◌, ℕ, List, [], ap, sym, ◌∙◌, subst, Option, Some, None}
use Rattle.std.specs.List.{slice_get, slice_index_or}
use Rattle.yv_text_statement.specs.Selection.{ModuleChoice}
use Rattle.yv_link_scopes.specs.Files.{Files}
use Rattle.yv_expand.specs.Tree.{Item, Node, Nodes, item_list}
use Rattle.yv_expand_refines.specs.Changes.{each, sequence_at}
use Rattle.yv_node_statements.specs.Definitions.{refined_definition}
use Rattle.yv_expand_statements.specs.Truth.{Truth}
use Rattle.yv_expand_tree.specs.Final.{Final, IsFinal, changes_of, spots_of}
use Rattle.yv_expand_tree.specs.FinalTree.{origin_at, source_at, targets_of}
use Rattle.yv_expand_tree.specs.Remains.{AreLeft}
use Rattle.yv_schema.specs.InnerContext.{Tells}
use Rattle.yv_schema.specs.InnerBasis.{NumberedBasis}
use Rattle.yv_schema.specs.InnerRows.{said_at}
use Rattle.yv_schema.specs.declared.context.Context.{Context}
use Rattle.yv_schema.proofs.AugmentNotes.{Follows, Kept}

-- a node that an augment gives stands below its target
abbrev pub StandBelow : Type 0
StandBelow = (choice : ModuleChoice) (files : Files) (truth : Truth) (f : Final) (nodes : Nodes) (place giver : ℕ) (x : Node) → IsFinal choice files f → AreLeft truth files f nodes
    → slice_get (item_list None 0 nodes) place ≡ Some x → source_at (spots_of files f) f.augments x.origin ≡ Some giver
    → (target : ℕ) × (node : Node) × (x.parent ≡ Some target) × (slice_get (item_list None 0 nodes) target ≡ Some node) × (slice_index_or (targets_of files f) giver None ≡ Some node.origin)

-- no item is left twice
abbrev pub NoneTwice : Type 0
NoneTwice = (choice : ModuleChoice) (files : Files) (truth : Truth) (f : Final) (nodes : Nodes) (i k : ℕ) (x y : Node) → IsFinal choice files f → AreLeft truth files f nodes
    → slice_get (item_list None 0 nodes) i ≡ Some x → slice_get (item_list None 0 nodes) k ≡ Some y → x.origin ≡ y.origin → i ≡ k

module _ (b : NumberedBasis) (c : Context) (tells : Tells b c) where
  pub final_is : IsFinal tells.choice b.files b.final
  final_is = subst (λ (f : Final). IsFinal tells.choice b.files f) tells.final tells.kept.is_final

  pub left_is : AreLeft b.truth b.files b.final b.nodes
  left_is =
      subst (λ (ns : Nodes). AreLeft b.truth b.files b.final ns) tells.nodes
      (subst (λ (f : Final). AreLeft b.truth b.files f tells.kept.nodes) tells.final tells.kept.are_left)

  pub follows : StandBelow → NoneTwice → Follows b
  follows below twice = record {
    given = λ place giver x. below tells.choice b.files b.truth b.final b.nodes place giver x final_is left_is;
    once = λ i k x y. twice tells.choice b.files b.truth b.final b.nodes i k x y final_is left_is;
  }

  pub kept : Kept b c.tree.now.spots c.tree.now.augments c.tree.now.left
  kept = record {
    spots_are = tells.kept.spots ∙ ap (spots_of b.files) tells.final;
    augments_are = tells.kept.augments ∙ ap (λ (f : Final). f.augments) tells.final;
    left_are = tells.kept.left ∙ ap (item_list None 0) tells.nodes;
  }

  -- the same is said of items of one origin that the same refines change
  pub same_said : (one other : ℕ) (s t : Option ℕ) → origin_at c.tree.now.items one ≡ origin_at c.tree.now.items other
      → slice_index_or (each c.tree.now.changes) one [] ≡ sequence_at c.tree.now.changes.sequences s
      → slice_index_or (each c.tree.now.changes) other [] ≡ sequence_at c.tree.now.changes.sequences t → s ≡ t → said_at b one ≡ said_at b other
  same_said one other s t from at_one at_other same =
      let items : c.tree.now.items ≡ b.final.items = tells.kept.items ∙ ap (λ (f : Final). f.items) tells.final in
      let all : each c.tree.now.changes ≡ changes_of b.files b.final = tells.kept.changes ∙ ap (changes_of b.files) tells.final in
      let origin : origin_at b.final.items one ≡ origin_at b.final.items other =
      ap (λ (xs : List Item). origin_at xs one) (sym items) ∙ from ∙ ap (λ (xs : List Item). origin_at xs other) items in
      let refines : slice_index_or (changes_of b.files b.final) one [] ≡ slice_index_or (changes_of b.files b.final) other [] =
      ap (λ (xs : List (List ℕ)). slice_index_or xs one []) (sym all) ∙ at_one ∙ ap (sequence_at c.tree.now.changes.sequences) same ∙ sym at_other
      ∙ ap (λ (xs : List (List ℕ)). slice_index_or xs other []) all in
      (λ i. refined_definition b.typing b.files (origin i) (refines i))
