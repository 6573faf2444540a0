-- What an expansion comes to is its final tree, and what is wrong with that is what is wrong.
use Rattle.std.proofs.Common.{◌≡◌, ◌∙◌, ℕ, List, map, length, Option, ap, subst}
use Rattle.yv_text_statement.specs.Order.{IsLeast}
use Rattle.yv_text_statement.specs.declared.refusal.Refusal.{Refusal}
use Rattle.yv_text_statement.proofs.Least.{least_same}
use Rattle.yv_text_statement.specs.Selection.{ModuleChoice}
use Rattle.yv_link_scopes.specs.Files.{Files, brief_of}
use Rattle.yv_link_scopes.specs.RowList.{rows_of}
use Rattle.yv_expand.specs.Tree.{Item}
use Rattle.yv_expand.specs.Expansion.{IsWhole}
use Rattle.yv_expand_statements.specs.StatementBlocks.{augments_of}
use Rattle.yv_expand_rounds.specs.Turns.{State}
use Rattle.yv_expand_refines.specs.Changes.{ChangesView, each}
use Rattle.yv_expand_refines.specs.Targets.{all_meant}
use Rattle.yv_expand_augments.specs.Refusals.{BadTarget}
use Rattle.yv_expand_augments.specs.FinalItems.{AreAugmentedTree}
use Rattle.yv_expand_uses.specs.Spots.{whole}
use Rattle.yv_expand_augments.specs.declared.final_tree.AugmentedTree.{AugmentedTree}
use Rattle.yv_expand_uses.specs.declared.spot.Spot.{Spot}
use Rattle.yv_expand_changes.specs.Changes.{all_changes}
use Rattle.yv_expand_tree.specs.Refusals.{BadFinal, BadStanding}
use Rattle.yv_expand_tree.specs.Final.{Final, IsFinal, changes_of, spots_of}
use Rattle.yv_expand_statements.specs.FileOrder.{marks_of, order_of}

module _ (files : Files) (full_tree : AugmentedTree) (missing : Option Refusal) where
  -- augments put these items so
  abbrev pub AreKnown : List Item → (augments : List ℕ) → Type 0
  AreKnown items augments =
      (st : State) × AreAugmentedTree (whole (map brief_of files) (rows_of files) augments (length items)) items st full_tree
      × IsLeast (BadTarget (whole (map brief_of files) (rows_of files) augments (length items)) items st) missing

  pub known_by : (read items : List Item) (lent augments : List ℕ) → read ≡ items → lent ≡ augments → AreKnown read lent → AreKnown items augments
  known_by read items lent augments p q k =
      subst (λ (ks : List ℕ). AreKnown items ks) q (subst (λ (xs : List Item). AreKnown xs lent) p k)

  abbrev pub final_of : (items : List Item) (augments : List ℕ) → AreKnown items augments → Final
  final_of items augments k = record { items = items; augments = augments; state = k.0; tree = k.1.tree.tree }

  pub is_final : (choice : ModuleChoice) (own : ℕ) (items : List Item) (augments : List ℕ) (k : AreKnown items augments)
      → IsWhole files (marks_of choice files) (order_of choice files) own items
      → augments ≡ augments_of (map brief_of files) (rows_of files) (marks_of choice files) → IsFinal choice files (final_of items augments k)
  is_final choice own items augments k is_whole are =
      record { own = own; expanded = is_whole; augments = are; grafted = k.1.grafted; is_tree = k.1.tree.is_tree }

  pub changes_are : (items : List Item) (augments : List ℕ) (k : AreKnown items augments) (spots : List Spot) (changes : ChangesView) → spots ≡ full_tree.spots.items
      → each changes ≡ all_changes files spots (all_meant full_tree.refined) → each changes ≡ changes_of files (final_of items augments k)
  changes_are items augments k spots changes p is =
      let f : Final = final_of items augments k in
      is ∙ ap (λ (ss : List Spot). all_changes files ss (all_meant full_tree.refined)) (p ∙ k.1.spots) ∙ ap (all_changes files (spots_of files f)) k.1.refined

-- what is wrong with the one final tree is what is wrong
pub final_least : (choice : ModuleChoice) (files : Files) → ((a b : Final) → IsFinal choice files a → IsFinal choice files b → a ≡ b) → (f : Final) (o : Option Refusal)
    → IsFinal choice files f → IsLeast (BadStanding files f) o → IsLeast (BadFinal choice files) o
final_least choice files one f o is h =
    least_same (BadStanding files f) (BadFinal choice files) o
    (λ r bad. record { final = f; is_final = is; stands = bad })
    (λ r bad. subst (λ (g : Final). BadStanding files g r) (one bad.final f bad.is_final is) bad.stands) h
