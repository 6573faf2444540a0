-- The whole expansion.
use Rattle.std.proofs.Common.{◌≡◌, ℕ, ◌+◌, ◌<◌, ◌++◌, Option, Bool, List, [], length, map, sym, ◌∙◌, ap, subst, arith, None, Some}
use Rattle.std.specs.List.{All, flat_map, slice_get}
use Rattle.std.proofs.lemmas.List.{length-map}
use Rattle.yv_link_scopes.specs.Files.{Files, Briefs, brief_of}
use Rattle.yv_link_scopes.specs.Rows.{Row}
use Rattle.yv_link_scopes.specs.RowList.{rows_of}
use Rattle.yv_expand_statements.specs.Limit.{Fits}
use Rattle.yv_expand_statements.specs.StatementBlocks.{given_at, given_before, block_of, augments_of, is_augment, is_node_or_uses, those}
use Rattle.yv_expand.specs.Tree.{Tree, Item, all_of, count, join, item_list}
use Rattle.yv_expand.specs.Expansion.{AreAdded, AreTrees, IsWhole}
use Rattle.yv_expand.specs.Expands.{blocks_of, Expands}
use Rattle.yv_expand.specs.InnerItems.{Lists, ArePlaced, Give, numbers_at, top_place, tops_before, origins}
use Rattle.yv_expand.proofs.Once.{Expanded, weighed}
use Rattle.yv_expand.proofs.Listing.{all_at}
use Rattle.yv_expand.proofs.GivenItems.{AreOf, gives, tree_before, trees_each, trees_of, trees_whole}
use Rattle.yv_expand.proofs.FiledItems.{given_lists, top_lists}

-- what files that fit the limit come to: their own trees in this order, and what their augments
-- give
pub record Given (files : Files) (marks : List Bool) (order : List ℕ) : Type 0 where
  pub trees : List Tree
  pub are : AreTrees (map brief_of files) (rows_of files) marks order trees
  pub added : List Tree
  pub are_added : AreAdded (map brief_of files) (rows_of files) marks added
  pub tops : Give (map brief_of files) (rows_of files)
      (origins (those is_node_or_uses (rows_of files) (flat_map (given_at (map brief_of files) (rows_of files) marks) order))) (all_of trees)
  pub others : Give (map brief_of files) (rows_of files)
      (origins (those is_node_or_uses (rows_of files) (blocks_of (rows_of files) (given_before (map brief_of files) (rows_of files) marks (length files))))) (all_of added)

pub files_give : (files : Files) (marks : List Bool) (order : List ℕ) (limit : ℕ) → All (λ file. file < length (map brief_of files)) order → Fits files marks limit
    → Given files marks order
files_give files marks order limit within (n, weigh, fits) =
    let briefs : Briefs = map brief_of files in
    let rows : List Row = rows_of files in
    let count : length briefs ≡ length files = length-map files brief_of in
    let numbers : List ℕ = given_before briefs rows marks (length files) in
    let found : Expanded briefs rows numbers n = weighed briefs rows weigh in
    let expand : (m file : ℕ) → slice_get order m ≡ Some file → (t : Tree) × Expands briefs rows (given_at briefs rows marks file) t =
    λ m file at. (
    let here : file < length briefs = all_at (λ k. k < length briefs) order m file within at in
    tree_before briefs rows marks (length files) found.tree found.expands file (omega (arith, here, count))
    ) in
    let (trees, are) = trees_each briefs rows (given_at briefs rows marks) order expand in
    let (added, each_added, expand_added, whole_added) = trees_of briefs rows (those is_augment rows numbers) found.given found.given_expands in
    let all : those is_augment rows numbers ≡ augments_of briefs rows marks =
    ap (λ (m : ℕ). those is_augment rows (given_before briefs rows marks m)) (sym count) in
    let moved : AreOf briefs rows (block_of rows) (augments_of briefs rows marks) added =
    subst (λ (l : List ℕ). AreOf briefs rows (block_of rows) l added) all (each_added, expand_added) in
    record {
      trees = trees;
      are = record { each = are.0; expands = are.1 };
      added = added;
      are_added = record { each = moved.0; expands = moved.1 };
      tops = gives briefs rows (trees_whole briefs rows (given_at briefs rows marks) order trees are);
      others = subst (Give briefs rows (origins (those is_node_or_uses rows (blocks_of rows numbers)))) whole_added (gives briefs rows found.given_expands);
    }

-- what is filed by file is what stands at the tops of the files that are given
pub firsts_are : (test : Row → Bool) (files : Files) (marks : List Bool) (lists : Lists) (firsts : List ℕ)
    → ArePlaced (top_place test (map brief_of files)) (rows_of files) (length (map brief_of files)) lists → firsts ≡ tops_before lists marks (length lists)
    → firsts ≡ those test (rows_of files) (given_before (map brief_of files) (rows_of files) marks (length files))
firsts_are test files marks lists firsts placed are =
    let briefs : Briefs = map brief_of files in
    let count : length briefs ≡ length files = length-map files brief_of in
    are ∙ ap (tops_before lists marks) (placed.each ∙ count) ∙ top_lists briefs (rows_of files) test lists marks (length files) placed (omega (arith, count))

-- what the augments among these give
pub added_are : (files : Files) (own : Lists) (numbers applied added : List ℕ)
    → ((b : ℕ) → b < length (rows_of files) → numbers_at own b ≡ those is_node_or_uses (rows_of files) (block_of (rows_of files) b))
    → applied ≡ those is_augment (rows_of files) numbers → added ≡ flat_map (numbers_at own) applied
    → added ≡ those is_node_or_uses (rows_of files) (blocks_of (rows_of files) numbers)
added_are files own numbers applied added are is given =
    given ∙ ap (flat_map (numbers_at own)) is ∙ given_lists (map brief_of files) (rows_of files) own are numbers

abbrev pub Lengths : Type 0
Lengths = (parent : Option ℕ) (first : ℕ) (t : Tree) → length (item_list parent first t) ≡ count t

abbrev pub Joins : Type 0
Joins = (parent : Option ℕ) (first : ℕ) (t u : Tree) → item_list parent first (join t u) ≡ item_list parent first t ++ item_list parent (first + count t) u

-- the items of the files' own trees, and what the augments give behind them
pub whole_is : (files : Files) (marks : List Bool) (order : List ℕ) → Lengths → Joins → (g : Given files marks order) (empty own all : List Item) (size : ℕ) → empty ≡ []
    → own ≡ empty ++ item_list None (length empty) (all_of g.trees) → all ≡ own ++ item_list None (length own) (all_of g.added) → size ≡ length own
    → IsWhole files marks order size all
whole_is files marks order lengths joins g empty own all size none first second long =
    let own_is : own ≡ item_list None 0 (all_of g.trees) = first ∙ ap (λ (xs : List Item). xs ++ item_list None (length xs) (all_of g.trees)) none in
    let count_is : length own ≡ count (all_of g.trees) = ap length own_is ∙ lengths None 0 (all_of g.trees) in
    let zero_is : count (all_of g.trees) ≡ 0 + count (all_of g.trees) = omega arith in
    record {
      trees = g.trees;
      are = g.are;
      added = g.added;
      are_added = g.are_added;
      own_are = long ∙ count_is;
      listed = second ∙ ap (λ (n : ℕ). own ++ item_list None n (all_of g.added)) (count_is ∙ zero_is)
          ∙ ap (λ (xs : List Item). xs ++ item_list None (0 + count (all_of g.trees)) (all_of g.added)) own_is
          ∙ sym (joins None 0 (all_of g.trees) (all_of g.added));
    }
