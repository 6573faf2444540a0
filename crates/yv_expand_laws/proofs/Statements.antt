-- Each item of an expansion is made of a statement that is there.
use Rattle.std.proofs.Common.{◌≡◌, ℕ, zero, suc, ◌+◌, ◌<◌, Bool, List, [], ◌∷◌, ◌++◌, length, refl, subst, Option, Some, None}
use Rattle.std.specs.List.{slice_get}
use Rattle.std.proofs.lemmas.Option.{same_Some, slice_get_within}
use Rattle.yv_link_scopes.specs.Files.{Briefs}
use Rattle.yv_link_scopes.specs.Rows.{Row}
use Rattle.yv_expand_statements.specs.StatementBlocks.{block_of, first_of, is_at, is_input, is_output, part}
use Rattle.yv_expand_statements.specs.Origin.{number_of}
use Rattle.yv_expand.specs.Tree.{Item, Tree, all_of, count, item, join, item_list, none}
use Rattle.yv_expand_statements.specs.declared.origin.Origin.{Origin}
use Rattle.yv_expand_statements.specs.declared.origin.Origin.TheVariants.{Input, Output}
use Rattle.yv_expand.specs.Expands.{Expands}
use Rattle.yv_expand.specs.Expands.Expands.{nothing, other, node, operation, uses}
use Rattle.yv_expand_laws.specs.ItemProperties.{HaveStatements}
use Rattle.yv_expand_laws.proofs.BlockStatements.{first_passes, row_at}
use Rattle.yv_expand_laws.proofs.FoundItems.{not_none}

module _ (files : Briefs) (rows : List Row) where
  abbrev AllThere : Tree → Type 0
  AllThere none = Unit {0}
  AllThere (item o below behind) = (number_of o < length rows) × AllThere below × AllThere behind

  there_joined : (t u : Tree) → AllThere t → AllThere u → AllThere (join t u)
  there_joined none u T U = U
  there_joined (item o below behind) u (here, B, T) U = (here, B, there_joined behind u T U)

  -- an operation's part is made of the operation or of a statement that is there
  part_there : (unwritten : Origin) (test : Row → Bool) (block : List ℕ) → number_of unwritten < length rows → number_of (part unwritten (first_of test rows block)) < length rows
  part_there unwritten test block l = by (first_of test rows block) refl
    where
      by : (o : Option ℕ) → first_of test rows block ≡ o → number_of (part unwritten o) < length rows
      by None is = l
      by (Some j) is = (let row = row_at test rows j (first_passes (is_at test rows) block j is) in slice_get_within rows j row.0 row.1)

  all_there : {numbers : List ℕ} {t : Tree} → Expands files rows numbers t → AllThere t
  all_there nothing = tt
  all_there (other at is E) = all_there E
  all_there (node {k = k} {r = r} at is no_operation none_meant B E) = (slice_get_within rows k r at, all_there B, all_there E)
  all_there (operation {k = k} {r = r} at is I O E) =
      let l = slice_get_within rows k r at in
      (l, (part_there (Input k) is_input (block_of rows k) l, all_there I, (part_there (Output k) is_output (block_of rows k) l, all_there O, tt)), all_there E)
  all_there (uses {k = k} {r = r} {copies = copies} {given = given} at is meant C G E) =
      (slice_get_within rows k r at, there_joined copies given (all_there C) (all_there G), all_there E)

  in_either : (xs ys : List Item) → HaveStatements rows xs → HaveStatements rows ys → HaveStatements rows (xs ++ ys)
  in_either [] ys X Y i x at = Y i x at
  in_either (z ∷ xs) ys X Y zero x at = X zero x at
  in_either (z ∷ xs) ys X Y (suc i) x at = in_either xs ys (λ j y h. X (suc j) y h) Y i x at

  listed_there : (parent : Option ℕ) (n : ℕ) (t : Tree) → AllThere t → HaveStatements rows (item_list parent n t)
  listed_there parent n none T i x at = absurd (not_none at)
  listed_there parent n (item o below behind) (here, B, T) zero x at = subst (λ (y : Item). number_of y.origin < length rows) (same_Some (record { origin = o; parent = parent }) x at) here
  listed_there parent n (item o below behind) (here, B, T) (suc i) x at =
      in_either (item_list (Some n) (n + 1) below) (item_list parent (n + 1 + count below) behind) (listed_there (Some n) (n + 1) below B) (listed_there parent (n + 1 + count below) behind T) i x at

-- the items of the trees of files, and of the blocks of augments behind them, have theirs too
pub all_listed_there : (files : Briefs) (rows : List Row) (trees added : List Tree) → ((n : ℕ) (t : Tree) → slice_get trees n ≡ Some t → (numbers : List ℕ) × Expands files rows numbers t)
    → ((n : ℕ) (t : Tree) → slice_get added n ≡ Some t → (numbers : List ℕ) × Expands files rows numbers t) → HaveStatements rows (item_list None 0 (join (all_of trees) (all_of added)))
all_listed_there files rows trees added T A = listed_there files rows None 0 (join (all_of trees) (all_of added)) (there_joined files rows (all_of trees) (all_of added) (all_of_there trees T) (all_of_there added A))
  where
    all_of_there : (trees : List Tree) → ((n : ℕ) (t : Tree) → slice_get trees n ≡ Some t → (numbers : List ℕ) × Expands files rows numbers t) → AllThere files rows (all_of trees)
    all_of_there [] T = tt
    all_of_there (t ∷ ts) T = there_joined files rows t (all_of ts) (all_there files rows (T 0 t refl).1) (all_of_there ts (λ n u at. T (suc n) u at))

pub have_statements : (files : Briefs) (rows : List Row) (numbers : List ℕ) (t : Tree) (parent : Option ℕ) (n : ℕ) → Expands files rows numbers t → HaveStatements rows (item_list parent n t)
have_statements files rows numbers t parent n E = listed_there files rows parent n t (all_there files rows E)
